-- Height: the largest number of sections that are open at once within a tree.
use Rattle.std.specs.Prelude.{ℕ, suc, max}
use Rattle.ud_model.specs.sections.Tree.{Nodes, Groups, Elifs, Head, Tree, nothing, text, section}
use Rattle.ud_model.specs.sections.Tree.{conditional, otherwise, first, elif, if_head, elif_head}
use Rattle.ud_model.specs.sections.Tree.{else_head, closed, open_section}

module _ {L : Type 0} where
  abbrev mutual
    -- `height_of_nodes ns`: the most sections open at once within the nodes.
    pub height_of_nodes : Nodes L → ℕ
    height_of_nodes nothing = 0
    height_of_nodes (text ns l) = height_of_nodes ns
    height_of_nodes (section ns gs e) = max (height_of_nodes ns) (suc (height_of_groups gs))

    -- `height_of_groups gs`: the most sections open at once within the groups, besides their own.
    pub height_of_groups : Groups L → ℕ
    height_of_groups (conditional es) = height_of_elifs es
    height_of_groups (otherwise es l ns) = max (height_of_elifs es) (height_of_nodes ns)

    -- `height_of_elifs es`: the most sections open at once within these groups, besides their own.
    pub height_of_elifs : Elifs L → ℕ
    height_of_elifs (first o ns) = height_of_nodes ns
    height_of_elifs (elif es o ns) = max (height_of_elifs es) (height_of_nodes ns)

  -- `height_of_head h`: the most sections open at once within the groups before the last opener.
  abbrev pub height_of_head : Head L → ℕ
  height_of_head (if_head o) = 0
  height_of_head (elif_head es o) = height_of_elifs es
  height_of_head (else_head es l) = height_of_elifs es

  -- `height t`: the most sections open at once within the text.
  abbrev pub height : Tree L → ℕ
  height (closed ns) = height_of_nodes ns
  height (open_section ns h t) = max (height_of_nodes ns) (suc (max (height_of_head h) (height t)))
