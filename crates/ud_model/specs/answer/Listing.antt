-- Listing: the names of a text's conditions.
-- unifdef(1), `-s` and `-S`.
--
-- The names in removed groups are listed too. The depth of a name is the number of sections around
-- its directive's own.
--
-- Example: of `#ifdef A`, `#ifdef B`, `#endif`, `#endif` the names are `0 A` and `1 B` under `-S`.
use Rattle.std.specs.Prelude.{ℕ, suc, List, [], ◌∷◌, ◌++◌, Bool, codes, decimal, if◌then◌else◌}
use Rattle.ud_model.specs.text.Scans.{Reading}
use Rattle.ud_model.specs.sections.Directives.{Content, cut_keyword, directive, text, content_of}
use Rattle.ud_model.specs.conditions.Names.{names_on}
use Rattle.ud_model.specs.sections.Tree.{Item, Nodes, Groups, Elifs, Head, Tree, nothing, section}
use Rattle.ud_model.specs.sections.Tree.{conditional, otherwise, first, elif, if_head, elif_head}
use Rattle.ud_model.specs.sections.Tree.{else_head, closed, open_section}
use Rattle.ud_model.specs.sections.Tree as tree
use Rattle.ud_model.specs.sections.Items.{reading_of}

module _ {L : Type 0} where
  abbrev mutual
    -- `levels_of_nodes n ns`: the levels of the nodes' lines, with `n` sections around the nodes.
    pub levels_of_nodes : ℕ → Nodes L → List ℕ
    levels_of_nodes n nothing = []
    levels_of_nodes n (tree.text ns l) = levels_of_nodes n ns ++ n ∷ []
    levels_of_nodes n (section ns gs e) = (levels_of_nodes n ns ++ levels_of_groups n gs) ++ n ∷ []

    -- `levels_of_groups n gs`: the levels of the groups' lines, with `n` sections around their own.
    pub levels_of_groups : ℕ → Groups L → List ℕ
    levels_of_groups n (conditional es) = levels_of_elifs n es
    levels_of_groups n (otherwise es l ns) =
        (levels_of_elifs n es ++ n ∷ []) ++ levels_of_nodes (suc n) ns

    -- `levels_of_elifs n es`: the levels of these groups' lines, with `n` sections around their
    -- own.
    pub levels_of_elifs : ℕ → Elifs L → List ℕ
    levels_of_elifs n (first o ns) = (n ∷ []) ++ levels_of_nodes (suc n) ns
    levels_of_elifs n (elif es o ns) =
        (levels_of_elifs n es ++ n ∷ []) ++ levels_of_nodes (suc n) ns

  -- `levels_of_head n h`: the levels of the lines up to the opener of the last group.
  abbrev pub levels_of_head : ℕ → Head L → List ℕ
  levels_of_head n (if_head o) = n ∷ []
  levels_of_head n (elif_head es o) = levels_of_elifs n es ++ n ∷ []
  levels_of_head n (else_head es l) = levels_of_elifs n es ++ n ∷ []

  -- `levels_from n t`: the levels of a text's lines, with `n` sections around the text.
  abbrev pub levels_from : ℕ → Tree L → List ℕ
  levels_from n (closed ns) = levels_of_nodes n ns
  levels_from n (open_section ns h t) =
      (levels_of_nodes n ns ++ levels_of_head n h) ++ levels_from (suc n) t

  -- `levels t`: the levels of a text's lines: for each one, the number of sections around its own.
  abbrev pub levels : Tree L → List ℕ
  levels t = levels_from 0 t

-- `names_in_content content`: the names of a line with this content.
abbrev pub names_in_content : Content → List (List ℕ)
names_in_content cut_keyword = []
names_in_content (directive d) = names_on d
names_in_content text = []

-- `names_at x`: the names on the line `x`.
abbrev pub names_at : Item Reading → List (List ℕ)
names_at x = names_in_content (content_of (reading_of x).scan)

-- `depth_prefix depths n`: the depth `n` and a space, as they precede a name under `-S`, else
-- nothing.
abbrev pub depth_prefix : Bool → ℕ → List ℕ
depth_prefix depths n = if depths then decimal n ++ codes " " else []

-- `listed_names prefix names`: each of the names after `prefix`, with a newline.
abbrev pub listed_names : List ℕ → List (List ℕ) → List ℕ
listed_names prefix [] = []
listed_names prefix (name ∷ names) = prefix ++ name ++ codes "\n" ++ listed_names prefix names

-- `listed depths xs levels`: the names of the lines `xs`, each with its depth if `depths`.
abbrev pub listed : Bool → List (Item Reading) → List ℕ → List ℕ
listed depths [] ns = []
listed depths (x ∷ xs) [] = []
listed depths (x ∷ xs) (n ∷ ns) =
    listed_names (depth_prefix depths n) (names_at x) ++ listed depths xs ns
