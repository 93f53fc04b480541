-- So far: the marks of a text's lines, by the groups up to each line. They agree with the table
-- over the whole section.
--
-- No later group's condition changes an opener's verdict, so a line's mark is the same in every
-- longer text.
use Rattle.std.specs.Prelude.{List, [], ◌∷◌, ◌++◌, Bool, not, ◌&&◌, if◌then◌else◌}
use Rattle.ud_model.specs.declared.cond.Cond.{Cond}
use Rattle.ud_model.specs.declared.cond.Cond.TheVariants.{Yes}
use Rattle.ud_model.specs.declared.verdict.Verdict.{Verdict}
use Rattle.ud_model.specs.declared.verdict.Verdict.TheVariants.{Keep, Remove, ToEndif}
use Rattle.ud_model.specs.sections.Tree.{Nodes, Groups, Elifs, Head, Tree, nothing, text, section}
use Rattle.ud_model.specs.sections.Tree.{conditional, otherwise, first, elif, if_head, elif_head}
use Rattle.ud_model.specs.sections.Tree.{else_head, closed, open_section}
use Rattle.ud_model.specs.sections.Pruning.{Part, an_if, an_elif, an_else, Mark, marked, is_kept}
use Rattle.ud_model.specs.sections.Pruning.{is_inside_kept, is_false, gives_way, all_false}
use Rattle.ud_model.specs.sections.Pruning.{any_true, ends_with_first_true, first_kept_verdict}
use Rattle.ud_model.specs.sections.Pruning.{later_verdict, endif_verdict, conds_of_elifs}
use Rattle.ud_model.specs.sections.Pruning.{conds_of_groups}

-- `verdict_so_far before part c`: the verdict of an opener as if its group were the section's last
-- one.
abbrev pub verdict_so_far : List Cond → Part → Cond → Verdict
verdict_so_far before part c =
    if gives_way (before ++ c ∷ []) then Remove
    else if all_false before && not (is_false c) then first_kept_verdict part
    else if not (any_true before) then later_verdict part c
    else if ends_with_first_true before then ToEndif
    else Remove

module _ {L : Type 0} where
  abbrev mutual
    -- `nodes_so_far kept ns`: the marks of the nodes' lines; `kept` means that all groups around
    -- are kept.
    pub nodes_so_far : Bool → Nodes L → List Mark
    nodes_so_far kept nothing = []
    nodes_so_far kept (text ns l) = nodes_so_far kept ns ++ marked kept Keep ∷ []
    nodes_so_far kept (section ns gs e) =
        (nodes_so_far kept ns ++ groups_so_far kept gs) ++
        marked kept (endif_verdict (conds_of_groups gs)) ∷ []

    -- `groups_so_far kept gs`: the marks of the groups' lines.
    pub groups_so_far : Bool → Groups L → List Mark
    groups_so_far kept (conditional es) = elifs_so_far kept es
    groups_so_far kept (otherwise es l ns) =
        (elifs_so_far kept es ++ marked kept (verdict_so_far (conds_of_elifs es) an_else Yes) ∷ [])
        ++ nodes_so_far (kept && is_kept (conds_of_elifs es) Yes) ns

    -- `elifs_so_far kept es`: the marks of the lines of the groups with a condition.
    pub elifs_so_far : Bool → Elifs L → List Mark
    elifs_so_far kept (first o ns) =
        (marked kept (verdict_so_far [] an_if o.cond) ∷ []) ++
        nodes_so_far (kept && is_kept [] o.cond) ns
    elifs_so_far kept (elif es o ns) =
        (elifs_so_far kept es ++ marked kept (verdict_so_far (conds_of_elifs es) an_elif o.cond) ∷
        [])
        ++ nodes_so_far (kept && is_kept (conds_of_elifs es) o.cond) ns

  -- `head_so_far kept h`: the marks of the lines up to the opener of the last group.
  abbrev pub head_so_far : Bool → Head L → List Mark
  head_so_far kept (if_head o) = marked kept (verdict_so_far [] an_if o.cond) ∷ []
  head_so_far kept (elif_head es o) =
      elifs_so_far kept es ++ marked kept (verdict_so_far (conds_of_elifs es) an_elif o.cond) ∷ []
  head_so_far kept (else_head es l) =
      elifs_so_far kept es ++ marked kept (verdict_so_far (conds_of_elifs es) an_else Yes) ∷ []

  -- `marks_so_far kept t`: the marks of a text's lines, by the groups up to each line.
  abbrev pub marks_so_far : Bool → Tree L → List Mark
  marks_so_far kept (closed ns) = nodes_so_far kept ns
  marks_so_far kept (open_section ns h t) =
      (nodes_so_far kept ns ++ head_so_far kept h) ++ marks_so_far (kept && is_inside_kept h) t
