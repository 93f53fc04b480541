-- Pruning: the lines of a tree that are kept, and how its directives are edited.
-- unifdef(1), with edits that keep the output well nested.
--
--   Mark                                  a line's verdict, and whether all groups around it (or
--                                         around a directive's section) are kept
--   OpenerPosition                        the position of an opener in its section
--   opener_position all before c          the position of an opener
--   verdict_in_position position part     the table of verdicts, for an opener whose section lies
--                                         in kept groups
--   opener_verdict all before part c      the opener's verdict by this table
--   endif_verdict all                     the verdict of the section's `#endif`
--   marks t                               the marks of a text's lines, in order
--
-- `all` are the conditions of the section's groups, `before` those of the groups before the
-- opener's own, and `c` is its own. An `#else` counts as true. No group after the first true one is
-- kept; of the others, all that aren't false are.
--
-- Example: of `#if X`, `#elif defined A`, `#elif Y`, `#else`, `#endif` under -DA the verdicts are
-- Keep, ToElse, ToEndif, Remove, Remove.
use Rattle.std.specs.Prelude.{List, [], ◌∷◌, ◌++◌, Bool, true, false, not, ◌&&◌, if◌then◌else◌}
use Rattle.ud_model.specs.declared.cond.Cond.{Cond}
use Rattle.ud_model.specs.declared.cond.Cond.TheVariants.{Yes, No, Unknown}
use Rattle.ud_model.specs.declared.verdict.Verdict.{Verdict}
use Rattle.ud_model.specs.declared.verdict.Verdict.TheVariants.{Keep, Remove, ToIf, ToElse, ToEndif}
use Rattle.ud_model.specs.sections.Tree.{Nodes, Groups, Elifs, Head, Tree, nothing, text, section}
use Rattle.ud_model.specs.sections.Tree.{conditional, otherwise, first, elif, if_head, elif_head}
use Rattle.ud_model.specs.sections.Tree.{else_head, closed, open_section}

-- The directive that opens a group: `#if`, `#ifdef` or `#ifndef`; `#elif` and its forms; `#else`.
pub data Part : Type 0 where
  an_if : Part
  an_elif : Part
  an_else : Part

-- `any_true conds`: some group is true.
abbrev pub any_true : List Cond → Bool
any_true [] = false
any_true (Yes ∷ cs) = true
any_true (No ∷ cs) = any_true cs
any_true (Unknown ∷ cs) = any_true cs

-- `all_false conds`: each group is false.
abbrev pub all_false : List Cond → Bool
all_false [] = true
all_false (Yes ∷ cs) = false
all_false (No ∷ cs) = all_false cs
all_false (Unknown ∷ cs) = false

-- `gives_way conds`: no group is kept, or the first kept one is true. The section's directives are
-- then removed.
abbrev pub gives_way : List Cond → Bool
gives_way [] = true
gives_way (Yes ∷ cs) = true
gives_way (No ∷ cs) = gives_way cs
gives_way (Unknown ∷ cs) = false

-- `ends_with_first_true conds`: the last group is the first true one.
abbrev pub ends_with_first_true : List Cond → Bool
ends_with_first_true [] = false
ends_with_first_true (Yes ∷ []) = true
ends_with_first_true (Yes ∷ c ∷ cs) = false
ends_with_first_true (No ∷ cs) = ends_with_first_true cs
ends_with_first_true (Unknown ∷ cs) = ends_with_first_true cs

-- `is_false c`: the condition `c` is false.
abbrev pub is_false : Cond → Bool
is_false Yes = false
is_false No = true
is_false Unknown = false

-- `is_kept before c`: a group with the condition `c` is kept: it isn't false, and no group before
-- it is true.
abbrev pub is_kept : List Cond → Cond → Bool
is_kept before c = not (is_false c) && not (any_true before)

-- The position of an opener in its section.
pub data OpenerPosition : Type 0 where
  -- An opener of a section that gives way.
  given_way : OpenerPosition
  -- The opener of the first kept group.
  first_kept : OpenerPosition
  -- Another opener before that of the first true group: of an unknown group, or of a false one.
  unknown_before : OpenerPosition
  false_before : OpenerPosition
  -- The opener of the first true group.
  the_true : OpenerPosition
  -- The next opener after that of the first true group, which is then an `#elif`.
  next_after : OpenerPosition
  -- An opener after that.
  further_on : OpenerPosition

-- `up_to_true c`: the position of an opener with the condition `c` that isn't the first kept one,
-- if no group before it is true.
abbrev pub up_to_true : Cond → OpenerPosition
up_to_true Yes = the_true
up_to_true No = false_before
up_to_true Unknown = unknown_before

-- `opener_position all before c`: the position of an opener with the condition `c` after the groups
-- `before`.
abbrev pub opener_position : List Cond → List Cond → Cond → OpenerPosition
opener_position all before c =
    if gives_way all then given_way
    else if all_false before && not (is_false c) then first_kept
    else if not (any_true before) then up_to_true c
    else if ends_with_first_true before then next_after
    else further_on

-- `edited_elif v part`: the verdict `v` for an `#elif`; any other opener stays.
abbrev pub edited_elif : Verdict → Part → Verdict
edited_elif v an_if = Keep
edited_elif v an_elif = v
edited_elif v an_else = Keep

-- `verdict_in_position position part`: the table of verdicts, for an opener.
abbrev pub verdict_in_position : OpenerPosition → Part → Verdict
verdict_in_position given_way part = Remove
verdict_in_position first_kept part = edited_elif ToIf part
verdict_in_position unknown_before part = Keep
verdict_in_position false_before part = Remove
verdict_in_position the_true part = edited_elif ToElse part
verdict_in_position next_after part = ToEndif
verdict_in_position further_on part = Remove

-- `opener_verdict all before part c`: the verdict of an opener with the condition `c` after the
-- groups `before`.
abbrev pub opener_verdict : List Cond → List Cond → Part → Cond → Verdict
opener_verdict all before part c = verdict_in_position (opener_position all before c) part

-- `first_kept_verdict part`: the verdict of the first kept opener.
abbrev pub first_kept_verdict : Part → Verdict
first_kept_verdict part = verdict_in_position first_kept part

-- `first_true_verdict part`: the verdict of the opener of the first true group, if a group before
-- it is kept.
abbrev pub first_true_verdict : Part → Verdict
first_true_verdict part = verdict_in_position the_true part

-- `later_verdict part c`: the verdict of an opener after the first kept one, if no group before it
-- is true.
abbrev pub later_verdict : Part → Cond → Verdict
later_verdict part c = verdict_in_position (up_to_true c) part

-- `endif_verdict all`: the verdict of the `#endif`. It is removed if the section gives way, or if
-- an opener after the first true group became the `#endif`. Else it is kept.
abbrev pub endif_verdict : List Cond → Verdict
endif_verdict all =
    if gives_way all then Remove
    else if not (any_true all) then Keep
    else if ends_with_first_true all then Keep
    else Remove

-- `is_removed v`: a line with this verdict is removed.
abbrev pub is_removed : Verdict → Bool
is_removed Keep = false
is_removed Remove = true
is_removed ToIf = false
is_removed ToElse = false
is_removed ToEndif = false

-- A line's mark: its verdict, and whether all groups around it (or around a directive's section)
-- are kept.
pub record Mark : Type 0 where
  pub kept : Bool
  pub verdict : Verdict

-- `marked kept v`: the mark with the verdict `v`. Unless all groups around are kept, the line is
-- removed.
abbrev pub marked : Bool → Verdict → Mark
marked kept v = record { kept = kept; verdict = if kept then v else Remove }

module _ {L : Type 0} where
  -- `conds_of_elifs es`: the conditions of the groups `es`.
  abbrev pub conds_of_elifs : Elifs L → List Cond
  conds_of_elifs (first o ns) = o.cond ∷ []
  conds_of_elifs (elif es o ns) = conds_of_elifs es ++ o.cond ∷ []

  -- `conds_of_groups gs`: the conditions of all groups of a section. An `#else` is true.
  abbrev pub conds_of_groups : Groups L → List Cond
  conds_of_groups (conditional es) = conds_of_elifs es
  conds_of_groups (otherwise es l ns) = conds_of_elifs es ++ Yes ∷ []

  -- `conds_of_head h`: the conditions of the groups up to the last opener.
  abbrev pub conds_of_head : Head L → List Cond
  conds_of_head (if_head o) = o.cond ∷ []
  conds_of_head (elif_head es o) = conds_of_elifs es ++ o.cond ∷ []
  conds_of_head (else_head es l) = conds_of_elifs es ++ Yes ∷ []

  abbrev mutual
    -- `marks_of_nodes kept ns`: the marks of the nodes' lines; `kept` means that all groups around
    -- are kept.
    pub marks_of_nodes : Bool → Nodes L → List Mark
    marks_of_nodes kept nothing = []
    marks_of_nodes kept (text ns l) = marks_of_nodes kept ns ++ marked kept Keep ∷ []
    marks_of_nodes kept (section ns gs e) =
        (marks_of_nodes kept ns ++ marks_of_groups kept (conds_of_groups gs) gs) ++
        marked kept (endif_verdict (conds_of_groups gs)) ∷ []

    -- `marks_of_groups kept all gs`: the marks of the groups' lines; `all` are the section's
    -- conditions.
    pub marks_of_groups : Bool → List Cond → Groups L → List Mark
    marks_of_groups kept all (conditional es) = marks_of_elifs kept all es
    marks_of_groups kept all (otherwise es l ns) =
        (marks_of_elifs kept all es ++
        marked kept (opener_verdict all (conds_of_elifs es) an_else Yes) ∷ [])
        ++ marks_of_nodes (kept && is_kept (conds_of_elifs es) Yes) ns

    -- `marks_of_elifs kept all es`: the marks of the lines of the groups with a condition.
    pub marks_of_elifs : Bool → List Cond → Elifs L → List Mark
    marks_of_elifs kept all (first o ns) =
        (marked kept (opener_verdict all [] an_if o.cond) ∷ []) ++
        marks_of_nodes (kept && is_kept [] o.cond) ns
    marks_of_elifs kept all (elif es o ns) =
        (marks_of_elifs kept all es ++
        marked kept (opener_verdict all (conds_of_elifs es) an_elif o.cond) ∷ [])
        ++ marks_of_nodes (kept && is_kept (conds_of_elifs es) o.cond) ns

  -- `marks_of_head kept all h`: the marks of the lines up to the opener of the last group.
  abbrev pub marks_of_head : Bool → List Cond → Head L → List Mark
  marks_of_head kept all (if_head o) = marked kept (opener_verdict all [] an_if o.cond) ∷ []
  marks_of_head kept all (elif_head es o) =
      marks_of_elifs kept all es ++ marked kept
      (opener_verdict all (conds_of_elifs es) an_elif o.cond) ∷ []
  marks_of_head kept all (else_head es l) =
      marks_of_elifs kept all es ++ marked kept (opener_verdict all (conds_of_elifs es) an_else Yes)
      ∷ []

  -- `is_inside_kept h`: the group that the head's last opener opens is kept.
  abbrev pub is_inside_kept : Head L → Bool
  is_inside_kept (if_head o) = is_kept [] o.cond
  is_inside_kept (elif_head es o) = is_kept (conds_of_elifs es) o.cond
  is_inside_kept (else_head es l) = is_kept (conds_of_elifs es) Yes

  -- `marks_in kept t`: the marks of a text's lines; `kept` means that all groups around the text
  -- are kept.
  abbrev pub marks_in : Bool → Tree L → List Mark
  marks_in kept (closed ns) = marks_of_nodes kept ns
  marks_in kept (open_section ns h t) =
      (marks_of_nodes kept ns ++ marks_of_head kept (conds_of_head h) h) ++
      marks_in (kept && is_inside_kept h) t

  -- `marks t`: the marks of the lines of a text that is in no group.
  abbrev pub marks : Tree L → List Mark
  marks t = marks_in true t
