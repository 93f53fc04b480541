-- Worlds: the text lines that a compiler sees if it decides each condition in some way.
-- C11 6.10.1p6: a section's first group whose condition is true is processed, else the group of
-- `#else`. No condition after a true one is evaluated, and none in a group that is skipped.
--
--   World L               the truth of each opener with a condition, by its line
--   selected w ns         the text lines that are processed in the world `w`, in order
--   EachReached w Is ns   each opener whose condition is evaluated in the world `w` satisfies `Is`
--   Agrees w ns           among the openers reached, each Yes is true in the world and each
--                         No false
--   openers ns            the lines of the openers with a condition, in order
--   openers_in xs         these lines among the lines `xs`
--   truths_of w ns        the truths of these lines in the world `w`
--
-- Example: in `#if X`, `a`, `#elif Y`, `b`, `#else`, `c`, `#endif` the line `a` is selected in a
-- world in which X is true, and Y isn't reached. In any other world `b` or `c` is selected.
use Rattle.std.specs.Prelude.{◌≡◌, List, [], ◌∷◌, ◌++◌, map, Bool, true, false, Option, Some, None}
use Rattle.ud_model.specs.declared.cond.Cond.{Cond}
use Rattle.ud_model.specs.declared.cond.Cond.TheVariants.{Yes, No, Unknown}
use Rattle.ud_model.specs.sections.Tree.{Item, Opener, Nodes, Groups, Elifs, nothing, section}
use Rattle.ud_model.specs.sections.Tree.{conditional, otherwise, first, elif, text_line, if_line}
use Rattle.ud_model.specs.sections.Tree.{elif_line, else_line, endif_line}
use Rattle.ud_model.specs.sections.Tree as tree

-- A world: the truth of each opener with a condition, by its line.
abbrev pub World : Type 0 → Type 0
World L = L → Bool

-- `or_else first later`: `first` if it is present, else `later`.
abbrev pub or_else : {X : Type 0} → Option X → Option X → Option X
or_else None later = later
or_else (Some x) later = Some x

-- `lines_or first others`: the lines `first` if present, else `others`.
abbrev pub lines_or : {L : Type 0} → Option (List L) → List L → List L
lines_or None others = others
lines_or (Some ls) others = ls

-- `where_true truth ls`: the lines `ls` of a group if its condition is true.
abbrev pub where_true : {L : Type 0} → Bool → List L → Option (List L)
where_true true ls = Some ls
where_true false ls = None

module _ {L : Type 0} (w : World L) where
  abbrev mutual
    -- `selected w ns`: the text lines of the nodes that are processed in the world `w`, in order.
    pub selected : Nodes L → List L
    selected nothing = []
    selected (tree.text ns l) = selected ns ++ l ∷ []
    selected (section ns gs e) = selected ns ++ selected_groups gs

    -- `selected_groups w gs`: the text lines of the group that is processed, if any.
    pub selected_groups : Groups L → List L
    selected_groups (conditional es) = lines_or (selected_elifs es) []
    selected_groups (otherwise es l ns) = lines_or (selected_elifs es) (selected ns)

    -- `selected_elifs w es`: the text lines of the first group whose condition is true, if there is
    -- one.
    pub selected_elifs : Elifs L → Option (List L)
    selected_elifs (first o ns) = where_true (w o.line) (selected ns)
    selected_elifs (elif es o ns) =
        or_else (selected_elifs es) (where_true (w o.line) (selected ns))

module _ {L : Type 0} (w : World L) (Is : Opener L → Type 0) where
  abbrev mutual
    -- `EachReached w Is ns`: each opener that is reached in the nodes satisfies `Is`, if the nodes
    -- are processed.
    pub EachReached : Nodes L → Type 0
    EachReached nothing = Unit {0}
    EachReached (tree.text ns l) = EachReached ns
    EachReached (section ns gs e) = EachReached ns × GroupsReached gs

    -- `GroupsReached w Is gs`: each opener that is reached in the groups satisfies `Is`. The group
    -- of an `#else` is processed if none before it is.
    pub GroupsReached : Groups L → Type 0
    GroupsReached (conditional es) = ElifsReached es
    GroupsReached (otherwise es l ns) = ElifsReached es ×
        (selected_elifs w es ≡ None → EachReached ns)

    -- `ElifsReached w Is es`: each opener that is reached in these groups satisfies `Is`. An opener
    -- is reached if no group before its own is processed, and its group is processed if its
    -- condition is true.
    pub ElifsReached : Elifs L → Type 0
    ElifsReached (first o ns) = Is o × (w o.line ≡ true → EachReached ns)
    ElifsReached (elif es o ns) = ElifsReached es ×
        (selected_elifs w es ≡ None → Is o × (w o.line ≡ true → EachReached ns))

module _ {L : Type 0} (w : World L) where
  -- `AgreesWith w cond l`: in the world `w` the line `l` has the truth of its decided condition.
  abbrev pub AgreesWith : Cond → L → Type 0
  AgreesWith Yes l = w l ≡ true
  AgreesWith No l = w l ≡ false
  AgreesWith Unknown l = Unit {0}

  -- `Agrees w ns`: the world `w` has the truth of each decided condition that is reached.
  abbrev pub Agrees : Nodes L → Type 0
  Agrees ns = EachReached w (λ o. AgreesWith o.cond o.line) ns

module _ {L : Type 0} where
  abbrev mutual
    -- `openers ns`: the lines of the openers with a condition in the nodes, in order.
    pub openers : Nodes L → List L
    openers nothing = []
    openers (tree.text ns l) = openers ns
    openers (section ns gs e) = openers ns ++ openers_of_groups gs

    -- `openers_of_groups gs`: the lines of the openers with a condition in the groups, in order.
    pub openers_of_groups : Groups L → List L
    openers_of_groups (conditional es) = openers_of_elifs es
    openers_of_groups (otherwise es l ns) = openers_of_elifs es ++ openers ns

    -- `openers_of_elifs es`: the lines of the openers in the groups with a condition, in order.
    pub openers_of_elifs : Elifs L → List L
    openers_of_elifs (first o ns) = o.line ∷ openers ns
    openers_of_elifs (elif es o ns) = (openers_of_elifs es ++ o.line ∷ []) ++ openers ns

  -- `truths_of w ns`: the truths that the world `w` gives these lines.
  abbrev pub truths_of : World L → Nodes L → List Bool
  truths_of w ns = map w (openers ns)

  -- `opener_line x`: the line `x`, if it is an opener with a condition.
  abbrev pub opener_line : Item L → List L
  opener_line (text_line l) = []
  opener_line (if_line o) = o.line ∷ []
  opener_line (elif_line o) = o.line ∷ []
  opener_line (else_line l) = []
  opener_line (endif_line l) = []

  -- `openers_in xs`: the lines of the openers with a condition among the lines `xs`, in order.
  abbrev pub openers_in : List (Item L) → List L
  openers_in [] = []
  openers_in (x ∷ xs) = opener_line x ++ openers_in xs
