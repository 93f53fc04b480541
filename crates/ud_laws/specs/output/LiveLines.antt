-- Live lines: the text lines that some way of deciding the undecided conditions selects. The others
-- are dead.
-- C11 6.10.1p6, unifdef(1).
--
-- Such a world may give an unknown condition either truth, whatever the condition says. C may know
-- more: the lines of `#if 0` are live unless -k decides it, though C selects none.
--
-- Example: in `#if A`, `a`, `#elif X`, `b`, `#else`, `c`, `#endif` with A undefined, `b` and `c`
-- are live. With A defined only `a` is.
use Rattle.std.specs.Prelude.{◌≡◌, ℕ, List, [], ◌∷◌, ◌++◌, map}
use Rattle.std.specs.List.{Contains}
use Rattle.ud_model.specs.text.Scans.{Reading}
use Rattle.ud_model.specs.sections.Tree.{Item, Nodes, closed, text_line, if_line, elif_line}
use Rattle.ud_model.specs.sections.Tree.{else_line, endif_line, lines_of_nodes}
use Rattle.ud_model.specs.sections.Items.{Options}
use Rattle.ud_model.specs.laws.Worlds.{World, selected, Agrees}
use Rattle.ud_model.specs.laws.Rereading.{IsTreeOf, line_bytes}
use Rattle.ud_laws.specs.output.CSelection.{IsCWorld}

module _ {L : Type 0} where
  -- `text_line_of x`: the line `x`, if it is a text line.
  abbrev pub text_line_of : Item L → List L
  text_line_of (text_line l) = l ∷ []
  text_line_of (if_line o) = []
  text_line_of (elif_line o) = []
  text_line_of (else_line l) = []
  text_line_of (endif_line l) = []

  -- `text_lines_in xs`: the text lines among the lines `xs`, in order.
  abbrev pub text_lines_in : List (Item L) → List L
  text_lines_in [] = []
  text_lines_in (x ∷ xs) = text_line_of x ++ text_lines_in xs

-- `AreThose Is xs ys`: `ys` are the elements of `xs` that are `Is`, in order.
pub data AreThose {X : Type 0} (Is : X → Type 0) : List X → List X → Type 0 where
  none_is : AreThose Is [] []
  this_is : {x : X} {xs ys : List X} → Is x → AreThose Is xs ys → AreThose Is (x ∷ xs) (x ∷ ys)
  this_is_not : {x : X} {xs ys : List X} → (Is x → ⊥) → AreThose Is xs ys →
      AreThose Is (x ∷ xs) ys

-- `IsLive ns l`: some world that agrees with the decided conditions of the nodes selects the line
-- `l`.
abbrev pub IsLive : Nodes Reading → Reading → Type 0
IsLive ns l = (w : World Reading) × Agrees w ns × Contains (selected w ns) l

-- `AreLive ns ls`: `ls` are the live text lines of the nodes, in order.
abbrev pub AreLive : Nodes Reading → List Reading → Type 0
AreLive ns ls = AreThose (IsLive ns) (text_lines_in (lines_of_nodes ns)) ls

-- `LeavesLive o input output`: the text lines of the output are the live ones of the input, byte by
-- byte and in order.
abbrev pub LeavesLive : Options → List ℕ → List ℕ → Type 0
LeavesLive o input output = (ns us : Nodes Reading) → IsTreeOf o input (closed ns) →
    IsTreeOf o output (closed us) → (ls : List Reading) × AreLive ns ls ×
    (map line_bytes (text_lines_in (lines_of_nodes us)) ≡ map line_bytes ls)

-- `SelectsLive o input`: each text line of the input that C may select is live.
abbrev pub SelectsLive : Options → List ℕ → Type 0
SelectsLive o input = (ns : Nodes Reading) → IsTreeOf o input (closed ns) →
    (w : World Reading) → IsCWorld o.table w ns → (l : Reading) → Contains (selected w ns) l →
    IsLive ns l
