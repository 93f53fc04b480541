-- Strict lines: the lines read under `-K`, beside the lines read without it.
-- unifdef(1), `-K`: `&&` and `||` are unknown if either operand is, so fewer lines are removed.
--
-- A list ends before the first fault of its run, and each run may have one where the other has
-- none. Directives may be edited in one run and removed in the other.
--
-- Example: under `-DA` the line `x` in `#if X || A`, `#else`, `x`, `#endif` is removed only without
-- `-K`. In `#if X && 0`, `#elif A`, `#else`, `x`, `#endif` it is removed in both.
use Rattle.std.specs.Prelude.{◌≡◌, ℕ, List, [], ◌∷◌, map, true, false}
use Rattle.std.specs.List.{concat}
use Rattle.ud_model.specs.sections.Pruning.{is_removed}
use Rattle.ud_model.specs.sections.Items.{Options}
use Rattle.ud_model.specs.answer.Printing.{Judged, piece_by}

-- `under_strict o`: the options `o` with `-K`.
abbrev pub under_strict : Options → Options
under_strict o = record { settings = record o.settings { strict = true }; table = o.table }

-- `IsText j`: the line `j` has no keyword, and is no directive.
abbrev pub IsText : Judged → Type 0
IsText j = j.keyword.len ≡ 0

-- `KeepsAsMuch j k`: `k` is the line `j`, and if it is text that is removed in `k`, it is removed
-- in `j`.
pub record KeepsAsMuch (j k : Judged) : Type 0 where
  pub line : k.line ≡ j.line
  pub keyword : k.keyword ≡ j.keyword
  pub text : IsText j → is_removed k.verdict ≡ true → is_removed j.verdict ≡ true

-- `KeepAsMuch js ks`: each line of `ks` keeps as much as the one of `js` at its position, as far as
-- both lists go.
abbrev pub KeepAsMuch : List Judged → List Judged → Type 0
KeepAsMuch [] ks = Unit {0}
KeepAsMuch (j ∷ js) [] = Unit {0}
KeepAsMuch (j ∷ js) (k ∷ ks) = KeepsAsMuch j k × KeepAsMuch js ks

-- `pieces_of js`: the pieces of the lines `js`, each by its verdict alone, joined in order.
abbrev pub pieces_of : List Judged → List ℕ
pieces_of js = concat (map (λ (j : Judged). piece_by false j.verdict j.keyword j.line) js)
