-- Next lines: the first of some whole lines.
use Rattle.std.proofs.Common.{◌≡◌, ◌<◌, ◌∷◌, refl, List, ℕ, true, take, drop, take-append-drop, arith, ap, sym, ◌∙◌}
use Rattle.std.proofs.lemmas.List.{length-take-le}
use Rattle.ud_model.specs.text.Lines.{whole_lines, SplitLines}
use Rattle.ud_model.proofs.text.LinesLemmas.{split_lines-line-prefix}
use Rattle.ud_text.specs.lines.LinesState.{LinesState, UpToNewline}
use Rattle.ud_text.specs.lines.Borrowing.{IsFirstLine}
use Rattle.ud_text.specs.lines.Consuming.{CanConsume, EachFits}

-- the prefix up to the first newline is the first whole line
first_split : (bytes : List ℕ) (used : ℕ) → UpToNewline bytes used true →
    whole_lines bytes ≡ take used bytes ∷ whole_lines (drop used bytes)
first_split bytes used to = ap whole_lines (sym (take-append-drop used bytes))
    ∙ ap (λ (q : SplitLines). q.whole)
    (split_lines-line-prefix (take used bytes) (drop used bytes) (to.line refl))

-- it is no longer than a line may be, if each line fits
pub is_first : (bytes : List ℕ) (used : ℕ) → UpToNewline bytes used true →
    EachFits (whole_lines bytes) → IsFirstLine bytes (take used bytes)
is_first bytes used to fit = grind (arith, length-take-le, first_split)

-- one more line may come before the first of lines that can be consumed
pub first_numbered : (lines : LinesState) (bytes line : List ℕ) → CanConsume lines bytes →
    IsFirstLine bytes line → lines.before < lines.last_line
first_numbered lines bytes line h k = grind (arith, first_split)
