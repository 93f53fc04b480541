-- Borrowing: a line at the beginning of a chunk, split into its body and its ending, is the next
-- line of the text.
use Rattle.std.proofs.Common.{◌≡◌, ◌==◌, ℕ, suc, ◌+◌, ◌<◌, Bool, true, false, not, None, List, [], ◌∷◌, ◌++◌, length, take, refl, sym, ◌∙◌, ap, subst, min, arith}
use Rattle.std.proofs.lemmas.Bool.{eqb-true}
use Rattle.ud_model.specs.declared.limits.TheConstants.{MAX_LINE_BYTES}
use Rattle.ud_model.specs.text.Lines.{NoNewline, Line, text_of, line_at}
use Rattle.ud_model.proofs.text.LinesLemmas.{text_of-line_at}
use Rattle.ud_text.specs.lines.LinesState.{LinesState, LinesRepresent, UpToNewline, IsLineOf}
use Rattle.ud_text.specs.lines.Borrowing.{CanBorrow, IsFirstLine}
use Rattle.ud_text.specs.lines.Consuming.{FirstIsLong}
use Rattle.ud_text.proofs.lemmas.lines.NewlineLemmas.{up_to_newline-once, whole_newlineless}
use Rattle.ud_text.proofs.lemmas.scan.MaskLemmas.{no_newline-take}
use Rattle.ud_text.proofs.lemmas.lines.LinesLemmas.{represent_take}
use Rattle.ud_model.proofs.output.Formed.{feed_inside}
use Rattle.std.proofs.lemmas.Grind.{common_steps}

-- there are no bytes, if their number is 0
pub none_held : (bytes : List ℕ) (empty : Bool) → empty ≡ (length bytes == 0) → not empty ≡ false → bytes ≡ []
none_held [] empty e h = refl
none_held (b ∷ bytes) true e h = let k : suc (length bytes) ≡ 0 = eqb-true (suc (length bytes)) 0 (sym e) in cc
none_held (b ∷ bytes) false e h = cc

-- each whole line at the beginning of a chunk is too long, if the prefix up to the first newline
-- has none or is too long
pub none_fits : (chunk : List ℕ) (used other : ℕ) (whole : Bool) → UpToNewline chunk used whole → (whole ≡ true → MAX_LINE_BYTES < used) →
    UpToNewline chunk other true → MAX_LINE_BYTES < other
none_fits chunk used other whole a long b =
    grind (arith, up_to_newline-once chunk used other whole true a b)

-- each whole line at the beginning is too long, if there is no newline in as many bytes as a line
-- may have
pub none_here : (rest : List ℕ) (size : ℕ) → size ≡ min (length rest) MAX_LINE_BYTES → NoNewline (take size rest) → FirstIsLong rest
none_here rest size e none used to =
    grind (arith, common_steps, feed_inside, no_newline-take used (take size rest) none)

-- no line comes at the beginning of nothing
pub none_after : (rest : List ℕ) → length rest ≡ 0 → FirstIsLong rest
none_after rest e used to = grind (arith, common_steps)

-- a body and an ending are the bytes of their line
joined_is : (body ending line : List ℕ) (n : ℕ) → IsLineOf body ending n (line_at n line) → body ++ ending ≡ line
joined_is body ending line n e = ap text_of e ∙ text_of-line_at n line

-- the line is that of the chunk's prefix
pub borrowed_value : (chunk body ending line : List ℕ) (n : ℕ) → IsFirstLine chunk line → IsLineOf body ending n (line_at n line) →
    IsLineOf body ending n (line_at n (take (length (body ++ ending)) chunk))
borrowed_value chunk body ending line n f e = grind (arith, common_steps, joined_is)

-- the line's bytes are the chunk's prefix
pub borrowed_bytes : (chunk body ending line : List ℕ) (n : ℕ) → IsFirstLine chunk line → IsLineOf body ending n (line_at n line) →
    body ++ ending ≡ take (length (body ++ ending)) chunk
borrowed_bytes chunk body ending line n f e = grind (arith, common_steps, joined_is)

-- no newline is in the line's body
pub borrowed_no_newline : (chunk body ending line : List ℕ) (n : ℕ) → IsFirstLine chunk line → IsLineOf body ending n (line_at n line) → NoNewline body
borrowed_no_newline chunk body ending line n f e =
    subst NoNewline (ap (λ (l : Line). l.body) (sym e)) (whole_newlineless n line (grind (arith, f)))

-- the line can be borrowed
pub can_borrow : (lines : LinesState) (chunk body ending line : List ℕ) (n : ℕ) → lines.held ≡ [] → lines.fault ≡ None → lines.before < lines.last_line →
    IsFirstLine chunk line → IsLineOf body ending n (line_at n line) → CanBorrow lines chunk (length (body ++ ending))
can_borrow lines chunk body ending line n unheld no_fault numbered f e = grind (arith, common_steps, joined_is)

-- after a line that is taken and consumed nothing is buffered, as before
consumed_line : (lines : LinesState) (text chunk : List ℕ) (used : ℕ) → lines.held ≡ [] → lines.whole ≡ false → UpToNewline chunk used true → LinesRepresent lines text →
    LinesRepresent (record lines { before = lines.before + 1 }) (text ++ take used chunk)
consumed_line lines text chunk used unheld part to h =
    grind (arith, common_steps, represent_take lines text chunk used true part to h)

-- one more line is taken and consumed with the borrowed one
pub represent_borrowed : (lines : LinesState) (text chunk body ending line : List ℕ) (n : ℕ) → lines.held ≡ [] → lines.whole ≡ false →
    IsFirstLine chunk line → IsLineOf body ending n (line_at n line) → LinesRepresent lines text → LinesRepresent (record lines { before = lines.before + 1 }) (text ++ (body ++ ending))
represent_borrowed lines text chunk body ending line n unheld part f e h =
    grind (arith, common_steps, consumed_line)
