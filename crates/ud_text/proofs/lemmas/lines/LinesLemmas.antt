-- Buffering: what each call does to the lines of the bytes taken.
use Rattle.std.proofs.Common.{◌≡◌, ℕ, suc, ◌<◌, Bool, true, false, List, [], ◌∷◌, ◌++◌, length, take, sym, ◌∙◌, ap, append-nil, arith}
use Rattle.std.proofs.lemmas.List.{take_all}
use Rattle.ud_model.specs.text.Lines.{NoNewline, IsWhole, AreWhole, SplitLines, split_lines, whole_lines, partial_line, line_at, numbered_from}
use Rattle.ud_model.proofs.text.LinesLemmas.{are_whole, partial_line-open, split_lines-append-open, split_lines-append-line, last_line-some, numbered_from-next}
use Rattle.ud_text.specs.lines.LinesState.{LinesState, LinesRepresent, UpToNewline, IsLastLine}
use Rattle.ud_text.proofs.lemmas.lines.NewlineLemmas.{whole_newlineless}
use Rattle.ud_text.proofs.lemmas.scan.MaskLemmas.{no_newline-take}
use Rattle.std.proofs.lemmas.Grind.{common_steps}

-- nothing is buffered of a text without bytes
pub represent_nothing : (l : LinesState) → l.held ≡ [] → l.whole ≡ false → l.before ≡ 0 → LinesRepresent l []
unfolding split_lines
represent_nothing l h k m = grind arith

-- the buffered line, if whole, is the last whole one of the text, which has no more bytes
pub represent_whole : (l : LinesState) (text : List ℕ) → l.whole ≡ true → (h : LinesRepresent l text) → split_lines text ≡ record { whole = h.consumed ++ l.held ∷ []; rest = [] }
represent_whole l text k h = grind arith

-- the buffered line, if not whole, is what follows the text's last newline
pub represent_part : (l : LinesState) (text : List ℕ) → l.whole ≡ false → (h : LinesRepresent l text) → split_lines text ≡ record { whole = h.consumed; rest = l.held }
represent_part l text k h = grind arith

-- a prefix of a chunk is appended to the line
pub represent_take : (l : LinesState) (text chunk : List ℕ) (used : ℕ) (whole : Bool) → l.whole ≡ false → UpToNewline chunk used whole → LinesRepresent l text →
    LinesRepresent (record l { held = l.held ++ take used chunk; whole = whole }) (text ++ take used chunk)
represent_take l text chunk used whole h k m = grind (arith, split_lines-append-line, represent_part, take_all, split_lines-append-open)

-- the last one of whole lines is whole
last_whole : (ls : List (List ℕ)) (m : List ℕ) → AreWhole (ls ++ m ∷ []) → IsWhole m
last_whole [] m w = w.0
last_whole (k ∷ ls) m w = last_whole ls m w.1

-- the body of the buffered line has no newline
pub represent_body : (n : ℕ) (l : LinesState) (text : List ℕ) → LinesRepresent l text → NoNewline (line_at n l.held).body
represent_body n l text h = grind (arith, common_steps, whole_newlineless, last_whole, represent_whole, are_whole, no_newline-take, represent_part, partial_line-open)

-- the buffered line is the last one of the text
pub represent_last : (l : LinesState) (text : List ℕ) → 0 < length l.held → LinesRepresent l text → IsLastLine text (line_at (suc l.before) l.held)
represent_last l text some h = (
  numbered_from 1 h.consumed,
  ap (numbered_from 1) (grind (arith, represent_whole, append-nil, represent_part, last_line-some, some)) ∙ numbered_from-next h.consumed l.held []
      ∙ ap (λ (n : ℕ). numbered_from 1 h.consumed ++ line_at (suc n) l.held ∷ []) (sym h.count),
)

-- as many lines are consumed as are whole, if the buffered line isn't whole
pub represent_before : (l : LinesState) (text : List ℕ) → l.whole ≡ false → LinesRepresent l text → l.before ≡ length (whole_lines text)
represent_before l text part h = h.count ∙ sym (ap (λ (q : SplitLines). length q.whole) (represent_part l text part h))

-- the buffered line, if not whole, is the partial line
pub represent_rest : (l : LinesState) (text : List ℕ) → l.whole ≡ false → LinesRepresent l text → partial_line text ≡ l.held
represent_rest l text part h = ap (λ (q : SplitLines). q.rest) (represent_part l text part h)
