-- Lines: lemmas on the first line of a text.
use Rattle.std.proofs.Common.{◌≡◌, ◌≢◌, ℕ, ◌+◌, List, [], ◌∷◌, ◌++◌, length, take, drop, arith}
use Rattle.std.proofs.Common.{take-append-drop}
use Rattle.std.proofs.lemmas.Bool.{eqb-true}
use Rattle.std.proofs.lemmas.List.{take_more, take_all, drop_all}
use Rattle.memchr.specs.Find.{Nowhere, NoneBefore, Passes, is_byte}
use Rattle.ud_model.specs.text.Lines.{IsWhole, split_lines, texts_of}
use Rattle.ud_model.proofs.text.LinesLemmas.{split_lines-line-prefix, split_lines-open, last_line-some}
use Rattle.ud_text.proofs.lemmas.lines.NewlineLemmas.{no_newline_front}

-- a whole line that a text begins with is its first line
texts_of-line : (line rest : List ℕ) → IsWhole line → texts_of (line ++ rest) ≡ line ∷ texts_of rest
texts_of-line line rest whole = grind (arith, split_lines-line-prefix line rest whole)

-- the bytes up to the first newline are the first line
pub texts_of-found : (s : List ℕ) (k : ℕ) → NoneBefore (Passes (is_byte 10) s) 0 (length s) k → Passes (is_byte 10) s k →
    texts_of s ≡ take (k + 1) s ∷ texts_of (drop (k + 1) s)
texts_of-found s k first is =
    let more = take_more s k 0 first.high in
    let line : IsWhole (take (k + 1) s) =
    (take k s, no_newline_front s k first.before, grind (arith, more, eqb-true, is)) in
    let there = texts_of-line (take (k + 1) s) (drop (k + 1) s) line in
    grind (arith, take-append-drop (k + 1) s, there)

-- a text without a newline is one line
pub texts_of-open : (s : List ℕ) → s ≢ [] → Nowhere (Passes (is_byte 10) s) 0 (length s) →
    texts_of s ≡ take (length s) s ∷ texts_of (drop (length s) s)
unfolding split_lines
texts_of-open s some none =
    grind (arith, take_all, split_lines-open, no_newline_front, last_line-some, drop_all)
