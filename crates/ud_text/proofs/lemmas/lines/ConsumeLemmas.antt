-- Consuming: whole lines are taken and consumed at once.
use Rattle.std.proofs.Common.{◌≡◌, ℕ, ◌+◌, ◌-◌, ◌≤◌, Bool, cond, if◌then◌else◌, List, [], ◌∷◌, ◌++◌, length, take, drop, refl, sym, ◌∙◌, ap, take_all, arith}
use Rattle.std.specs.List.{count_by, concat}
use Rattle.std.proofs.lemmas.List.{length-append, take-take}
use Rattle.std.proofs.Math.Seq.{take-add}
use Rattle.std.proofs.lemmas.List.Recursion.{is_count_by}
use Rattle.std.proofs.lemmas.List.Sums.{sum_by-append}
use Rattle.std.proofs.Math.ListN.{length-take}
use Rattle.ud_model.specs.declared.limits.TheConstants.{MAX_LINE_BYTES}
use Rattle.ud_model.specs.text.Lines.{SplitLines, split_lines, prepend_to_first, whole_lines, partial_line}
use Rattle.ud_model.proofs.text.LinesLemmas.{split_lines-append, parts_joined}
use Rattle.ud_text.specs.lines.LinesState.{LinesState, LinesRepresent}
use Rattle.ud_text.specs.bulk.BulkScanning.{AreWholeLines}
use Rattle.ud_text.specs.lines.Consuming.{is_newline, EachFits, CanConsume}
use Rattle.ud_text.specs.bulk.BulkLexemes.{LastLineStarts}
use Rattle.ud_text.proofs.lemmas.bulk.BulkPlainLemmas.{begins_ends}

-- there are as many whole lines as newlines
pub lines_counted : (bytes : List ℕ) → length (whole_lines bytes) ≡ count_by is_newline bytes
unfolding split_lines
lines_counted = is_count_by (λ bytes. length (whole_lines bytes)) is_newline refl (λ b bytes. by_test b (split_lines bytes).whole (split_lines bytes).rest (is_newline b))
  where
    by_test : (b : ℕ) (ls : List (List ℕ)) (r : List ℕ) (t : Bool) →
        length (if t then record { whole = (10 ∷ []) ∷ ls; rest = r } else prepend_to_first b ls r).whole ≡ cond t (1 + length ls) (length ls)
    by_test b ls r t = grind arith

-- the newlines of a prefix, and of the next `n` bytes
pub counted_more : (bytes : List ℕ) (at n count more : ℕ) → count ≡ count_by is_newline (take at bytes) → more ≡ count_by is_newline (take n (drop at bytes)) →
    count + more ≡ count_by is_newline (take (at + n) bytes)
counted_more bytes at n count more h k = grind (arith, sum_by-append, cond, take-add)

-- the newlines of a prefix, and of the rest, are as many as the whole lines
pub counted_all : (bytes : List ℕ) (at count more : ℕ) → count ≡ count_by is_newline (take at bytes) →
    more ≡ count_by is_newline (take (length bytes - at) (drop at bytes)) → count + more ≡ length (whole_lines bytes)
counted_all bytes at count more e f = grind (arith, counted_more, take_all, lines_counted)

-- the lines of bytes that follow whole lines
pub lines_joined : (prefix rest : List ℕ) → AreWholeLines prefix → whole_lines (prefix ++ rest) ≡ whole_lines prefix ++ whole_lines rest
lines_joined prefix rest h = grind (arith, split_lines-append)

pub ends_joined : (prefix rest : List ℕ) → AreWholeLines prefix → partial_line (prefix ++ rest) ≡ partial_line rest
ends_joined prefix rest ends = ap (λ (q : SplitLines). q.rest) (split_lines-append prefix rest) ∙ ap (λ (r : List ℕ). partial_line (r ++ rest)) ends

fits_append : (ls ms : List (List ℕ)) → EachFits ls → EachFits ms → EachFits (ls ++ ms)
fits_append [] ms h k = k
fits_append (l ∷ ls) ms h k = (h.0, fits_append ls ms h.1 k)

fits_front : (ls ms : List (List ℕ)) → EachFits (ls ++ ms) → EachFits ls
fits_front [] ms h = tt
fits_front (l ∷ ls) ms h = (h.0, fits_front ls ms h.1)

fits_rest : (ls ms : List (List ℕ)) → EachFits (ls ++ ms) → EachFits ms
fits_rest [] ms h = h
fits_rest (l ∷ ls) ms h = fits_rest ls ms h.1

all_short : (ls : List (List ℕ)) → length (concat ls) ≤ MAX_LINE_BYTES → EachFits ls
all_short [] h = tt
all_short (l ∷ ls) h = (omega (arith, length-append l (concat ls)), all_short ls (omega (arith, length-append l (concat ls))))

-- the lines of at most `MAX_LINE_BYTES` bytes fit
pub short_fit : (bytes : List ℕ) → length bytes ≤ MAX_LINE_BYTES → EachFits (whole_lines bytes)
short_fit bytes h =
    all_short (whole_lines bytes) (omega (arith, ap length (parts_joined bytes), length-append (concat (whole_lines bytes)) (partial_line bytes)))

-- whole lines at the beginning of a window that follows whole lines are whole lines with these;
-- they fit if the window has at most `MAX_LINE_BYTES` bytes
module _ (piece : List ℕ) (at count size : ℕ) (window : List ℕ) (is : window ≡ take size (drop at piece)) (short : size ≤ MAX_LINE_BYTES)
    (last : LastLineStarts window count) (ends : AreWholeLines (take at piece)) where
  few : length window ≤ size
  few = omega (arith, ap length is, length-take size (drop at piece))

  joined : take (at + count) piece ≡ take at piece ++ take count window
  joined = grind (arith, take-add, take-take, few)

  pub more_end : AreWholeLines (take (at + count) piece)
  more_end = grind (arith, joined, ends_joined, begins_ends)

  pub more_fit : EachFits (whole_lines (take at piece)) → EachFits (whole_lines (take (at + count) piece))
  more_fit h = grind (arith, short_fit, few, length-take, joined, lines_joined, fits_append)

-- as many more lines are taken and consumed as the bytes have
pub represent_consumed : (lines : LinesState) (text bytes : List ℕ) → CanConsume lines bytes → LinesRepresent lines text →
    LinesRepresent (record lines { before = lines.before + length (whole_lines bytes) }) (text ++ bytes)
represent_consumed lines text bytes can h = record {
  consumed = h.consumed ++ whole_lines bytes;
  cut = grind (arith, split_lines-append);
  count = ap (λ (n : ℕ). n + length (whole_lines bytes)) h.count ∙ sym (length-append h.consumed (whole_lines bytes));
}

-- the first of lines that can be consumed can be consumed
pub can_consume_front : (lines : LinesState) (prefix rest : List ℕ) → AreWholeLines prefix → CanConsume lines (prefix ++ rest) → CanConsume lines prefix
can_consume_front lines prefix rest h k = grind (arith, lines_joined, fits_front, length-append)

-- the other lines can be consumed after the first ones
pub can_consume_rest : (lines : LinesState) (prefix rest : List ℕ) → AreWholeLines prefix → CanConsume lines (prefix ++ rest) →
    CanConsume (record lines { before = lines.before + length (whole_lines prefix) }) rest
can_consume_rest lines prefix rest h k = grind (arith, lines_joined, ends_joined, fits_rest, length-append)
