-- Walks: text lines more, a line more, and the end of the text.
use Rattle.std.proofs.Common.{◌≡◌, ℕ, ◌+◌, ◌-◌, ◌<◌, List, [], ◌∷◌, ◌++◌, length, map, take, drop}
use Rattle.std.proofs.Common.{Bool, take-append-drop, length-append, length-drop, append_assoc}
use Rattle.std.proofs.Common.{append-nil, refl, sym, ◌∙◌, ap, arith}
use Rattle.std.proofs.lemmas.List.{length-map}
use Rattle.std.proofs.lemmas.Simd.{map-map}
use Rattle.ud_model.specs.text.Lines.{Line, text_of, texts_of, line_at, numbered_from, whole_lines, split_lines}
use Rattle.ud_model.specs.text.Scans.{Reading}
use Rattle.ud_model.specs.text.Scanning.{next_reading, readings_after}
use Rattle.ud_model.specs.aids.ReadAs.{read_as, in_mode}
use Rattle.ud_model.specs.declared.kind.Mode.{Mode}
use Rattle.ud_model.proofs.text.LinesLemmas.{map-numbered_from}
use Rattle.ud_model.proofs.text.ScanBytes.{scan_after-same}
use Rattle.ud_text.specs.scan.ScannerState.{ScannerState, ScannerRepresents}
use Rattle.ud_text.specs.bulk.BulkScanning.{HaveNoDirective, AreWholeLines, SkipsText}
use Rattle.ud_text.specs.lines.LinesState.{UpToNewline}
use Rattle.ud_text.proofs.lemmas.bulk.QuietLineLemmas.{ended_lines}
use Rattle.ud_text.proofs.lemmas.lines.ConsumeLemmas.{lines_counted}
use Rattle.ud_text.proofs.lemmas.scan.LongerTextLemmas.{after, still_whole, read_texts, number_after_texts, reading, read_line, number_after_line, k_scan, represents_renumbered, one_text, whole_if_more}
use Rattle.ud_passes.specs.Walks.{read_after, AreTexts, HaveBytes, Walked}

-- 1. The beginning and the end.

pub walk_begins : (mode : Mode) (text : List ℕ) (s : ScannerState) → ScannerRepresents s [] → Walked mode text [] text s
unfolding split_lines
walk_begins mode text s r = grind arith

pub walk_ends : (mode : Mode) (text : List ℕ) (read : List Reading) (rest : List ℕ) (s : ScannerState) → Walked mode text read rest s → rest ≡ [] → read ≡ read_as mode text
walk_ends mode text read rest s w e = grind (arith, append-nil)

-- 2. Text lines.

-- The readings of text lines.
texts_read : (mode : Mode) (before : List Reading) (ls : List Line) → HaveNoDirective mode before ls →
    (rs : List Reading) × (readings_after before (map (in_mode mode) ls) ≡ before ++ rs) × AreTexts rs × (map (λ (r : Reading). r.line) rs ≡ ls)
texts_read mode before [] h = ([], sym (append-nil before), tt, refl)
texts_read mode before (l ∷ ls) h = let r : Reading = next_reading before mode l in
    let i = texts_read mode (before ++ r ∷ []) ls h.1 in
    (r ∷ i.0, grind (arith, i.1, append_assoc), (h.0, i.2), ap (λ (xs : List Line). l ∷ xs) i.3)

-- Text lines more.
pub texts_next : (mode : Mode) (text : List ℕ) (read : List Reading) (rest : List ℕ) (s : ScannerState) → Walked mode text read rest s → 0 < length rest →
    (p next : List ℕ) (t : ScannerState) → AreWholeLines p → SkipsText mode s t p → p ++ next ≡ rest → (rs : List Reading) × AreTexts rs × HaveBytes p rs × Walked mode text (read ++ rs) next t
texts_next mode text read rest s w some p next t whole skips e =
    let ends : AreWholeLines w.done = w.ends some in
    let n : ℕ = after mode w.done p ends in
    let ls : List Line = numbered_from n (whole_lines p) in
    let i = texts_read mode read ls (skips.texts n read w.represents) in
    let all : map (λ (r : Reading). text_of r.line) i.0 ≡ whole_lines p = sym (map-map text_of (λ (r : Reading). r.line) i.0) ∙ ap (λ (x : List Line). map text_of x) i.3 ∙ map-numbered_from n (whole_lines p) in
    let count : length i.0 ≡ length (whole_lines p) = sym (length-map i.0 (λ (r : Reading). text_of r.line)) ∙ ap (λ (x : List (List ℕ)). length x) all in
    let c = w.count_is in
    let m = number_after_texts mode w.done p ends whole n (length i.0) refl (count ∙ lines_counted p) in
    let o = length-append read i.0 in
    grind (arith, ended_lines, append_assoc, still_whole, read_texts)

-- 3. A line more.

module _ (mode : Mode) (text : List ℕ) (read : List Reading) (rest : List ℕ) (s : ScannerState) (w : Walked mode text read rest s) (some : 0 < length rest)
    (k : Line) (b : Bool) (to : UpToNewline rest (length (text_of k)) b) (is : k ≡ line_at 1 (take (length (text_of k)) rest)) where
  abbrev p : List ℕ
  p = take (length (text_of k)) rest

  ends : AreWholeLines w.done
  ends = w.ends some

  one : texts_of p ≡ p ∷ []
  one = one_text rest (length (text_of k)) b to some

  abbrev r : Reading
  r = read_after mode read k

  -- The line has its number in the text.
  same : r ≡ reading mode w.done p ends one
  same = grind (arith, k_scan, ends, one)

  renumbered : next_reading read mode (record k { number = 1 + length read }) ≡ r
  renumbered = grind (arith, scan_after-same)

  pub line_next : (next : List ℕ) → next ≡ drop (length k.body + length k.ending) rest → (t : ScannerState) → ScannerRepresents t (read ++ next_reading read mode k ∷ []) → Walked mode text (read ++ r ∷ []) next t
  line_next next d t represents =
      let n = length-append k.body k.ending in
      let at : next ≡ drop (length (text_of k)) rest = grind (arith, d, n) in
      let left : length next ≡ length rest - length (text_of k) = ap (λ (x : List ℕ). length x) at ∙ length-drop (length (text_of k)) rest in
      let m = number_after_line mode w.done p ends one (after mode w.done p ends) refl in
      let is = represents_renumbered t mode read k (record k { number = 1 + length read }) refl refl represents in
      record {
        done = w.done ++ p;
        is = grind (arith, append_assoc, at, take-append-drop (length (text_of k)) rest, w.is);
        ends = λ more. still_whole mode w.done p ends (whole_if_more rest (length (text_of k)) b to some (omega (arith, left, more)));
        read_is = grind (arith, w.read_is, same, read_line mode w.done p ends one);
        count_is = grind (arith, length-append, m, w.count_is);
        represents = grind (arith, renumbered, is);
      }
