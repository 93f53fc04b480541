-- Texts: one line more, and many text lines more, read in one mode.
use Rattle.std.proofs.Common.{◌≡◌, ℕ, ◌+◌, ◌<◌, ◌==◌, List, [], ◌∷◌, ◌++◌, length, map, take, Bool, true, false, refl, sym, ◌∙◌, ap, subst, append-nil, length-append, arith}
use Rattle.std.specs.List.{count_by}
use Rattle.std.proofs.lemmas.List.{map-append, take_all}
use Rattle.ud_model.specs.text.Lines.{Line, line_at, numbered_from, lines_of, texts_of, whole_lines, partial_line, last_line, split_lines}
use Rattle.ud_model.specs.text.Scans.{Reading}
use Rattle.ud_model.specs.text.Scanning.{scan_after, next_reading, readings_after}
use Rattle.ud_model.specs.aids.ReadAs.{read_as, in_mode}
use Rattle.ud_model.specs.declared.kind.Mode.{Mode}
use Rattle.ud_model.proofs.text.LinesLemmas.{split_lines-append, split_lines-open, split_lines-line-prefix, numbered_from-append}
use Rattle.ud_model.proofs.text.ScanBytes.{scan_after-same}
use Rattle.ud_model.proofs.text.ScanLaws.{readings_after-append}
use Rattle.ud_model.proofs.text.ScanLemmas.{LexesTo-same, joined_run_last, run_of_last, joins_last}
use Rattle.ud_text.specs.scan.ScannerState.{ScannerState, ScannerRepresents}
use Rattle.ud_text.specs.bulk.BulkScanning.{AreWholeLines, lines_in_mode, SkipsText}
use Rattle.ud_text.specs.lines.LinesState.{UpToNewline}
use Rattle.ud_text.proofs.lemmas.scan.ScannerLemmas.{ends_in_block_last}
use Rattle.ud_text.proofs.lemmas.lines.ConsumeLemmas.{lines_counted}
use Rattle.std.proofs.lemmas.Grind.{common_steps}

-- 1. The lines of a longer text.

module _ (mode : Mode) (done p : List ℕ) (ends : AreWholeLines done) where
  abbrev pub after : ℕ
  after = 1 + length (texts_of done)

  parts : split_lines (done ++ p) ≡ record { whole = whole_lines done ++ whole_lines p; rest = partial_line p }
  parts = grind (arith, split_lines-append)

  pub all_texts : texts_of (done ++ p) ≡ texts_of done ++ texts_of p
  all_texts = grind (arith, common_steps, parts)

  pub all_lines : lines_of (done ++ p) ≡ lines_of done ++ numbered_from after (texts_of p)
  all_lines = ap (λ (ts : List (List ℕ)). numbered_from 1 ts) all_texts ∙ numbered_from-append 1 (texts_of done) (texts_of p)

  pub still_whole : partial_line p ≡ [] → AreWholeLines (done ++ p)
  still_whole e = ap (λ q. q.rest) parts ∙ e

  read_on : read_as mode (done ++ p) ≡ readings_after (read_as mode done) (map (in_mode mode) (numbered_from after (texts_of p)))
  read_on = grind (arith, all_texts, numbered_from-append, map-append, readings_after-append)

  -- Many text lines.
  module _ (whole : AreWholeLines p) where
    whole_texts : texts_of p ≡ whole_lines p
    whole_texts = ap (λ (x : List ℕ). whole_lines p ++ last_line x) whole ∙ append-nil (whole_lines p)

    pub read_texts : read_as mode (done ++ p) ≡ readings_after (read_as mode done) (lines_in_mode mode after (whole_lines p))
    read_texts = grind (arith, read_on, whole_texts)

    pub number_after_texts : (number count : ℕ) → number ≡ after → count ≡ count_by (λ (b : ℕ). b == 10) p → number + count ≡ 1 + length (texts_of (done ++ p))
    number_after_texts number count h k = grind (arith, all_texts, length-append, whole_texts, lines_counted)

  -- One line.
  module _ (one : texts_of p ≡ p ∷ []) where
    abbrev pub here : Line
    here = line_at after p

    abbrev pub reading : Reading
    reading = next_reading (read_as mode done) mode here

    pub read_line : read_as mode (done ++ p) ≡ read_as mode done ++ reading ∷ []
    read_line = grind (arith, read_on)

    pub number_after_line : (number : ℕ) → number ≡ after → number + 1 ≡ 1 + length (texts_of (done ++ p))
    number_after_line number h = grind (arith, all_texts, length-append)

    -- The line as the program reads it, with another number.
    module _ (k : Line) (is : k ≡ line_at 1 p) where
      pub k_scan : scan_after (read_as mode done) mode here ≡ scan_after (read_as mode done) mode k
      k_scan = grind (arith, scan_after-same)

-- 2. The scanner.

-- A scanner represents a line with another number.
pub represents_renumbered : (s : ScannerState) (mode : Mode) (before : List Reading) (l k : Line) → l.body ≡ k.body → l.ending ≡ k.ending →
    ScannerRepresents s (before ++ next_reading before mode l ∷ []) → ScannerRepresents s (before ++ next_reading before mode k ∷ [])
represents_renumbered s mode before l k h m o = grind (arith, scan_after-same, LexesTo-same, joined_run_last, run_of_last, joins_last, ends_in_block_last)

-- 3. The first line of the rest.

module _ (rest : List ℕ) (used : ℕ) (w : Bool) (to : UpToNewline rest used w) (some : 0 < length rest) where
  whole_by : w ≡ true → split_lines (take used rest) ≡ record { whole = take used rest ∷ []; rest = [] }
  unfolding split_lines
  whole_by e =
      ap split_lines (sym (append-nil (take used rest))) ∙ split_lines-line-prefix (take used rest) [] (to.line e)

  open_by : w ≡ false → split_lines (take used rest) ≡ record { whole = []; rest = take used rest }
  open_by h = grind (arith, take_all, split_lines-open)

  pub one_text : texts_of (take used rest) ≡ take used rest ∷ []
  one_text = grind (arith, whole_by, open_by)

  pub whole_if_more : used < length rest → partial_line (take used rest) ≡ []
  whole_if_more h = grind (arith, whole_by)

-- Nothing was skipped.
pub skipped_none : (mode : Mode) (old new : ScannerState) (n : ℕ) (rest : List ℕ) → n ≡ 0 → SkipsText mode old new (take n rest) → (before : List Reading) → ScannerRepresents old before → ScannerRepresents new before
unfolding split_lines
skipped_none mode old new n rest e h before r = subst (λ (k : ℕ). ScannerRepresents new (readings_after before (lines_in_mode mode 1 (whole_lines (take k rest))))) e (h.represents 1 before r)

pub nothing_ends : AreWholeLines []
unfolding split_lines
nothing_ends = refl

pub some_left : (rest : List ℕ) → (length rest == 0) ≡ false → 0 < length rest
some_left rest h = grind arith
