-- Masked bytes: vertical tabs beside white space, and the line that bytes are.
use Rattle.std.proofs.Common.{◌≡◌, ℕ, suc, ◌<◌, ◌≤◌, ◌==◌, slice_index, Option, is_some, List, []}
use Rattle.std.proofs.Common.{◌∷◌, length, take, Bool, true, false, not, ◌&&◌, ◌||◌, bytes_eq, refl}
use Rattle.std.proofs.Common.{ap₂, arith}
use Rattle.std.proofs.lemmas.Bool.{false_from_ne_true}
use Rattle.std.proofs.lemmas.List.Folds.{list_any_at}
use Rattle.memchr.specs.Find.{IsFirstByte, is_byte}
use Rattle.std.proofs.lemmas.Slice.Eq.{bytes_eq-Decides}
use Rattle.ud_model.specs.text.Lines.{Line, NoNewline, text_of, line_at}
use Rattle.ud_model.specs.text.Splicing.{is_empty}
use Rattle.ud_model.specs.text.Scans.{Scan}
use Rattle.ud_model.specs.text.Scanning.{scan_after_run}
use Rattle.ud_simplified.specs.FoldedTexts.{has_tab, vertical_tab, blank_follows, tabs_are_beside, fits, is_shown_as}
use Rattle.ud_simplified.specs.SimplifiedTexts.{keeps_ending}
use Rattle.ud_model.specs.declared.kind.Mode.TheVariants.{C}
use Rattle.ud_model.proofs.text.ScanBytes.{scan_after-same}
use Rattle.ud_model.proofs.output.Formed.{IsEnd}
use Rattle.ud_text.specs.lines.LinesState.{UpToNewline}
use Rattle.ud_passes.proofs.EditLemmas.{ending_read, body_read}
use Rattle.ud_passes.specs.folding.LogicalLines.{is_line_shown}

-- 0. Tests.

pub joins_next : (scan : Scan) (bytes : List ℕ) → scan.joins_after ≡ true → is_shown_as scan bytes ≡ false
joins_next scan bytes e = grind arith

pub other_bytes : (scan : Scan) (bytes : List ℕ) → bytes_eq scan.masked bytes ≡ false → is_shown_as scan bytes ≡ false
other_bytes scan bytes e = grind arith

-- 1. Vertical tabs.

-- `left owes blank bytes`: what is left to show of the bytes. A vertical tab before them has no white
-- space before it if `owes`.
abbrev pub left : Bool → Bool → List ℕ → Bool
left owes blank bytes = (not owes || blank_follows bytes) && tabs_are_beside blank bytes

none_there : (s : List ℕ) → ((k : ℕ) → 0 ≤ k → k < length s → is_byte vertical_tab (slice_index s k) ≡ true → ⊥) → has_tab s ≡ false
none_there [] h = refl
none_there (x ∷ s) h =
    ap₂ (λ (a b : Bool). a || b) (false_from_ne_true (x == vertical_tab) (h 0 (omega arith) (omega arith))) (none_there s (λ k l u. h (suc k) (omega arith) (omega arith)))

pub found_tab : (s : List ℕ) (r : Option ℕ) → IsFirstByte (is_byte vertical_tab) s r → is_some r ≡ has_tab s
found_tab s r h = grind (arith, none_there, list_any_at)

-- 2. The line that bytes are.

module _ (k : Line) (no : NoNewline k.body) (end : IsEnd k.ending) (bytes : List ℕ) (bytes_are : bytes ≡ text_of k) where
  -- The line that is read of these bytes.
  module _ (e : Line) (w : Bool) (to : UpToNewline bytes (length (text_of e)) w) (is : e ≡ line_at 1 (take (length (text_of e)) bytes)) where
    keeps : keeps_ending k ≡ bytes_eq e.ending k.ending
    keeps = grind (arith, ending_read k no end bytes bytes_are 1 e w to is)

    module _ (shown : List ℕ) where
      pub other_ending : bytes_eq e.ending k.ending ≡ false → is_line_shown k shown ≡ false
      other_ending n = grind (arith, keeps)

      pub shown_by : e.ending ≡ k.ending → is_empty k.ending ≡ false → fits k ≡ true → is_shown_as (scan_after_run [] e) shown ≡ is_line_shown k shown
      shown_by s some f =
          let body = body_read k no end bytes bytes_are 1 e w to is s in
          let scan = scan_after-same [] [] C e k refl body s in
          grind (arith, keeps, some, f, bytes_eq-Decides, scan)
