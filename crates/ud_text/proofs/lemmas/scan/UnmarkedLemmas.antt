-- Lines in C mode without a mark, after a text that ends outside comments and literals.
use Rattle.std.proofs.Common.{◌≡◌, ℕ, ◌-◌, nat_eq, List, [], ◌∷◌, ◌++◌, length, take, Bool, true, false, not, ◌&&◌, ◌||◌, if◌then◌else◌, refl, sym, ◌∙◌, ap, subst, arith}
use Rattle.std.specs.List.{ends_with, position_or_len}
use Rattle.std.proofs.lemmas.Bool.Decides.{Decides-eqb}
use Rattle.std.proofs.lemmas.List.{take_all}
use Rattle.std.proofs.lemmas.Slice.Eq.{ends_is}
use Rattle.ud_model.specs.text.Bytes.{backslash, is_mark, are_white}
use Rattle.ud_model.specs.text.Lines.{Line, NoNewline}
use Rattle.ud_model.specs.text.Scans.{Reading}
use Rattle.ud_model.specs.text.Splicing.{is_spliced, is_empty, content, stays_open, spliced_text, c_run_of}
use Rattle.ud_model.specs.text.Scanning.{is_block, scan_after, next_reading}
use Rattle.ud_model.specs.aids.LexStates.{in_text, kind_in_state, state_after_line, white_after_line, Masks}
use Rattle.ud_model.specs.declared.kind.Mode.TheVariants.{C, Plain}
use Rattle.ud_model.specs.declared.kind.CommentAt.TheVariants.{Outside}
use Rattle.ud_text.specs.scan.ScannerState.{ScannerState, ScannerRepresents, initial_scanner_state, StaysAfter, IsScanOf}
use Rattle.ud_text.proofs.lemmas.scan.MaskLemmas.{NoMark, no_mark_before, plain_run}
use Rattle.ud_text.proofs.lemmas.scan.ScannerLemmas.{scan_carried, represents_code, represents_plain}

-- bytes that end in a backslash have a mark
ends_marked : (prefix : List ℕ) → NoMark (prefix ++ backslash ∷ []) → ⊥
ends_marked [] h = let e : true ≡ false = h.0 in cc
ends_marked (b ∷ prefix) h = ends_marked prefix h.1

-- a line without a mark isn't spliced
unspliced : (line : Line) → NoMark line.body → is_spliced line ≡ false
unspliced line h = by_end (ends_with nat_eq line.body (backslash ∷ [])) (not (is_empty line.ending))
    (ends_is Decides-eqb line.body (backslash ∷ []) (ends_with nat_eq line.body (backslash ∷ [])) refl).0
  where
    by_end : (s e : Bool) → (s ≡ true → line.body ≡ take (length line.body - 1) line.body ++ backslash ∷ []) → (s && e) ≡ false
    by_end true e f = absurd (ends_marked (take (length line.body - 1) line.body) (subst NoMark (f refl) h))
    by_end false e f = refl

module _ (scan_state : ScannerState) (before : List Reading) (line : Line) (h : ScannerRepresents scan_state before) (state : scan_state.state ≡ in_text)
    (count : ℕ) (first : count ≡ position_or_len is_mark line.body) (whole : count ≡ length line.body) (one_line : NoNewline line.body)
    (some : is_empty line.ending ≡ false) where
  no_mark : NoMark line.body
  no_mark = grind (arith, take_all, no_mark_before line.body)

  spliced_is : is_spliced line ≡ false
  spliced_is = unspliced line no_mark

  stays_is : stays_open line ≡ false
  stays_is = ap (λ (s : Bool). s || is_empty line.ending) spliced_is ∙ some

  content_is : line.body ≡ content line
  content_is = sym (ap (λ (s : Bool). if s then take (length line.body - 1) line.body else line.body) spliced_is)

  abbrev white : Bool
  white = scan_state.white && are_white line.body

  shown : Masks (length (spliced_text (c_run_of before))) (spliced_text (c_run_of before) ++ content line) in_text white line.body
  shown =
      subst (λ (l : List ℕ). Masks (length (spliced_text (c_run_of before))) (spliced_text (c_run_of before) ++ l) in_text white line.body) content_is
      (plain_run (spliced_text (c_run_of before)) line.body white count h.reads state first whole one_line refl)

  -- the initial state is carried over the line
  pub unmarked_carries : (left : ScannerState) → left ≡ initial_scanner_state → ScannerRepresents left (before ++ next_reading before C line ∷ [])
  unmarked_carries left e =
      subst (λ (k : ScannerState). ScannerRepresents k (before ++ next_reading before C line ∷ [])) (sym e)
      (represents_code scan_state before line line.body in_text white initial_scanner_state h shown
      (ap (λ (s : Bool). state_after_line s in_text) (sym stays_is)) (ap (λ (s : Bool). white_after_line s in_text white) (sym stays_is))
      (ap (λ (s : Bool). s || is_block (kind_in_state in_text)) (sym spliced_is)))

  -- the line is masked unchanged
  pub unmarked_scan : (fresh joins : Bool) → fresh ≡ scan_state.white → joins ≡ scan_state.joins →
      record { masked = line.body; fresh = fresh; joins_before = joins; joins_after = false; spliced = false; comment = Outside } ≡ scan_after before C line
  unmarked_scan fresh joins f j =
      grind (arith, spliced_is, scan_carried scan_state before line line.body in_text white h shown)

module _ (scan_state : ScannerState) (initial : scan_state ≡ initial_scanner_state) (line : Line) (count : ℕ) (first : count ≡ position_or_len is_mark line.body)
    (whole : count ≡ length line.body) (one_line : NoNewline line.body) (some : is_empty line.ending ≡ false) where
  -- the initial state is carried over the line in each mode
  pub unmarked_stays : StaysAfter scan_state line
  unmarked_stays C before h = unmarked_carries scan_state before line h (ap (λ s. s.state) initial) count first whole one_line some scan_state initial
  unmarked_stays Plain before h = grind (arith, represents_plain before line)

  -- the line is masked unchanged in each mode
  pub unmarked_scan_of : IsScanOf scan_state line
      (record { masked = line.body; fresh = true; joins_before = false; joins_after = false; spliced = false; comment = Outside })
  unmarked_scan_of C before h =
      unmarked_scan scan_state before line h (ap (λ s. s.state) initial) count first whole one_line some true false (sym (ap (λ s. s.white) initial))
      (sym (ap (λ s. s.joins) initial))
  unmarked_scan_of Plain before h = refl
