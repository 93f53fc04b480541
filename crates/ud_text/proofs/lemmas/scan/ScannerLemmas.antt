-- Scanner states: what is carried over a line, and the line's scan by it.
use Rattle.std.proofs.Common.{arith, ◌≡◌, ℕ, List, [], ◌∷◌, ◌++◌, length, map, Bool, false, ◌||◌, refl, sym, ◌∙◌, ap, true, rules}
use Rattle.ud_model.specs.text.Lines.{Line, NoNewline}
use Rattle.ud_model.specs.text.Scans.{Scan, Reading}
use Rattle.ud_model.specs.text.Splicing.{is_spliced, content, stays_open, spliced_part, spliced_text, c_run_of}
use Rattle.ud_model.specs.text.Scanning.{is_block, joins, comment_at, scan_after_run, scan_after, next_reading}
use Rattle.ud_model.specs.aids.LexStates.{LexState, LexesTo, kind_in_state, fresh_at, state_after_line, white_after_line, Masks}
use Rattle.ud_model.specs.sections.Faults.{is_in_block, ends_in_comment}
use Rattle.ud_model.specs.declared.kind.Mode.{Mode}
use Rattle.ud_model.specs.declared.kind.Mode.TheVariants.{C, Plain}
use Rattle.ud_model.specs.declared.kind.CommentAt.{CommentAt}
use Rattle.ud_model.specs.sections.Tree.{Item}
use Rattle.ud_model.specs.sections.Items.{reading_of}
use Rattle.ud_model.proofs.text.LexStateLemmas.{LexesTo-nil}
use Rattle.ud_model.proofs.text.ScanLaws.{scan_after_run-from}
use Rattle.ud_model.proofs.text.ScanLemmas.{LexesTo-same, LexesTo-close, kind_at_place, joined_run_last, run_of_last, joins_last, scan_after_is}
use Rattle.ud_text.specs.scan.ScannerState.{ScannerState, ScannerRepresents, initial_scanner_state, ends_in_block}
use Rattle.ud_text.proofs.lemmas.scan.MaskLemmas.{no_newline-take}
use Rattle.ud_model.specs.text.Lexemes.{LexemeKind}

-- A disjunction whose first part is false.
pub or_false : (a b : Bool) → a ≡ false → b ≡ (a || b)
or_false false b e = refl
or_false true b e = cc

-- readings with one more end in a block comment if and only if that one does
pub ends_in_block_last : (before : List Reading) (r : Reading) → ends_in_block (before ++ r ∷ []) ≡ is_in_block r.scan.comment
ends_in_block_last [] r = refl
ends_in_block_last (q ∷ []) r = refl
ends_in_block_last (q ∷ p ∷ before) r = ends_in_block_last (p ∷ before) r

-- the initial state represents a C run without lines
pub represents_none : (before : List Reading) → c_run_of before ≡ [] → ends_in_block before ≡ false → ScannerRepresents initial_scanner_state before
unfolding joins
represents_none before e f = record {
  reads = LexesTo-same (sym (ap spliced_text e)) refl refl LexesTo-nil;
  joins_is = sym (ap joins e ∙ ap is_block (kind_at_place LexesTo-nil));
  block_is = sym f;
}

-- the initial state is carried over a line in plain mode
pub represents_plain : (before : List Reading) (line : Line) → ScannerRepresents initial_scanner_state (before ++ next_reading before Plain line ∷ [])
represents_plain before line = search (rules, represents_none, run_of_last, ends_in_block_last)

module _ (carry : ScannerState) (before : List Reading) (line : Line) (masked : List ℕ) (v : LexState) (white : Bool) where
  -- the scan of a line in C mode, by the carried state and by the lexer's state after the line's
  -- content
  pub scan_carried : ScannerRepresents carry before → Masks (length (spliced_text (c_run_of before))) (spliced_text (c_run_of before) ++ content line) v white masked →
      scan_after_run (c_run_of before) line ≡ record {
        masked = masked;
        fresh = fresh_at carry.state carry.white (content line);
        joins_before = carry.joins;
        joins_after = is_spliced line || is_block (kind_in_state (state_after_line (stays_open line) v));
        spliced = is_spliced line;
        comment = comment_at (is_spliced line) (kind_in_state (state_after_line (stays_open line) v));
      }
  scan_carried h m = scan_after_is (c_run_of before) line masked carry.state v carry.white white carry.joins h.reads h.joins_is m

  -- the state that is carried over a line in C mode
  pub represents_code : (left : ScannerState) → ScannerRepresents carry before → Masks (length (spliced_text (c_run_of before))) (spliced_text (c_run_of before) ++ content line) v white masked →
      left.state ≡ state_after_line (stays_open line) v → left.white ≡ white_after_line (stays_open line) v white →
      left.joins ≡ (is_spliced line || is_block (kind_in_state left.state)) → ScannerRepresents left (before ++ next_reading before C line ∷ [])
  represents_code left h m p w j = let r : Reading = next_reading before C line in
      let reads : LexesTo (spliced_text (c_run_of before) ++ spliced_part line) (state_after_line (stays_open line) v) (white_after_line (stays_open line) v white) =
      LexesTo-close (spliced_text (c_run_of before)) line v white m.reads in
      record {
        reads = LexesTo-same (sym (joined_run_last before r refl)) (sym p) (sym w) reads;
        joins_is = j ∙ ap (λ (x : LexState). is_spliced line || is_block (kind_in_state x)) p
            ∙ sym (ap joins (run_of_last before r) ∙ joins_last (c_run_of before) line
            ∙ ap (λ (k : LexemeKind). is_spliced line || is_block k) (kind_at_place reads));
        block_is = ap (λ (x : LexState). is_block (kind_in_state x)) p
            ∙ sym (ends_in_block_last before r ∙ ap (λ (s : Scan). is_in_block s.comment) (scan_carried h m)
            ∙ (grind arith));
      }

-- two scans with the same parts are the same
pub same_parts : {m n : List ℕ} {f g b c a d s t : Bool} {k l : CommentAt} → m ≡ n → f ≡ g → b ≡ c → a ≡ d → s ≡ t → k ≡ l →
    ◌≡◌ {A = Scan} (record { masked = m; fresh = f; joins_before = b; joins_after = a; spliced = s; comment = k })
    (record { masked = n; fresh = g; joins_before = c; joins_after = d; spliced = t; comment = l })
same_parts e f g h i j = cc

-- the content of a line has no newline, if the body has none
pub no_newline-content : (line : Line) → NoNewline line.body → NoNewline (content line)
no_newline-content line h = grind (arith, no_newline-take)

-- the carried state decides the scan of the next line
pub same_scans : (carry : ScannerState) (before others : List Reading) (m : Mode) (line : Line) → ScannerRepresents carry before → ScannerRepresents carry others →
    scan_after before m line ≡ scan_after others m line
same_scans carry before others Plain line h k = refl
same_scans carry before others C line h k =
    scan_after_run-from (c_run_of before) line carry.state carry.white carry.joins h.reads h.joins_is
    ∙ sym (scan_after_run-from (c_run_of others) line carry.state carry.white carry.joins k.reads k.joins_is)

-- items and their readings agree whether the last line ends in a block comment
pub ends_in_comment-readings : (xs : List (Item Reading)) → ends_in_block (map reading_of xs) ≡ ends_in_comment xs
ends_in_comment-readings [] = refl
ends_in_comment-readings (x ∷ []) = refl
ends_in_comment-readings (x ∷ y ∷ xs) = ends_in_comment-readings (y ∷ xs)
