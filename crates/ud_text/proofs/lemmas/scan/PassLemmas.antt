-- Lines that are read without being shown.
use Rattle.std.proofs.Common.{◌≡◌, ◌==◌, ℕ, suc, List, [], ◌∷◌, ◌++◌, length, drop, Bool, true, ◌||◌, refl, arith}
use Rattle.std.proofs.lemmas.Bool.{eqb-true}
use Rattle.ud_model.specs.text.Lines.{Line}
use Rattle.ud_model.specs.text.Scans.{Reading}
use Rattle.ud_model.specs.text.Splicing.{is_spliced, content, stays_open, spliced_text, c_run_of}
use Rattle.ud_model.specs.text.Scanning.{is_block, next_reading}
use Rattle.ud_model.specs.aids.LexStates.{LexState, LexesTo, mask, kind_in_state, state_after_line, white_after_line}
use Rattle.ud_model.specs.declared.kind.Mode.TheVariants.{C}
use Rattle.ud_text.specs.scan.ScannerState.{ScannerState, ScannerRepresents}
use Rattle.ud_text.proofs.lemmas.scan.ScannerLemmas.{represents_code}
use Rattle.std.proofs.lemmas.Grind.{common_steps}

-- nothing has no bytes
pub nothing_left : (rest : List ℕ) → (length rest == 0) ≡ true → rest ≡ []
nothing_left [] e = refl
nothing_left (b ∷ rest) e = let k : suc (length rest) ≡ 0 = eqb-true (suc (length rest)) 0 e in cc

-- the state that is carried over a line that isn't shown
pub represents_passed : (carry left : ScannerState) (before : List Reading) (line : Line) (v : LexState) (white : Bool) → ScannerRepresents carry before →
    ((text : List ℕ) → LexesTo text carry.state carry.white → LexesTo (text ++ content line) v white) →
    left.state ≡ state_after_line (stays_open line) v → left.white ≡ white_after_line (stays_open line) v white →
    left.joins ≡ (is_spliced line || is_block (kind_in_state left.state)) → ScannerRepresents left (before ++ next_reading before C line ∷ [])
represents_passed carry left before line v white h f p w j =
    let text : List ℕ = spliced_text (c_run_of before) in
    represents_code carry before line (drop (length text) (mask (text ++ content line))) v white left h (grind (arith, common_steps)) p w j
