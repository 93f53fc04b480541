-- The initial state represents no readings.
use Rattle.std.proofs.Common.{[], sym, refl, subst}
use Rattle.ud_text.specs.scan.ScannerState.{ScannerState, ScannerRepresents}
use Rattle.ud_text.proofs.lemmas.scan.ScannerLemmas.{represents_none}
use Rattle.ud_text.proofs.scan.scanner.Scanner.over.Goals as goal

pub returns : goal.returns
returns g c = subst (λ (k : ScannerState). ScannerRepresents k []) (sym c.initial_state.ensures) (represents_none [] refl refl)
