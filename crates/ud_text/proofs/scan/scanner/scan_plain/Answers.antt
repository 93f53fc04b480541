-- The initial state is carried over the line.
use Rattle.std.proofs.Common.{◌++◌, ◌∷◌, [], sym, subst}
use Rattle.ud_model.specs.text.Scanning.{next_reading}
use Rattle.ud_model.specs.declared.kind.Mode.TheVariants.{Plain}
use Rattle.ud_model.specs.aids.LineViews.{as_line}
use Rattle.ud_text.specs.scan.ScannerState.{ScannerState, ScannerRepresents}
use Rattle.ud_text.proofs.lemmas.scan.ScannerLemmas.{represents_plain}
use Rattle.ud_text.proofs.scan.scanner.scan_plain.Goals as goal

pub returns-clause-represents : goal.returns-clause-represents
returns-clause-represents c = λ before.
    subst (λ (k : ScannerState). ScannerRepresents k (before ++ next_reading before Plain (as_line c.args.line.now) ∷ [])) (sym c.initial_state-scan_state.ensures)
    (represents_plain before (as_line c.args.line.now))
