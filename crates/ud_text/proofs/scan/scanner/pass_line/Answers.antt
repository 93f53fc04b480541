-- By the mode.
use Rattle.std.proofs.Common.{◌++◌, ◌∷◌, [], sym, subst}
use Rattle.ud_model.specs.text.Scanning.{next_reading}
use Rattle.ud_model.specs.declared.kind.Mode.{Mode}
use Rattle.ud_model.specs.declared.kind.Mode.TheVariants.{Plain}
use Rattle.ud_model.specs.aids.LineViews.{as_line}
use Rattle.ud_text.specs.scan.ScannerState.{ScannerState, ScannerRepresents, scanner_state_of}
use Rattle.ud_text.proofs.lemmas.scan.ScannerLemmas.{represents_plain}
use Rattle.ud_text.proofs.scan.scanner.pass_line.Goals as goal

pub returns-in-Plain : goal.returns-in-Plain
returns-in-Plain c = λ before h.
    subst (λ (m : Mode). ScannerRepresents (scanner_state_of c.initial_state.result) (before ++ next_reading before m (as_line c.args.line.now) ∷ [])) (sym c.in-Plain.is)
    (subst (λ (k : ScannerState). ScannerRepresents k (before ++ next_reading before Plain (as_line c.args.line.now) ∷ [])) (sym c.initial_state.ensures)
    (represents_plain before (as_line c.args.line.now)))
