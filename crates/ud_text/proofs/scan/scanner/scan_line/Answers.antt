-- By the mode.
use Rattle.std.proofs.Common.{sym, ◌∙◌, ap}
use Rattle.ud_model.specs.text.Scanning.{scan_after}
use Rattle.ud_model.specs.declared.kind.Mode.{Mode}
use Rattle.ud_model.specs.aids.LineViews.{as_line}
use Rattle.ud_text.proofs.scan.scanner.scan_line.Goals as goal

pub returns-in-Plain-clause-value : goal.returns-in-Plain-clause-value
returns-in-Plain-clause-value g c = λ before h.
    c.scan_plain.ensures.value _ before ∙ sym (ap (λ (m : Mode). scan_after before m (as_line c.args.line.now)) c.in-Plain.is)
