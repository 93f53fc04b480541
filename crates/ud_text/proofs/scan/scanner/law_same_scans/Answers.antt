-- Both scans follow from the carried state.
use Rattle.ud_text.proofs.lemmas.scan.ScannerLemmas.{same_scans}
use Rattle.ud_text.proofs.scan.scanner.law_same_scans.Goals as goal

pub returns : goal.returns
returns c = same_scans
