use Rattle.std.proofs.Common.{arith}
use Rattle.std.proofs.Math.ListN.{length-take}
use Rattle.ud_model.specs.declared.kind.Mode.TheVariants.{Plain}
use Rattle.ud_text.specs.scan.ScannerState.{scanner_state_of}
use Rattle.ud_text.proofs.lemmas.bulk.QuietLineLemmas.{passes_none}
use Rattle.ud_text.proofs.lemmas.bulk.HashLemmas.{passes_plain}
use Rattle.ud_text.proofs.scan.scanner.skip_text_in_plain_mode.Goals as goal

pub returns-then-count-eq0-clause-skips : goal.returns-then-count-eq0-clause-skips
returns-then-count-eq0-clause-skips c = passes_none Plain (scanner_state_of c.args.scan_state)

pub returns-clause-skips : goal.returns-clause-skips
returns-clause-skips c = grind (arith, length-take, passes_plain)
