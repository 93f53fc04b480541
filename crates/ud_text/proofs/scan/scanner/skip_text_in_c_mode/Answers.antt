-- By the bytes that are skipped.
use Rattle.ud_model.specs.declared.kind.Mode.TheVariants.{C}
use Rattle.ud_text.specs.scan.ScannerState.{scanner_state_of}
use Rattle.ud_text.proofs.lemmas.bulk.BulkPlainLemmas.{begins_ends}
use Rattle.ud_text.proofs.lemmas.bulk.QuietLineLemmas.{passes_none}
use Rattle.ud_text.specs.bulk.BulkLexemes.{at_start}
use Rattle.ud_text.proofs.scan.scanner.skip_text_in_c_mode.Goals as goal

pub returns-then-not-can_skip_text-clause-skips : goal.returns-then-not-can_skip_text-clause-skips
returns-then-not-can_skip_text-clause-skips c = passes_none C (scanner_state_of c.args.scan_state)

pub returns-then-not-can_skip_text-clause-ends : goal.returns-then-not-can_skip_text-clause-ends
returns-then-not-can_skip_text-clause-ends c = begins_ends _ at_start
