-- By the kind of the error.
use Rattle.ud_replace.specs.declared.error.ReplaceError.TheVariants.{Text, Read, NotRenamed, HalfWritten}
use Rattle.ud_tree.proofs.MessageLemmas.{error_is, unwritten_is}
use Rattle.ud_tree.proofs.ReportLemmas.{reports_tells}
use Rattle.ud_tree.proofs.report.Report.file_error.Goals as goal

pub returns-in-Text : goal.returns-in-Text
returns-in-Text g c = error_is c.args.path.now (Text c.in-Text.fault) c.in-Text.is c.text_fault.ensures

pub returns-in-Read : goal.returns-in-Read
returns-in-Read g c = error_is c.args.path.now Read c.in-Read.is (reports_tells c.failure.ensures)

pub returns-in-ReadOnly : goal.returns-in-ReadOnly
returns-in-ReadOnly g c = unwritten_is c.args.path.now c.in-ReadOnly.is c.failure-in-ReadOnly.ensures

pub returns-in-HalfWritten : goal.returns-in-HalfWritten
returns-in-HalfWritten g c = error_is c.args.path.now HalfWritten c.in-HalfWritten.is (reports_tells c.failure-in-HalfWritten.ensures)

pub returns-in-NotRenamed : goal.returns-in-NotRenamed
returns-in-NotRenamed g c = error_is c.args.path.now NotRenamed c.in-NotRenamed.is c.not_renamed.ensures
