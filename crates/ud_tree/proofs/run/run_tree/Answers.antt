use Rattle.std.proofs.Common.{refl, ap}
use Rattle.ud_tree.specs.Reports.{ReportState}
use Rattle.ud_tree.specs.WalkMessages.{no_memory}
use Rattle.ud_tree.proofs.RunLemmas.{no_files, ran_from}
use Rattle.ud_tree.proofs.WalkTellLemmas.{stops_told}
use Rattle.ud_tree.proofs.run.run_tree.Goals as goal

pub returns-in-Err-clause-runs : goal.returns-in-Err-clause-runs
returns-in-Err-clause-runs g c = no_files c.args.job.now _ c.new-report.ensures c.into_stream.ensures (stops_told (λ ms. no_memory refl) c.in-Err.ensures.no_memory c.line.ensures) refl

pub returns-in-Ok-Some-clause-runs : goal.returns-in-Ok-Some-clause-runs
returns-in-Ok-Some-clause-runs g c =
    ran_from c.args.job.now c.new-report.ensures c.into_stream-in-Ok-Some.ensures
    (rw c.in-Ok-Some.field-0-is at (c.in-Ok-Some.ensures.ends (ap (λ (r : ReportState). r.faulty) c.new-report.ensures))).files refl
    c.process_all.ensures
