use Rattle.std.proofs.Common.{ap, arith}
use Rattle.ud_io.proofs.StreamLemmas.{sends_same}
use Rattle.ud_tree.specs.Others.{others_list}
use Rattle.ud_tree.proofs.RunLemmas.{ends, faults_added}
use Rattle.ud_tree.proofs.run.process_all.Goals as goal

pub returns : goal.returns
returns g c =
    ends c.args.job.now c.args.walked.now _ c.write_lists-list_fault.result c.finish_output-out_fault.result c.status-status.result
    c.new-names.result c.process_files-counts.new.session.names c.new-names.ensures.list c.new-names.ensures.hidden c.new-names.ensures.hidden_list c.hidden-hidden.ensures c.write_lists-list_fault.ensures.whole
    (rw c.new-report.ensures at c.seek_names.ensures) (rw c.as_slice-files.ensures.value at c.process_files-counts.ensures) (rw c.as_slice-files.ensures.value at c.find_others-others.ensures) c.write_lists-list_fault.ensures.writes
    c.write_lists-list_fault.ensures.told (sends_same (ap others_list c.as_slice.ensures.value) c.write_others.ensures) c.finish_output-out_fault.ensures.sent c.finish_output-out_fault.ensures.failed c.finish_output-out_fault.ensures.flushed
    c.finish_output-out_fault.ensures.told c.report_end.ensures.tells c.report_end.ensures.unshown
    (rw c.as_slice-2.ensures.value at c.report_rules.ensures.said) c.report_rules.ensures.quiet c.into_stream-err.ensures
    (omega (arith, c.saturating_add-faults.ensures, c.process_files-counts.type_inv))
    (faults_added c.write_lists-list_fault.result c.finish_output-out_fault.result c.args.walked.now.faults c.process_files-counts.result.faulty _ _ _ _ _
    c.from.ensures c.saturating_add.ensures c.from-2.ensures c.saturating_add-2.ensures c.saturating_add-faults.ensures)
    c.failed.result c.failed.ensures c.status-status.ensures
