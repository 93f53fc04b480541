use Rattle.std.proofs.Common.{◌≡◌, ◌+◌, take}
use Rattle.ud_tree.specs.TreeRuns.{DoesJob}
use Rattle.ud_tree.specs.Writing.{stage}
use Rattle.ud_tree.proofs.process_files.process_files.Given as goal

abbrev pub invariant-loop-done : goal.invariant-loop-done
invariant-loop-done g l = record {
  counted : l.counts.changed + l.counts.unchanged + l.counts.faulty ≡ l.done;
  lists : l.session.names.lists_hidden ≡ l.job.arguments.now.list_hidden;
  written : DoesJob l.job (take l.done l.files) (stage g.T.Directory.history g.W.Write.contents l.fn.tree l.fn.out l.fn.session.report)
      (stage g.T.Directory.history g.W.Write.contents l.tree l.out l.session.report) l.counts l.fn.session.names l.session.names;
}
