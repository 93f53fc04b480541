use Rattle.ud_tree.specs.declared.arguments.Task.TheVariants.{Replace, Diff, Names}
use Rattle.ud_io.specs.Streams.{stream_of}
use Rattle.ud_tree.proofs.RunLemmas.{done_by, unlisted_one, lists_unshown}
use Rattle.ud_tree.proofs.process_files.process_file.Goals as goal

pub returns-in-Replace-clause-writes : goal.returns-in-Replace-clause-writes
returns-in-Replace-clause-writes g c =
    done_by Replace c.args.job.now.arguments.now c.in-Replace.is (unlisted_one c.args.session.now.names c.replace_file.ensures.writes)

pub returns-in-Diff-clause-writes : goal.returns-in-Diff-clause-writes
returns-in-Diff-clause-writes g c =
    done_by Diff c.args.job.now.arguments.now c.in-Diff.is (unlisted_one c.args.session.now.names c.show_file.ensures.writes)

pub returns-in-Names-clause-writes : goal.returns-in-Names-clause-writes
returns-in-Names-clause-writes g c = rw c.unedited.ensures (done_by Names c.args.job.now.arguments.now c.in-Names.is
    (lists_unshown (stream_of g.W.Write.contents c.args.out.now) c.args.session.now.report c.list_file.ensures))
