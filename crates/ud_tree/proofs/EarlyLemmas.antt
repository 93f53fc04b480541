-- A run that no file follows, as its function names it.
use Rattle.std.proofs.Common.{List, refl}
use Rattle.ud_io.specs.Streams.{Stream}
use Rattle.ud_replace.specs.Calls.{Call}
use Rattle.ud_tree.specs.declared.job.Job.{Job}
use Rattle.ud_tree.specs.Remainders.{listing_of}
use Rattle.ud_tree.specs.Reports.{ReportState, new_report}
use Rattle.ud_tree.specs.Streams.{Source}
use Rattle.ud_tree.specs.TreeRuns.{RunsTree}
use Rattle.ud_tree.specs.WalkMessages.{StopsWalk}
use Rattle.ud_tree.proofs.RunLemmas.{no_files}

-- The run made only calls of a walk, and a message says why.
pub stops_early : (job : Job) (given left : Source) (calls calls' : List Call) (out err : Stream)
    (r : ReportState) → StopsWalk job.arguments.now.from_input left calls calls'
    (new_report job.is_terminal (listing_of job.arguments.now) err) r →
    RunsTree job given left (record { calls = calls; out = out; err = err })
    (record { calls = calls'; out = out; err = r.err }) 2
stops_early job source left calls calls' out err r h = no_files job source refl refl h refl
