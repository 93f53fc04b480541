use Rattle.std.proofs.Common.{◌∙◌}
use Rattle.ud_tree.specs.Runs.{texts_of}
use Rattle.ud_tree.proofs.RemainderLemmas.{all_listed}
use Rattle.ud_tree.proofs.laws.law_run_unnamed.Goals as goal

pub returns : goal.returns
returns c = λ given run are processes whole calls represents.
    processes.ends.totals.unnamed whole calls represents ∙ all_listed calls run.args (texts_of processes.ends.does.results) are
