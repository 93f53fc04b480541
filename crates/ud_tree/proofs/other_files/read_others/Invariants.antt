use Rattle.ud_replace.specs.Moments.{EachCall}
use Rattle.ud_tree.specs.Others.{ReadsOthers}
use Rattle.ud_tree.specs.TreeMoments.{TouchesNothing}
use Rattle.ud_tree.proofs.other_files.read_others.Given as goal

abbrev pub invariant-loop-found : goal.invariant-loop-found
invariant-loop-found g l =
    EachCall TouchesNothing (g.T.Directory.history l.fn.tree) (g.T.Directory.history l.tree)
    × ReadsOthers l.fn.job.arguments.now l.fn.files l.yielded (g.T.Directory.history l.fn.tree) (g.T.Directory.history l.tree) l.others
