use Rattle.std.proofs.Common.{[], ◌+◌, ◌≤◌, length}
use Rattle.ud_tree.specs.WalkSteps.{at, scope_of, Steps}
use Rattle.ud_tree.proofs.walk.Walk.go.Given as goal

abbrev pub invariant-directories : goal.invariant-directories
invariant-directories g l = record {
  steps : Steps [] (at (scope_of l.fn.self) (g.T.Directory.history l.fn.tree) l.fn.self
      l.fn.report) [] (at (scope_of l.self) (g.T.Directory.history l.tree) l.self l.report);
  many : l._entered + length (g.T.Directory.history l.fn.tree)
      ≤ length (g.T.Directory.history l.tree);
}
