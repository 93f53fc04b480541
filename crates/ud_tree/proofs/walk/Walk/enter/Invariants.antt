use Rattle.std.proofs.Common.{[], ◌<◌, drop, length, map}
use Rattle.ud_tree.specs.WalkSteps.{at, places_in, scope_of, Steps, topped}
use Rattle.ud_tree.proofs.walk.Walk.enter.Given as goal

abbrev pub invariant-loop-name : goal.invariant-loop-name
invariant-loop-name g l = record {
  steps : Steps [] (topped l.directory (at (scope_of l.fn.self) (g.T.Directory.history l.fn.tree)
      l.fn.self l.fn.report))
      (places_in l.directory (map (λ n. n.items) (drop l.name-index l.name-items)))
      (at (scope_of l.self) (g.T.Directory.history l.tree) l.self l.report);
  called : length (g.T.Directory.history l.fn.tree) < length (g.T.Directory.history l.tree);
}
