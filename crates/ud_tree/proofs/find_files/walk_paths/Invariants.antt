use Rattle.std.proofs.Common.{drop, map}
use Rattle.std.specs.Prelude.{string_bytes}
use Rattle.ud_tree.specs.WalkSteps.{at, named, scope_of, Steps}
use Rattle.ud_tree.proofs.find_files.walk_paths.Given as goal

abbrev pub invariant-loop-path : goal.invariant-loop-path
invariant-loop-path g l = Steps (map named (map (λ p. string_bytes p) l.path-items))
    (at (scope_of l.fn.walk) (g.T.Directory.history l.fn.tree) l.fn.walk l.fn.report)
    (map named (map (λ p. string_bytes p) (drop l.path-index l.path-items)))
    (at (scope_of l.walk) (g.T.Directory.history l.tree) l.walk l.report)
