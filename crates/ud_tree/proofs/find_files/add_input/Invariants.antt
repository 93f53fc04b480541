use Rattle.std.proofs.Common.{drop, map}
use Rattle.ud_tree.specs.WalkSteps.{at, given, nowhere, Steps}
use Rattle.ud_tree.proofs.find_files.add_input.Given as goal

abbrev pub invariant-loop-name : goal.invariant-loop-name
invariant-loop-name g l = Steps (map given (map (λ p. p.items) l.name-items))
    (at nowhere (g.T.Directory.history l.fn.tree) l.fn.walk l.fn.report)
    (map given (map (λ p. p.items) (drop l.name-index l.name-items)))
    (at nowhere (g.T.Directory.history l.tree) l.walk l.report)
