use Rattle.std.proofs.Common.{arith, subst, sym}
use Rattle.ud_tree.specs.Scopes.{Scope}
use Rattle.ud_tree.specs.WalkSteps.{at, no_step, scope_of}
use Rattle.ud_tree.proofs.CoverLemmas.{on_err_always}
use Rattle.ud_tree.proofs.StepLemmas.{last_of, RootedIn, rooted_last, rooted_made, same_scope}
use Rattle.ud_tree.proofs.StepLemmas.{steps_last, steps_then, stops_last, then_stops}
use Rattle.ud_tree.proofs.walk.Walk.go.Goals as goal

pub directories-init : goal.directories-init
directories-init g c = record { steps = no_step; many = omega arith }

pub enter-requires : goal.enter-requires
enter-requires g c = subst (λ (s : Scope). RootedIn s c.in-Some.directory)
    (sym (same_scope c.directories.invariant.steps))
    (rooted_last (scope_of c.args.self.now) c.pop.new.self.items c.in-Some.directory
    (last_of c.pop.new.self.items c.in-Some.directory c.pop.ensures.items c.in-Some.is)
    (rooted_made c.directories.invariant.steps c.requires))

pub directories-preserved : goal.directories-preserved
directories-preserved g c = record {
  steps = steps_then c.directories.invariant.steps
      (steps_last (at (scope_of c.directories.self) (g.T.Directory.history c.directories.tree)
      (record c.directories.self { directories = c.pop.new.self }) c.directories.report)
      c.in-Some.directory
      (last_of c.pop.new.self.items c.in-Some.directory c.pop.ensures.items c.in-Some.is)
      c.in_ok-enter.ensures.steps);
  many = omega (arith, c.in_ok-enter.ensures.called);
}

pub returns-in_err-enter-clause-stops : goal.returns-in_err-enter-clause-stops
returns-in_err-enter-clause-stops g c = on_err_always c.from_residual.result
    (then_stops c.directories.invariant.steps (stops_last (at (scope_of c.directories.self)
    (g.T.Directory.history c.directories.tree)
    (record c.directories.self { directories = c.pop.new.self }) c.directories.report)
    c.in-Some.directory
    (last_of c.pop.new.self.items c.in-Some.directory c.pop.ensures.items c.in-Some.is)
    c.in_err-enter.ensures.stops))
