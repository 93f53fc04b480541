use Rattle.std.proofs.Common.{◌++◌, ap, arith, length, refl, string_bytes, subst, sym}
use Rattle.ud_tree.specs.Scopes.{IsRooted, Scope}
use Rattle.ud_tree.specs.WalkSteps.{inside}
use Rattle.ud_tree.proofs.CoverLemmas.{on_err_always}
use Rattle.ud_tree.proofs.StepLemmas.{all_looked, look_calls, next_look, same_scope, steps_list}
use Rattle.ud_tree.proofs.walk.Walk.enter.Goals as goal

pub loop-name-init : goal.loop-name-init
loop-name-init g c = record {
  steps = steps_list {d = c.args.directory.now} (record {
    listing = rw c.as_slice-name-items.ensures.value
        (rw c.as_str.ensures.value at c.list_directory-names.ensures);
    scope = refl;
    found = refl;
    marks = refl;
    waits = refl;
  });
  called = let e = ap length c.list_directory-names.ensures.called in omega (arith, e);
}

pub visit-requires : goal.visit-requires
visit-requires g c = subst (λ (s : Scope). IsRooted s.paths
    (string_bytes c.args.directory.now.path) c.args.directory.now.root)
    (sym (same_scope c.loop-name.invariant.steps)) c.requires

pub loop-name-preserved : goal.loop-name-preserved
loop-name-preserved g c = record {
  steps = next_look (λ name. inside (string_bytes c.args.directory.now.path ++ name) name)
      (λ n. n.items) c.as_slice-name-items.result.now c.loop-name.name-index c.name-item.result
      c.as_slice.result.now c.loop-name-test.true c.name-item.is c.as_slice.ensures.value
      c.loop-name.invariant.steps c.in_ok-visit.ensures.look;
  called = let few = c.loop-name.invariant.called in
      let more = look_calls c.in_ok-visit.ensures.look in omega arith;
}

pub returns-in_err-visit-clause-stops : goal.returns-in_err-visit-clause-stops
returns-in_err-visit-clause-stops g c = on_err_always c.from_residual.result (record {
  rest = _;
  last = _;
  steps = c.loop-name.invariant.steps;
  loses = c.in_err-visit.ensures.loses;
})

pub returns-clause-steps : goal.returns-clause-steps
returns-clause-steps g c = all_looked
    (λ name. inside (string_bytes c.args.directory.now.path ++ name) name) (λ n. n.items)
    c.as_slice-name-items.result.now c.loop-name.name-index (omega arith)
    c.loop-name.invariant.steps
