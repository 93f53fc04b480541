use Rattle.std.proofs.Common.{[], arith, map, refl}
use Rattle.ud_tree.specs.WalkSteps.{at, given, no_step, nowhere}
use Rattle.ud_tree.proofs.StepLemmas.{all_looked, next_look, none_given, steps_find, steps_give}
use Rattle.ud_tree.proofs.StepLemmas.{steps_report, stops_report}
use Rattle.ud_tree.proofs.WalkTellLemmas.{stops_unread, walk_none, walk_unread}
use Rattle.ud_tree.proofs.find_files.add_input.Goals as goal

pub returns-in_err-all-clause-told : goal.returns-in_err-all-clause-told
returns-in_err-all-clause-told g c =
    walk_none (g.T.Directory.history c.args.tree.now) c.args.report.now

pub returns-then-not-all-clause-told : goal.returns-then-not-all-clause-told
returns-then-not-all-clause-told g c =
    walk_unread (g.T.Directory.history c.args.tree.now) c.fault.ensures

pub returns-then-not-all-clause-finds : goal.returns-then-not-all-clause-finds
returns-then-not-all-clause-finds g c = steps_find {todo = []} {s = at nowhere
    (g.T.Directory.history c.args.tree.now) c.args.walk.now c.args.report.now} no_step c.requires

pub returns-then-not-all-clause-stops : goal.returns-then-not-all-clause-stops
returns-then-not-all-clause-stops g c = λ cut. stops_unread
    (g.T.Directory.history c.args.tree.now) (c.in_ok-all.ensures.cut c.if-not-all.true)
    c.fault.ensures

pub returns-in_err-paths-clause-told : goal.returns-in_err-paths-clause-told
returns-in_err-paths-clause-told g c =
    walk_none (g.T.Directory.history c.args.tree.now) c.args.report.now

pub loop-name-init : goal.loop-name-init
loop-name-init g c = no_step

pub loop-name-preserved : goal.loop-name-preserved
loop-name-preserved g c = next_look given (λ p. p.items) c.as_slice-name-items.result.now
    c.loop-name.name-index c.name-item.result c.as_slice-in-loop-name.result.now
    c.loop-name-test.true c.name-item.is c.as_slice-in-loop-name.ensures.value
    c.loop-name.invariant c.in_ok-add.ensures.look

pub returns-in_err-add-clause-told : goal.returns-in_err-add-clause-told
returns-in_err-add-clause-told g c = stops_report (none_given _) (record {
  rest = _;
  last = _;
  steps = c.loop-name.invariant;
  loses = c.in_err-add.ensures.loses;
})

pub returns-clause-told : goal.returns-clause-told
returns-clause-told g c = steps_report (none_given _) c.loop-name.invariant

pub returns-clause-finds : goal.returns-clause-finds
returns-clause-finds g c = steps_find c.loop-name.invariant c.requires

pub returns-clause-takes : goal.returns-clause-takes
returns-clause-takes g c = λ all. record {
  text = c.read_input.new.text.items;
  reads = c.in_ok-all.ensures.all c.if-not-all.false;
  covers = rw (
    c.as_slice-name-items.ensures.value,
    c.in_ok-paths.ensures,
    c.as_slice.ensures.value,
  ) at (steps_give (map (λ p. p.items)
      c.as_slice-name-items.result.now) (all_looked given (λ p. p.items)
      c.as_slice-name-items.result.now c.loop-name.name-index (omega arith)
      c.loop-name.invariant) refl c.requires);
}
