use Rattle.ud_tree.proofs.PickLemmas.{after_got, before_got}
use Rattle.ud_tree.proofs.walk.comes_after.Goals as goal

pub returns-in-Some-clause-after : goal.returns-in-Some-clause-after
returns-in-Some-clause-after c = after_got c.args.files.now c.in-Some.last.now c.args.found.now c.lt.result c.requires c.in-Some.ensures.value c.lt.ensures

pub returns-in-Some-clause-before : goal.returns-in-Some-clause-before
returns-in-Some-clause-before c = before_got c.args.files.now c.in-Some.last.now c.args.found.now c.lt.result c.in-Some.ensures.value c.lt.ensures
