use Rattle.std.proofs.Common.{refl}
use Rattle.std.proofs.lemmas.Result.{on_ok_weaker}
use Rattle.ud_tree.specs.WalkSteps.{adds_file, adds_none}
use Rattle.ud_tree.proofs.walk.Walk.add_file.Goals as goal

pub returns-then-chooses : goal.returns-then-chooses
returns-then-chooses c = on_ok_weaker c.push_file.result
    (adds_file (c.args.below.now, c.requires, rw c.if-chooses.true at c.chooses.ensures))
    c.push_file.ensures

pub returns-else-chooses : goal.returns-else-chooses
returns-else-chooses c =
    adds_none (c.args.below.now, c.requires, rw c.if-chooses.false at c.chooses.ensures) refl
