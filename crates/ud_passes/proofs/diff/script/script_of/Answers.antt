-- By the marks, and then the rests of both texts.
use Rattle.std.proofs.lemmas.Grind.{common_steps}
use Rattle.std.proofs.Common.{arith}
use Rattle.ud_passes.specs.declared.diff.script.Script.{Script}
use Rattle.ud_passes.proofs.ScriptLemmas.{script_whole, side-append}
use Rattle.ud_passes.proofs.diff.script.script_of.Goals as goal

pub returns : goal.returns
returns c =
    let start : Script = record { lines = c.new.result; old_rest = c.args.old; new_rest = c.args.new; pending = 0 } in
    script_whole start c.finish.new.self c.new.ensures.items
    (grind (arith, common_steps, side-append, c.loop-mark.invariant, c.in_ok-finish.ensures.extends))
    c.in_ok-finish.ensures.old c.in_ok-finish.ensures.new
