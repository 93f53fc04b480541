-- From the first line to the last.
use Rattle.std.proofs.Common.{[], sym, ◌∙◌, arith}
use Rattle.ud_model.specs.declared.kind.Mode.TheVariants.{C}
use Rattle.ud_text.proofs.lemmas.scan.PassLemmas.{nothing_left}
use Rattle.ud_passes.proofs.RestoreLemmas.{all_restored}
use Rattle.ud_passes.proofs.folding.restored.restore.Goals as goal

pub loop-walk-init : goal.loop-walk-init
loop-walk-init c = grind (arith, c.new-walk.ensures.walked C)

pub returns : goal.returns
returns c = all_restored c.args.text.now [] c.loop-walk.walk _ c.loop-walk.invariant
    (nothing_left c.loop-walk.walk.rest.now (sym c.is_at_end.ensures ∙ c.loop-walk-test.false))
