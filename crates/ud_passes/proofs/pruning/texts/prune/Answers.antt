-- From the first line to the last.
use Rattle.std.proofs.Common.{sym, ◌∙◌, arith}
use Rattle.ud_text.proofs.lemmas.scan.PassLemmas.{nothing_left}
use Rattle.ud_passes.proofs.WalkLemmas.{walk_ends}
use Rattle.ud_model.specs.declared.kind.Mode.TheVariants.{C}
use Rattle.ud_passes.proofs.PassLemmas.{first_place}
use Rattle.ud_passes.proofs.pruning.texts.prune.Goals as goal

pub loop-walk-init : goal.loop-walk-init
loop-walk-init c = grind (arith, first_place)

pub loop-walk-preserved : goal.loop-walk-preserved
loop-walk-preserved c = grind arith

pub returns : goal.returns
returns c = λ calls h.
    let p = c.loop-walk.invariant.pruned calls h in
    let all = walk_ends C c.args.text.now p.read c.loop-walk.walk.rest.now c.loop-walk.walk.scanner p.walked
    (nothing_left c.loop-walk.walk.rest.now (sym c.is_at_end.ensures ∙ c.loop-walk-test.false)) in
    (rw (← all) p.list_is, rw (← all) p.count_is)
