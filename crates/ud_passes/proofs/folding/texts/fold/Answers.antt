-- From the first line to the last.
use Rattle.std.proofs.Common.{[], sym, ◌∙◌, arith}
use Rattle.ud_model.specs.declared.kind.Mode.TheVariants.{C}
use Rattle.ud_text.proofs.lemmas.scan.PassLemmas.{nothing_left}
use Rattle.ud_passes.proofs.FoldLemmas.{first_folded, all_folded}
use Rattle.ud_passes.proofs.folding.texts.fold.Goals as goal

pub loop-walk-init : goal.loop-walk-init
loop-walk-init c = grind (arith, first_folded, c.new-walk.ensures.walked C)

pub returns : goal.returns
returns c = let s = c.loop-walk.invariant in
    let all = all_folded c.args.text.now [] _ _ c.loop-walk.walk _ _ s
    (nothing_left c.loop-walk.walk.rest.now (sym c.is_at_end.ensures ∙ c.loop-walk-test.false)) (c.in_ok-end_text.ensures s.group s.is_group) in
    grind (arith, all)
