use Rattle.std.proofs.Common.{[], ◌∷◌, refl}
use Rattle.std.proofs.lemmas.Result.{on_ok_weaker, on_err_weaker}
use Rattle.ud_replace.specs.declared.node.Lookup.TheVariants.{Present, Absent, Unknown}
use Rattle.ud_replace.specs.Calls.{met}
use Rattle.ud_tree.specs.WalkSteps.{is_bytes, is_told}
use Rattle.ud_tree.proofs.CoverLemmas.{on_err_always}
use Rattle.ud_tree.proofs.LookLemmas.{look_still, look_unmet, loses}
use Rattle.ud_tree.proofs.walk.Walk.add.Goals as goal

pub returns-in_err-escaped-clause-loses : goal.returns-in_err-escaped-clause-loses
returns-in_err-escaped-clause-loses g c =
    on_err_always c.from_residual.result (loses [] tt refl refl)

pub returns-in_default-clause-look : goal.returns-in_default-clause-look
returns-in_default-clause-look g c = look_still refl refl (is_told _ c.fault.ensures)
    (is_bytes _ c.in_default.ensures.cases.0 refl)

pub returns-in-Present-clause-look : goal.returns-in-Present-clause-look
returns-in-Present-clause-look g c = on_ok_weaker c.add_given.result (λ m. record {
  does = _;
  called = rw c.in-Ok.ensures.cases.0 at c.in-Present.ensures;
  told = m.told;
  scope = refl;
  found = m.meets.gains.found;
  waits = m.meets.gains.waits;
  looks = rw c.in-Ok.ensures.cases.0 at m.meets.looks;
}) c.add_given.ensures.meets

pub returns-in-Absent-clause-look : goal.returns-in-Absent-clause-look
returns-in-Absent-clause-look g c = look_unmet Absent c.args.name.now refl
    (rw c.in-Ok.ensures.cases.0 at c.in-Absent.ensures) tt refl c.missing.ensures

pub returns-in-Unknown-clause-look : goal.returns-in-Unknown-clause-look
returns-in-Unknown-clause-look g c = look_unmet Unknown c.args.name.now refl
    (rw c.in-Ok.ensures.cases.0 at c.in-Unknown.ensures) tt refl c.unknown.ensures

pub returns-in-Present-clause-loses : goal.returns-in-Present-clause-loses
returns-in-Present-clause-loses g c = on_err_weaker c.add_given.result
    (λ same. loses (met _ (Present c.in-Present.node) ∷ []) (refl, tt)
    c.in-Present.ensures same) c.add_given.ensures.same
