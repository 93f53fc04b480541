use Rattle.std.proofs.Common.{◌∷◌, false, true, ap, ◌∙◌}
use Rattle.ud_replace.specs.Calls.{synced}
use Rattle.ud_replace.specs.Filling.{not_taken, not_given, not_synced, not_confirmed}
use Rattle.ud_replace.proofs.StepLemmas.{confirms_from, fills_by}
use Rattle.ud_replace.proofs.replacement.fill.Goals as goal

pub returns-then-not-append_all : goal.returns-then-not-append_all
returns-then-not-append_all g c = not_taken c.if-not-append_all.ensures

pub returns-then-not-set_mode_and_owner : goal.returns-then-not-set_mode_and_owner
returns-then-not-set_mode_and_owner g c = not_given _ c.if-not-append_all.ensures c.if-not-set_mode_and_owner.ensures

pub returns-then-not-sync : goal.returns-then-not-sync
returns-then-not-sync g c =
    not_synced _ c.if-not-append_all.ensures (c.if-not-sync.ensures ∙ ap (λ h. synced c.args.target.now.fresh.now false ∷ h) c.if-not-set_mode_and_owner.ensures)

pub returns-in-Err : goal.returns-in-Err
returns-in-Err g c = not_confirmed _ _ c.if-not-append_all.ensures
    (confirms_from (c.if-not-sync.ensures ∙ ap (λ h. synced c.args.target.now.fresh.now true ∷ h) c.if-not-set_mode_and_owner.ensures) c.in-Err.ensures)

pub returns-in-Ok : goal.returns-in-Ok
returns-in-Ok g c = fills_by c.rename.result _ _ c.if-not-append_all.ensures
    (confirms_from (c.if-not-sync.ensures ∙ ap (λ h. synced c.args.target.now.fresh.now true ∷ h) c.if-not-set_mode_and_owner.ensures) c.in-Ok.ensures) c.rename.ensures
