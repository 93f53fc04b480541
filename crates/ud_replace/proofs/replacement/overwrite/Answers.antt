use Rattle.std.proofs.Common.{◌∷◌, true, false, ap, ◌∙◌}
use Rattle.ud_replace.specs.Calls.{overwrote}
use Rattle.ud_replace.specs.Replacing.{unconfirmed, written, restored, spoiled}
use Rattle.ud_replace.proofs.replacement.overwrite.Goals as goal

pub returns-in-Err : goal.returns-in-Err
returns-in-Err g c = unconfirmed _ c.in-Err.ensures

pub returns-then-overwrite : goal.returns-then-overwrite
returns-then-overwrite g c = written _ c.in_default.ensures c.if-overwrite.ensures

pub returns-then-overwrite-2 : goal.returns-then-overwrite-2
returns-then-overwrite-2 g c =
    restored _ c.in_default.ensures (c.if-overwrite-2.ensures ∙ ap (λ h. overwrote c.args.name.now c.args.before.now.text.now true ∷ h) c.if-overwrite.ensures)

pub returns : goal.returns
returns g c = spoiled _ c.in_default.ensures (c.if-overwrite-2.ensures ∙ ap (λ h. overwrote c.args.name.now c.args.before.now.text.now false ∷ h) c.if-overwrite.ensures)
