-- From the first line to the last.
use Rattle.std.proofs.Common.{sym, ◌∙◌}
use Rattle.ud_model.specs.declared.kind.Mode.TheVariants.{C}
use Rattle.ud_cond.specs.CondViews.{as_rules}
use Rattle.ud_text.proofs.lemmas.scan.PassLemmas.{nothing_left}
use Rattle.ud_passes.proofs.UntouchedLemmas.{first_stayed, all_untouched}
use Rattle.ud_passes.proofs.untouched.is_untouched.Goals as goal

pub loop-walk-init : goal.loop-walk-init
loop-walk-init c = λ calls h. first_stayed calls (as_rules c.args.rules) c.args.text.now c.new-walk.result (c.new-walk.ensures.walked C)

pub returns : goal.returns
returns c = λ _ calls h.
    let b = c.loop-walk.editor.bytes in
    all_untouched calls (as_rules c.args.rules) c.args.text.now c.loop-walk.walk (c.loop-walk.invariant calls h) (record { plain = b; body = b; shown = b })
    (nothing_left c.loop-walk.walk.rest.now (sym c.is_at_end.ensures ∙ c.loop-walk-test.false))
