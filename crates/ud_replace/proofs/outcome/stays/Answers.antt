-- By the outcome of the run, which writes nothing.
use Rattle.std.proofs.Common.{◌≡◌, false, true, ap, sym, ◌∙◌, arith}
use Rattle.std.proofs.lemmas.Bool.{not-true}
use Rattle.ud_model.specs.declared.settings.Settings.{Settings}
use Rattle.ud_replace.specs.declared.text_plan.TextPlan.{TextPlan}
use Rattle.ud_replace.specs.MadeOutcomes.{asks_first}
use Rattle.ud_replace.specs.TextOutcomes.{is_off, as_read}
use Rattle.ud_replace.proofs.TextLemmas.{fails_printed, fails_unpruned, fails_whole, lift_fails, listing_off, spared_unfolded, stays_itself}
use Rattle.ud_replace.proofs.outcome.stays.Goals as goal

asks : (plan : TextPlan) → asks_first plan ≡ true → (is_off plan.run.settings.listing ≡ true) × (plan.run.settings.renumber ≡ false)
asks plan e = grind arith

pub returns-in-Ok : goal.returns-in-Ok
returns-in-Ok c = λ o p same known made itself.
    let first = asks c.args.plan.now (sym c.asks_first.ensures ∙ c.if-not-asks_first.false) in
    stays_itself o _ c.args.text.now _ _ _ _ c.in-Ok.differs known (ap (λ s. s.renumber) p.settings ∙ first.1)
    (listing_off o.run.settings.listing (ap (λ (s : Settings). is_off s.listing) p.settings ∙ first.0))
    (ap (λ b. b.now) c.new-reader.ensures.inner) c.in-Ok.ensures.error_matches (c.in-Ok.ensures.finished o.run p.settings p.table).ran (not-true _ same) itself

pub returns-in-Err : goal.returns-in-Err
returns-in-Err c = λ o p spared.
    rw c.error_of.ensures (fails_whole o (lift_fails (λ r ms some h. as_read (spared_unfolded o c.args.text.now spared) h)
    (fails_printed o (fails_unpruned o.run _ c.args.text.now _ _ _ _ c.in-Err.fault (ap (λ b. b.now) c.new-reader.ensures.inner) c.in-Err.ensures.error_matches
    (c.in-Err.ensures.finished o.run p.settings p.table).ran))))
