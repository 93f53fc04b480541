-- By the pass, if the plan prunes.
use Rattle.std.proofs.Common.{sym, ap, ◌∙◌, subst}
use Rattle.std.proofs.lemmas.Result.{IfOk-weaker}
use Rattle.ud_model.specs.conditions.Conditions.{Rules}
use Rattle.ud_model.specs.sections.Items.{rules_of}
use Rattle.ud_cond.specs.CondViews.{as_rules}
use Rattle.ud_cond.specs.symbols.SymbolTable.{TableRepresents}
use Rattle.ud_passes.specs.UntouchedTexts.{IsUntouched}
use Rattle.ud_replace.proofs.outcome.is_spared.Goals as goal

pub returns : goal.returns
returns c =
    IfOk-weaker c.is_untouched.result _ _
    (λ known h yes o p wanted. subst (λ (r : Rules). IsUntouched o.run.table r c.args.text.now) (ap as_rules c.of-rules.ensures ∙ ap rules_of (c.settings.ensures ∙ sym p.settings))
    (h yes o.run.table (subst (λ x. TableRepresents x o.run.table) (sym c.symbols.ensures) p.table)))
    c.is_untouched.ensures
