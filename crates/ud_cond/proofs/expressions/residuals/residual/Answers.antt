use Rattle.std.proofs.Common.{sym, ◌∙◌, ap, arith}
use Rattle.ud_model.specs.conditions.Parsing.{expression_of}
use Rattle.ud_model.specs.aids.Residuals.{Residual}
use Rattle.ud_model.proofs.conditions.ResidualSame.{residual_same, keeps_same}
use Rattle.ud_cond.specs.declared.expressions.parts.Part.{Part}
use Rattle.ud_cond.specs.CondViews.{as_rules}
use Rattle.ud_cond.specs.expressions.ResidualReading.{Kept, kept_of_tree}
use Rattle.ud_cond.proofs.lemmas.expressions.KeptLemmas.{reads_kept, tree_of}
use Rattle.ud_cond.proofs.expressions.residuals.residual.Goals as goal

pub returns-clause-some : goal.returns-clause-some
returns-clause-some c = λ calls represents.
    let table = c.args.symbols.now in
    let rules = as_rules c.args.rules in
    let some = c.in_ok-whole.ensures.some in
    let t = tree_of (kept_of_tree table rules) (expression_of c.args.text.now) some.0 (sym (reads_kept table rules c.args.text.now) ∙ some.1) in (
      t.0,
      t.1,
      ap (λ (x : Residual). x.cond) (sym (residual_same table calls represents rules t.0)) ∙ sym (ap (λ (x : Kept). x.cond) t.2) ∙ sym (ap (λ (p : Part). p.cond) some.2.0),
      some.2.1 ∙ ap (λ (x : Kept). x.flags) t.2 ∙ keeps_same table calls represents rules t.0,
    )

pub returns-in_err-whole-clause-none : goal.returns-in_err-whole-clause-none
returns-in_err-whole-clause-none c = rw c.from_residual.ensures
    (grind (arith, sym (reads_kept c.args.symbols.now (as_rules c.args.rules) c.args.text.now) ∙ c.in_err-whole.ensures.none))
