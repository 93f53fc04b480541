use Rattle.std.proofs.Common.{List, Bool, ◌++◌, sym, ◌∙◌, ap}
use Rattle.ud_cond.proofs.lemmas.expressions.ResidualLemmas.{filled-already}
use Rattle.ud_cond.proofs.expressions.residuals.keep_whole.Goals as goal

pub returns-else-not-whole-clause-kept : goal.returns-else-not-whole-clause-kept
returns-else-not-whole-clause-kept c = λ front middle back e start end whole.
    e ∙ ap (λ (xs : List Bool). front ++ xs ++ back) (filled-already middle (sym whole ∙ c.if-not-whole.false))
