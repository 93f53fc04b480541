-- By whether a flag of the part is kept.
use Rattle.std.proofs.Common.{◌+◌, ℕ, ◌∙◌, ap, arith}
use Rattle.ud_cond.proofs.lemmas.expressions.ResidualLemmas.{lost-some, lost-all}
use Rattle.ud_cond.proofs.expressions.residuals.kept_of_longer.Goals as goal

pub returns-then-kept-end : goal.returns-then-kept-end
returns-then-kept-end c = λ n m fs kept end longer.
    kept ∙ ap (λ (i : ℕ). n + i) (lost-some fs m (let less = c.if-kept-end.true in omega (arith, kept, end, less)))

pub returns-else-kept-end : goal.returns-else-kept-end
returns-else-kept-end c = λ n m fs kept end longer.
    let all = lost-all fs m (let more = c.if-kept-end.false in omega (arith, kept, end, more)) in
    omega (arith, end, longer, all)
