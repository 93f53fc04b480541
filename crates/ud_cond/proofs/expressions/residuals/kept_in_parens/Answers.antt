-- Parentheses that go are two more flags that aren't kept.
use Rattle.std.proofs.Common.{◌≡◌, ◌+◌, suc, [], ◌∷◌, ◌++◌, Bool, false, sym, ◌∙◌, ap, arith}
use Rattle.ud_cond.specs.expressions.ResidualReading.{lost_len}
use Rattle.ud_cond.proofs.expressions.residuals.kept_in_parens.Goals as goal

pub returns : goal.returns
returns c = λ fs kept end longer.
    let inside = c.kept_of_longer.ensures (c.args.first + 1) 1 fs kept end longer in
    let all : c.kept_of_longer.result ≡ c.args.first + suc (lost_len (fs ++ false ∷ [])) = omega (arith, inside) in
    all ∙ ap (λ (s : Bool). c.args.first + lost_len (s ∷ fs ++ s ∷ [])) (sym c.if-stay.false)
