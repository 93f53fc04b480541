use Rattle.std.proofs.Common.{rules, tests, ◌≡◌, ◌∙◌, ◌==◌, length, unwrap_or, ap}
use Rattle.std.proofs.lemmas.Iterator.{YieldsList-from_slice}
use Rattle.std.proofs.lemmas.Iterator.Search.{position_from_yields_List}
use Rattle.ud_model.proofs.text.ByteLemmas.{unwrap_or-position}
use Rattle.ud_args.proofs.OptionLemmas.{equals_at, take-equals_at, drop-equals_at}
use Rattle.ud_args.proofs.options.name_len.Goals as goal
use Rattle.ud_args.proofs.options.name_len.Goals.{After-unwrap_or}

-- the result is the position of the first `=`
len : (c : After-unwrap_or) → c.unwrap_or.result ≡ equals_at c.args.argument.now
len c =
    let at = position_from_yields_List (λ b. b == 61) _ _ c.position.result c.position.ensures.ran (YieldsList-from_slice c.args.argument.now cc) (λ x b q k. search (rules, tests)) in
    c.unwrap_or.ensures ∙ ap (λ p. unwrap_or p (length c.args.argument.now)) at ∙ unwrap_or-position (λ b. b == 61) c.args.argument.now

pub returns-clause-name : goal.returns-clause-name
returns-clause-name c = rw (len c) (take-equals_at c.args.argument.now)

pub returns-clause-value : goal.returns-clause-value
returns-clause-value c = rw (len c) (drop-equals_at c.args.argument.now)
