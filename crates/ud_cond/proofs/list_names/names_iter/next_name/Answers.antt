use Rattle.ud_cond.proofs.lemmas.expressions.ReadingLemmas.{tokens_of-prepend_token}
use Rattle.std.proofs.Common.{◌∙◌, ◌++◌, sym, ap, arith}
use Rattle.std.specs.Option.{option_to_list}
use Rattle.ud_cond.specs.list_names.NameLists.{names_in_text}
use Rattle.ud_cond.specs.CondViews.{as_token}
use Rattle.ud_model.proofs.conditions.TokenLemmas.{shorter}
use Rattle.ud_cond.proofs.lemmas.NameListLemmas.{steps}
use Rattle.ud_cond.proofs.list_names.names_iter.next_name.Goals as goal

pub returns-in-AtEnd-clause-none : goal.returns-in-AtEnd-clause-none
returns-in-AtEnd-clause-none c = c.tokens.invariant.0 ∙ (grind (arith, tokens_of-prepend_token, c.in-AtEnd.ensures))

pub returns-in-Unreadable-clause-none : goal.returns-in-Unreadable-clause-none
returns-in-Unreadable-clause-none c = absurd (grind (arith, tokens_of-prepend_token, c.in-Unreadable.ensures, c.tokens.invariant.1))

pub returns-in-Some-clause-some : goal.returns-in-Some-clause-some
returns-in-Some-clause-some c =
    let step = steps c.tokens.rest.now (as_token c.in-Found.token) c.in-Found.after.now c.in-Found.ensures c.tokens.invariant.1 in
    c.tokens.invariant.0 ∙ step.names ∙ ap (λ o. option_to_list o ++ names_in_text c.in-Found.after.now) (sym c.in-Some.ensures)

pub returns-in-Some-clause-whole : goal.returns-in-Some-clause-whole
returns-in-Some-clause-whole c = (steps c.tokens.rest.now (as_token c.in-Found.token) c.in-Found.after.now c.in-Found.ensures c.tokens.invariant.1).whole

pub tokens-smaller : goal.tokens-smaller
tokens-smaller c = shorter c.tokens.rest.now c.in-Found.after.now (as_token c.in-Found.token) (sym c.in-Found.ensures)

pub tokens-preserved : goal.tokens-preserved
tokens-preserved c =
    let step = steps c.tokens.rest.now (as_token c.in-Found.token) c.in-Found.after.now c.in-Found.ensures c.tokens.invariant.1 in
    (c.tokens.invariant.0 ∙ step.names ∙ ap (λ o. option_to_list o ++ names_in_text c.in-Found.after.now) (sym c.in_default.ensures), step.whole)
