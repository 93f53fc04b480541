-- By the first token.
use Rattle.std.proofs.Common.{sym, ◌∙◌}
use Rattle.ud_cond.specs.CondViews.{as_token}
use Rattle.ud_passes.proofs.TokenLists.{same_first, other_first, none_first, unread_first}
use Rattle.ud_passes.proofs.pruning.tokens.after_token.Goals as goal

pub returns-then-same_token-clause-some : goal.returns-then-same_token-clause-some
returns-then-same_token-clause-some c =
    same_first c.args.text.now (as_token c.args.token) (as_token c.in-Found.other) c.in-Found.rest.now (sym c.in-Found.ensures) (sym c.same_token.ensures ∙ c.if-same_token.true)

pub returns-else-same_token-clause-none : goal.returns-else-same_token-clause-none
returns-else-same_token-clause-none c =
    other_first c.args.text.now (as_token c.args.token) (as_token c.in-Found.other) c.in-Found.rest.now (sym c.in-Found.ensures) (sym c.same_token.ensures ∙ c.if-same_token.false)

pub returns-in-AtEnd-clause-none : goal.returns-in-AtEnd-clause-none
returns-in-AtEnd-clause-none c = none_first c.args.text.now (as_token c.args.token) (sym c.in-AtEnd.ensures)

pub returns-in-Unreadable-clause-none : goal.returns-in-Unreadable-clause-none
returns-in-Unreadable-clause-none c = unread_first c.args.text.now (as_token c.args.token) (sym c.in-Unreadable.ensures)
