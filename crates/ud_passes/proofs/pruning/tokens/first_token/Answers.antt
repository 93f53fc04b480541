-- By the first token.
use Rattle.ud_cond.proofs.lemmas.expressions.ReadingLemmas.{tokens_of-prepend_token}
use Rattle.std.proofs.Common.{sym, arith}
use Rattle.ud_passes.proofs.TokenLists.{ends_first}
use Rattle.ud_passes.proofs.pruning.tokens.first_token.Goals as goal

pub returns-in-AtEnd-clause-none : goal.returns-in-AtEnd-clause-none
returns-in-AtEnd-clause-none c = ends_first c.args.text.now (sym c.in-AtEnd.ensures)

pub returns-in-Unreadable-clause-none : goal.returns-in-Unreadable-clause-none
returns-in-Unreadable-clause-none c = λ t tokens f. (grind (arith, tokens_of-prepend_token, sym c.in-Unreadable.ensures, f))
