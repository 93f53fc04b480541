-- By the run, since no name stands in the text.
use Rattle.std.proofs.Common.{inr}
use Rattle.ud_replace.proofs.outcome.is_copied.Goals as goal

pub returns-in-Ok : goal.returns-in-Ok
returns-in-Ok c = λ yes o p. c.in-Ok.ensures o p yes (inr (c.is_unnamed.ensures c.if-not-is_unnamed.false o p))
