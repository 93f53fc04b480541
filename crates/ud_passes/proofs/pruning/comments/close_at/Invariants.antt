-- No `*/` begins so far.
use Rattle.std.proofs.Common.{◌≡◌, ◌+◌, drop}
use Rattle.ud_simplified.specs.CommentTexts.{close_at}
use Rattle.ud_passes.proofs.pruning.comments.close_at.Given as goal

abbrev pub invariant-loop-at : goal.invariant-loop-at
invariant-loop-at l = close_at l.bytes ≡ l.at + close_at (drop l.at l.bytes)
