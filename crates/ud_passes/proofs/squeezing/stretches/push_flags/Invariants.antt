-- The flags so far.
use Rattle.std.proofs.Common.{◌≡◌, ◌++◌, replicate}
use Rattle.ud_passes.proofs.squeezing.stretches.push_flags.Given as goal

abbrev pub invariant-loop-line : goal.invariant-loop-line
invariant-loop-line l = l.flags.items ≡ l.fn.flags.items ++ replicate l._line l.flag
