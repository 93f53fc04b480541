-- The conditions of the lines so far were counted.
use Rattle.std.proofs.Common.{◌+◌, ◌≤◌, length}
use Rattle.ud_passes.specs.Passes.{AppendsSome}
use Rattle.ud_passes.specs.names.UnlistedLines.{Listed}
use Rattle.ud_passes.proofs.names.texts.File.append_unlisted.Given as goal

abbrev pub invariant-loop-walk : goal.invariant-loop-walk
invariant-loop-walk l = record {
  grows : AppendsSome l.fn.out.items l.out.items;
  numbers : l.found.number + length l.walk.rest.now ≤ 1 + length l.text;
  counts : l.found.count + length l.walk.rest.now ≤ length l.text;
  listed : Listed l.self l.text l.fn.out.items l.found l.walk l.out.items;
}

abbrev pub decreases-loop-walk : goal.decreases-loop-walk
decreases-loop-walk l = length l.walk.rest.now
