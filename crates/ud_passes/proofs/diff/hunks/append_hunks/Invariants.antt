use Rattle.std.proofs.Common.{◌≡◌, ◌≤◌, ◌-◌, length, take}
use Rattle.ud_passes.specs.diff.Hunks.{old_lines, new_lines}
use Rattle.ud_passes.specs.diff.Scripts.{signed_lines}
use Rattle.ud_passes.proofs.UptoLemmas.{HunksUpto}
use Rattle.ud_passes.proofs.diff.hunks.append_hunks.Given as goal

abbrev pub invariant-loop-start : goal.invariant-loop-start
invariant-loop-start l = (l.at ≤ length l.script)
    × HunksUpto l.script l.at l.initial.out.items l.out.items
    × (l.old_before ≡ length (old_lines (signed_lines (take l.at l.script))))
    × (l.new_before ≡ length (new_lines (signed_lines (take l.at l.script))))

abbrev pub decreases-loop-start : goal.decreases-loop-start
decreases-loop-start l = length l.script - l.at
