use Rattle.std.proofs.Common.{◌≡◌, ◌++◌, take}
use Rattle.std.specs.List.{flat_map}
use Rattle.ud_passes.specs.diff.DiffTexts.{signed_text}
use Rattle.ud_passes.specs.diff.Scripts.{signed_lines}
use Rattle.ud_passes.proofs.diff.hunks.append_lines.Given as goal

abbrev pub invariant-loop-line : goal.invariant-loop-line
invariant-loop-line l = l.out.items ≡ l.initial.out.items ++ flat_map signed_text (signed_lines (take l.line-index l.lines))
