use Rattle.std.proofs.Common.{◌≡◌, ◌≤◌, take}
use Rattle.ud_tree.specs.Paths.{directory_len}
use Rattle.ud_tree.proofs.paths.directory_len.Given as goal

abbrev pub invariant-loop-i : goal.invariant-loop-i
invariant-loop-i l = (l.len ≡ directory_len (take l.i l.path)) × (l.len ≤ l.i)
