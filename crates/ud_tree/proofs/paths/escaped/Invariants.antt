use Rattle.std.proofs.Common.{◌≡◌, take}
use Rattle.std.specs.List.{flat_map}
use Rattle.ud_tree.specs.Paths.{escaped_byte}
use Rattle.ud_tree.proofs.paths.escaped.Given as goal

abbrev pub invariant-loop-byte : goal.invariant-loop-byte
invariant-loop-byte l = l.out.items ≡ flat_map escaped_byte (take l.byte-index l.name)
