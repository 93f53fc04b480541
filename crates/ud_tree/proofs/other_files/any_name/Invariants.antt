use Rattle.std.proofs.Common.{◌≡◌, ◌++◌, drop, map}
use Rattle.std.specs.Prelude.{string_bytes}
use Rattle.ud_tree.specs.Others.{any_name}
use Rattle.ud_tree.proofs.other_files.any_name.Given as goal

abbrev pub invariant-loop-pattern : goal.invariant-loop-pattern
invariant-loop-pattern l = map string_bytes l.all.items ++ map string_bytes (drop l.pattern-index l.patterns) ≡ any_name (map string_bytes l.patterns)
