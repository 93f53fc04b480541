use Rattle.std.proofs.Common.{◌≡◌, map, drop, string_bytes}
use Rattle.std.specs.List.{list_any}
use Rattle.ud_tree.specs.Choices.{is_only}
use Rattle.ud_tree.proofs.patterns.has_only.Given as goal

abbrev pub invariant-loop-text : goal.invariant-loop-text
invariant-loop-text l = list_any is_only (map string_bytes (drop l.text-index l.patterns)) ≡ list_any is_only (map string_bytes l.patterns)
