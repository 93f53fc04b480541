use Rattle.std.proofs.Common.{◌≡◌, map, drop, string_bytes}
use Rattle.ud_tree.specs.PatternFaults.{first_bad}
use Rattle.ud_tree.proofs.patterns.faults.first_bad.Given as goal

abbrev pub invariant-loop-text : goal.invariant-loop-text
invariant-loop-text l = first_bad (map string_bytes (drop l.text-index l.patterns)) ≡ first_bad (map string_bytes l.patterns)
