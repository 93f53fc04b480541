use Rattle.std.proofs.Common.{◌≡◌, ◌++◌, drop}
use Rattle.std.specs.List.{flat_map}
use Rattle.test_sections.proofs.printing.append_parts.Given as goal

abbrev pub invariant-loop-part : goal.invariant-loop-part
invariant-loop-part l = record {
  rest : l.out.items ++ flat_map (λ p. p.now) (drop l.part-index l.parts) ≡ l.initial.out.items ++ flat_map (λ p. p.now) l.parts;
}
