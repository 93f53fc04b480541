use Rattle.std.proofs.Common.{◌≡◌, ◌++◌, ◌∷◌, ◌==◌, [], take}
use Rattle.std.specs.Prelude.{codes, if◌then◌else◌}
use Rattle.std.specs.List.{flat_map}
use Rattle.ud_tree.proofs.patterns.marks.quote.Given as goal

abbrev pub invariant-loop-byte : goal.invariant-loop-byte
invariant-loop-byte l = l.rule.items ≡ codes "'" ++ flat_map (λ b. if b == 39 then codes "'\\''" else b ∷ []) (take l.byte-index l.text)
