use Rattle.std.proofs.Common.{◌≡◌, ◌-◌}
use Rattle.ud_model.specs.conditions.Symbols.{resolve, resolve_within}
use Rattle.ud_cond.proofs.symbols.Symbols.resolve.Given as goal

abbrev pub invariant-steps : goal.invariant-steps
invariant-steps l = resolve l.self l.name ≡ resolve_within (l.maximum - l.counter) l.self l.at
