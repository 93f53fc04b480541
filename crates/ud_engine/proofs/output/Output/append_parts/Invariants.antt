use Rattle.std.proofs.Common.{take}
use Rattle.std.specs.List.{flat_map}
use Rattle.ud_io.specs.Streams.{Accepts}
use Rattle.ud_engine.proofs.output.Output.append_parts.Given as goal

abbrev pub invariant-loop-part : goal.invariant-loop-part
invariant-loop-part g l = Accepts g.W.Write.contents l.initial.self l.self l.initial.out l.out (flat_map (λ p. p.now) (take l.part-index l.parts))
