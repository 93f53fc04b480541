use Rattle.std.proofs.Common.{map, string_bytes}
use Rattle.unifdef_c.specs.Streams.{IsNewStream, BeginsStream}
use Rattle.unifdef_c.proofs.StreamLemmas.{ok_then, begins}
use Rattle.unifdef_c.proofs.stream.Stream.begin.Goals as goal

pub returns-clause-ok : goal.returns-clause-ok
returns-clause-ok c = let args = map string_bytes c.args.args.now in
    ok_then c.with_plan.result (IsNewStream c.in_ok-plan.plan c.display_name-name.result.now) (BeginsStream args)
    (λ s n. begins args c.in_ok-plan.plan c.display_name-name.result.now s c.in_ok-plan.ensures.ok (λ right. c.display_name-name.ensures c.in_ok-plan.ensures.ok) n) c.with_plan.ensures.ok
