use Rattle.std.proofs.Common.{rules, sym, subst}
use Rattle.unifdef_c.specs.StreamCalls.{OpensHandle}
use Rattle.unifdef_c.proofs.StreamLemmas.{opens, opens_none}
use Rattle.unifdef_c.proofs.FaultLemmas.{same_code}
use Rattle.unifdef_c.proofs.stream_calls.unifdef_open.Goals as goal

pub returns-in-Ok : goal.returns-in-Ok
returns-in-Ok c = opens c.args.words.now c.of.result.stream c.in-Ok.owner.value (search rules) c.in-Ok.ensures.ok

pub returns-in-Err : goal.returns-in-Err
returns-in-Err c =
    subst (λ n. OpensHandle c.args.words.now c.closed.result.stream n) (sym (same_code c.in-Err.fault c.code.result c.code.ensures))
    (opens_none c.args.words.now c.closed.result.stream c.in-Err.fault c.closed.ensures c.in-Err.ensures.err)
