use Rattle.std.proofs.Common.{rules, length}
use Rattle.unifdef_c.proofs.StreamLemmas.{takes, takes_none}
use Rattle.unifdef_c.proofs.stream_calls.unifdef_take.Goals as goal

pub returns-in_default : goal.returns-in_default
returns-in_default c = takes_none c.args.output.now c.args.handle.now.stream c.take.new.self.stream (search rules) (search rules)

pub returns : goal.returns
returns c =
    takes c.args.output.now c.take-count.new.buffer (length c.pending.result.now) c.take-count.result c.args.handle.now.stream c.of.result.stream c.deref_mut.result.now c.take-count.new.self
    (search rules) (search rules) c.take-count.ensures (search rules)
