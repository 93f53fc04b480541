use Rattle.std.proofs.Common.{rules}
use Rattle.unifdef_c.proofs.StreamLemmas.{ends, ends_none, tells}
use Rattle.unifdef_c.proofs.stream_calls.unifdef_finish.Goals as goal

pub returns-in_default : goal.returns-in_default
returns-in_default c = ends_none c.args.message.now c.args.size.now c.args.handle.now.stream c.take.new.self.stream (search rules) (search rules)

pub returns : goal.returns
returns c =
    ends c.args.message.now c.tell_end-status.new.message c.args.size.now c.tell_end-status.new.size c.args.handle.now.stream c.of.result.stream c.deref_mut.result.now c.end-ended.new.self
    c.end-ended.result c.tell_end-status.result _ (search rules) (search rules) (search rules) c.end-ended.ensures
    (tells c.as_slice.result.now c.end-ended.new.self.name.items c.deref-2.result.now.settings c.end-ended.new.self.settings c.end-ended.result c.args.message.now
    c.tell_end-status.new.message c.tell_end-status.new.size c.tell_end-status.result (search rules) (search rules) c.tell_end-status.ensures)
