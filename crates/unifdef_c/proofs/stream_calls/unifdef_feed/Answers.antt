use Rattle.std.proofs.Common.{rules}
use Rattle.unifdef_c.specs.declared.stream.Fed.TheVariants as is
use Rattle.unifdef_c.proofs.StreamLemmas.{feeds, feeds_none}
use Rattle.unifdef_c.proofs.stream_calls.unifdef_feed.Goals as goal

pub returns-in_default : goal.returns-in_default
returns-in_default c = feeds_none c.args.text.now c.args.handle.now.stream c.take.new.self.stream (search rules) (search rules)

pub returns-in-Accepted : goal.returns-in-Accepted
returns-in-Accepted c =
    feeds c.args.text.now c.args.handle.now.stream c.of.result.stream c.deref_mut.result.now c.feed-fed.new.self is.Accepted (search rules) (search rules) c.in-Accepted.ensures

pub returns-in-Faulty : goal.returns-in-Faulty
returns-in-Faulty c =
    feeds c.args.text.now c.args.handle.now.stream c.of.result.stream c.deref_mut.result.now c.feed-fed.new.self is.Faulty (search rules) (search rules) c.in-Faulty.ensures

pub returns-in-OutOfMemory : goal.returns-in-OutOfMemory
returns-in-OutOfMemory c =
    feeds c.args.text.now c.args.handle.now.stream c.of.result.stream c.deref_mut.result.now c.feed-fed.new.self is.OutOfMemory (search rules) (search rules) c.in-OutOfMemory.ensures

pub returns-in-Ended : goal.returns-in-Ended
returns-in-Ended c =
    feeds c.args.text.now c.args.handle.now.stream c.of.result.stream c.deref_mut.result.now c.feed-fed.new.self is.Ended (search rules) (search rules) c.in-Ended.ensures
