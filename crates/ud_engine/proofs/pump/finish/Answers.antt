use Rattle.std.proofs.Common.{rules}
use Rattle.std.proofs.KnownBytes.{Consumes-nil}
use Rattle.ud_text.proofs.lemmas.lines.BorrowLemmas.{none_held}
use Rattle.ud_engine.proofs.RunLemmas.{own_session}
use Rattle.ud_engine.proofs.FinishLemmas.{at_end}
use Rattle.ud_engine.proofs.WaitingLemmas.{none_left, fed_rest, rest_stops}
use Rattle.ud_engine.proofs.pump.finish.Goals as goal

pub returns-then-is_empty-clause-finished : goal.returns-then-is_empty-clause-finished
returns-then-is_empty-clause-finished g c = λ o read rest written reader ended w.
    let u = none_left o c.args.engine.now read rest written
    (g.W.Write.contents c.args.out.now.inner) c.args.rest.now
    (none_held c.args.rest.now c.is_empty.result c.is_empty.ensures (search rules)) w in
    at_end o c.args.engine.now read rest written (g.W.Write.contents c.args.out.now.inner) u rest
    (g.W.Write.contents c.finish_in_place.new.out.inner)
    (Consumes-nil rest) ended reader c.finish_in_place.new.out.failed c.finish_in_place.result
    (c.finish_in_place.ensures.finishes (own_session o u.given u.printed) u.fed)

pub returns-in-Ok-clause-finished : goal.returns-in-Ok-clause-finished
returns-in-Ok-clause-finished g c = λ o read rest written reader ended w.
    let u = fed_rest o c.args.engine.now read rest written (g.W.Write.contents c.args.out.now.inner)
    c.args.rest.now w
    c.feed.new.self (g.W.Write.contents c.feed.new.out.inner)
    (c.in-Ok.ensures.feeds (own_session o w.given w.printed) w.fed) in
    at_end o c.feed.new.self read rest written (g.W.Write.contents c.feed.new.out.inner) u rest
    (g.W.Write.contents c.finish_in_place-in-Ok.new.out.inner)
    (Consumes-nil rest) ended reader c.finish_in_place-in-Ok.new.out.failed
    c.finish_in_place-in-Ok.result
    (c.finish_in_place-in-Ok.ensures.finishes (own_session o u.given u.printed) u.fed)

pub returns-in-Err-clause-finished : goal.returns-in-Err-clause-finished
returns-in-Err-clause-finished g c = λ o read rest written reader ended w.
    rest_stops o c.args.engine.now read rest written (g.W.Write.contents c.args.out.now.inner)
    c.args.rest.now w
    (g.W.Write.contents c.feed.new.out.inner) c.requires.few reader c.feed.new.out.failed
    c.in-Err.fault
    (c.in-Err.ensures.feeds (own_session o w.given w.printed) w.fed)
