use Rattle.std.proofs.Common.{◌-◌, ◌++◌, take, drop, sym, ◌∙◌, ap, subst, arith}
use Rattle.std.specs.Io.KnownBytes.{prepend_known}
use Rattle.std.proofs.KnownBytes.{prepend_known-nil}
use Rattle.std.proofs.Math.ListN.{length-take, length-drop}
use Rattle.ud_engine.specs.Runs.{InProgress}
use Rattle.ud_engine.specs.Waiting.{IsWaiting}
use Rattle.ud_engine.proofs.RunLemmas.{own_session, fed_room}
use Rattle.ud_sections.specs.printing.Printers.{printer_represents, printer_piece}
use Rattle.ud_engine.proofs.WaitingLemmas.{cut_within, cut_joined, cut_starts, cut_moved, cut_waits, fed_front, front_stops, fed_rest, rest_stops, room_after, no_further, fed_further, all_further}
use Rattle.ud_engine.proofs.pump.feed_lines.Goals as goal

pub returns-in-Err-clause-stops : goal.returns-in-Err-clause-stops
returns-in-Err-clause-stops g c = λ o read rest written reader u.
    front_stops o c.args.engine.now read rest written (g.W.Write.contents c.args.out.now.inner)
    (take c.args.end c.args.buffer.now) _ _
    (cut_joined c.args.buffer.now c.args.end c.last_line_start-whole.result
    c.last_line_start-whole.ensures) u
    (g.W.Write.contents c.feed.new.out.inner)
    (let n = length-take c.args.end c.args.buffer.now in let few = c.requires.few in omega
    (arith, n, few))
    reader c.feed.new.out.failed c.in-Err.fault
    (c.in-Err.ensures.feeds (own_session o u.given u.printed) u.fed)

pub returns-then-may_begin_line-clause-waits : goal.returns-then-may_begin_line-clause-waits
returns-then-may_begin_line-clause-waits g c =
    subst (λ b. IsWaiting c.feed.new.self.lines (take (c.args.end - c.last_line_start-whole.result)
    b)) (sym c.copy_within.ensures.after)
    (cut_waits c.args.buffer.now c.args.end c.last_line_start-whole.result
    c.last_line_start-whole.ensures c.feed.new.self.lines c.requires.within c.requires.few
    (grind arith))

pub returns-then-may_begin_line-clause-goes_on : goal.returns-then-may_begin_line-clause-goes_on
returns-then-may_begin_line-clause-goes_on g c = λ o read rest written u.
    subst (λ b. InProgress c.feed.new.self o read (prepend_known b rest) written
    (g.W.Write.contents c.feed.new.out.inner))
    (sym (ap (take (c.args.end - c.last_line_start-whole.result)) c.copy_within.ensures.after
    ∙ cut_moved c.args.buffer.now c.args.end c.last_line_start-whole.result
    c.last_line_start-whole.ensures c.requires.within))
    (fed_front o c.args.engine.now read rest written (g.W.Write.contents c.args.out.now.inner)
    (take c.args.end c.args.buffer.now) _ _
    (cut_joined c.args.buffer.now c.args.end c.last_line_start-whole.result
    c.last_line_start-whole.ensures) u
    c.feed.new.self (g.W.Write.contents c.feed.new.out.inner)
    (c.in_default.ensures.feeds (own_session o u.given u.printed) u.fed))

pub returns-then-may_begin_line-clause-begun : goal.returns-then-may_begin_line-clause-begun
returns-then-may_begin_line-clause-begun g c = let w = c.requires.begun in
    let goes = c.in_default.ensures.feeds (own_session w.options w.text w.printed) w.fed in
    record {
      options = w.options;
      text = w.text ++ take c.last_line_start-whole.result
          c.args.buffer.now;
      printed = w.printed ++ goes.more;
      fed = goes.fed;
    }

pub returns-then-may_begin_line-clause-less : goal.returns-then-may_begin_line-clause-less
returns-then-may_begin_line-clause-less g c = let w = c.requires.begun in
    let goes = c.in_default.ensures.feeds (own_session w.options w.text w.printed) w.fed in
    let n = length-take c.last_line_start-whole.result c.args.buffer.now in
    let at = cut_within c.args.buffer.now c.args.end c.last_line_start-whole.result
    c.last_line_start-whole.ensures in
    let fits = c.requires.within in
    fed_further w.options c.args.engine.now c.feed.new.self w.text w.printed
    (w.printed ++ goes.more) (take c.last_line_start-whole.result c.args.buffer.now) w.fed.taken
    goes.fed.taken
    c.last_line_start-whole.result c.args.end (omega (arith, n, at, fits))

pub feed-requires-2-clause-fits : goal.feed-requires-2-clause-fits
feed-requires-2-clause-fits g c = let w = c.requires.begun in
    let goes = c.in_default.ensures.feeds (own_session w.options w.text w.printed) w.fed in
    let n = length-take (c.args.end - c.last_line_start-whole.result)
    (drop c.last_line_start-whole.result c.args.buffer.now) in
    let few = c.requires.few in
    room_after w.options c.args.engine.now c.feed.new.self w.text w.printed (w.printed ++ goes.more)
    (take c.last_line_start-whole.result c.args.buffer.now) w.fed.taken goes.fed.taken
    g.H.LineBuffer.CAPACITY _
    (cut_starts c.args.buffer.now c.args.end c.last_line_start-whole.result
    c.last_line_start-whole.ensures) c.requires.fits (omega (arith, n, few))

pub returns-in-Ok-clause-goes_on : goal.returns-in-Ok-clause-goes_on
returns-in-Ok-clause-goes_on g c = λ o read rest written u.
    let v = fed_front o c.args.engine.now read rest written
    (g.W.Write.contents c.args.out.now.inner) (take c.args.end c.args.buffer.now)
    (take c.last_line_start-whole.result c.args.buffer.now)
    (take (c.args.end - c.last_line_start-whole.result)
    (drop c.last_line_start-whole.result c.args.buffer.now))
    (cut_joined c.args.buffer.now c.args.end c.last_line_start-whole.result
    c.last_line_start-whole.ensures) u
    c.feed.new.self (g.W.Write.contents c.feed.new.out.inner)
    (c.in_default.ensures.feeds (own_session o u.given u.printed) u.fed) in
    subst (λ r. InProgress c.feed-2.new.self o read r written (g.W.Write.contents
    c.feed-2.new.out.inner)) (sym (prepend_known-nil rest))
    (fed_rest o c.feed.new.self read rest written (g.W.Write.contents c.feed.new.out.inner)
    (take (c.args.end - c.last_line_start-whole.result)
    (drop c.last_line_start-whole.result c.args.buffer.now)) v
    c.feed-2.new.self (g.W.Write.contents c.feed-2.new.out.inner)
    (c.in-Ok.ensures.feeds (own_session o v.given v.printed) v.fed))

pub returns-in-Ok-clause-begun : goal.returns-in-Ok-clause-begun
returns-in-Ok-clause-begun g c = let w = c.requires.begun in
    let front = take c.last_line_start-whole.result c.args.buffer.now in
    let rest = take (c.args.end - c.last_line_start-whole.result)
    (drop c.last_line_start-whole.result c.args.buffer.now) in
    let goes = c.in_default.ensures.feeds (own_session w.options w.text w.printed) w.fed in
    let more = c.in-Ok.ensures.feeds
    (own_session w.options (w.text ++ front) (w.printed ++ goes.more)) goes.fed in
    record {
      options = w.options;
      text = (w.text ++ front) ++ rest;
      printed = (w.printed ++
          goes.more) ++ more.more;
      fed = more.fed;
    }

pub returns-in-Ok-clause-less : goal.returns-in-Ok-clause-less
returns-in-Ok-clause-less g c = let w = c.requires.begun in
    let front = take c.last_line_start-whole.result c.args.buffer.now in
    let rest = take (c.args.end - c.last_line_start-whole.result)
    (drop c.last_line_start-whole.result c.args.buffer.now) in
    let goes = c.in_default.ensures.feeds (own_session w.options w.text w.printed) w.fed in
    let more = c.in-Ok.ensures.feeds
    (own_session w.options (w.text ++ front) (w.printed ++ goes.more)) goes.fed in
    let at = cut_within c.args.buffer.now c.args.end c.last_line_start-whole.result
    c.last_line_start-whole.ensures in
    let fits = c.requires.within in
    let n = length-take c.last_line_start-whole.result c.args.buffer.now in
    let m = length-take (c.args.end - c.last_line_start-whole.result)
    (drop c.last_line_start-whole.result c.args.buffer.now) in
    let d = length-drop c.last_line_start-whole.result c.args.buffer.now in
    all_further c.args.engine.now.lines c.feed.new.self.lines c.feed-2.new.self.lines
    c.last_line_start-whole.result c.args.end front rest
    (no_further w.options c.args.engine.now c.feed.new.self w.text w.printed
    (w.printed ++ goes.more) front w.fed.taken goes.fed.taken)
    (no_further w.options c.feed.new.self c.feed-2.new.self (w.text ++ front)
    (w.printed ++ goes.more) ((w.printed ++ goes.more) ++ more.more) rest goes.fed.taken
    more.fed.taken)
    (fed_room w.options printer_represents printer_piece c.args.engine.now w.text w.printed
    w.fed.taken c.feed.new.self front (w.printed ++ goes.more) goes.fed.taken)
    (fed_room w.options printer_represents printer_piece c.feed.new.self (w.text ++ front)
    (w.printed ++ goes.more) goes.fed.taken c.feed-2.new.self rest
    ((w.printed ++ goes.more) ++ more.more) more.fed.taken)
    at (omega (arith, n, at, fits)) (omega (arith, m, d, at, fits))

pub returns-in-Err-feed-clause-stops : goal.returns-in-Err-feed-clause-stops
returns-in-Err-feed-clause-stops g c = λ o read rest written reader u.
    let v = fed_front o c.args.engine.now read rest written
    (g.W.Write.contents c.args.out.now.inner) (take c.args.end c.args.buffer.now)
    (take c.last_line_start-whole.result c.args.buffer.now)
    (take (c.args.end - c.last_line_start-whole.result)
    (drop c.last_line_start-whole.result c.args.buffer.now))
    (cut_joined c.args.buffer.now c.args.end c.last_line_start-whole.result
    c.last_line_start-whole.ensures) u
    c.feed.new.self (g.W.Write.contents c.feed.new.out.inner)
    (c.in_default.ensures.feeds (own_session o u.given u.printed) u.fed) in
    let n = length-take (c.args.end - c.last_line_start-whole.result)
    (drop c.last_line_start-whole.result c.args.buffer.now) in
    let few = c.requires.few in
    rest_stops o c.feed.new.self read rest written (g.W.Write.contents c.feed.new.out.inner)
    (take (c.args.end - c.last_line_start-whole.result)
    (drop c.last_line_start-whole.result c.args.buffer.now)) v
    (g.W.Write.contents c.feed-2.new.out.inner) (omega (arith, n, few)) reader
    c.feed-2.new.out.failed c.in-Err-feed.fault
    (c.in-Err-feed.ensures.feeds (own_session o v.given v.printed) v.fed)
