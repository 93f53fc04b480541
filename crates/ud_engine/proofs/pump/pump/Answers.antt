use Rattle.std.proofs.Math.Seq.{take-append_seam}
use Rattle.std.proofs.Math.ListN.{length-take}
use Rattle.std.proofs.lemmas.Grind.{common_steps}
use Rattle.std.proofs.Common.{rules, ◌≡◌, ℕ, ◌<◌, ◌≤◌, length, take, sym, ◌∙◌, subst, append-nil, arith}
use Rattle.std.specs.Io.KnownBytes.{Consumes, prepend_known}
use Rattle.ud_engine.specs.Runs.{InProgress}
use Rattle.ud_engine.proofs.WaitingLemmas.{waits_more, unread_waiting, read_joined}
use Rattle.ud_engine.proofs.pump.pump.Goals as goal

pub returns-in-None-clause-finished : goal.returns-in-None-clause-finished
returns-in-None-clause-finished g c = λ o read written u.
    unread_waiting o c.loop-buffer.engine read (g.R.Read.remaining c.loop-buffer.reader.inner)
    (g.R.Read.remaining c.read.new.self.inner) written
    (g.W.Write.contents c.loop-buffer.out.inner) (take c.loop-buffer.waiting c.loop-buffer.buffer)
    (c.loop-buffer.invariant.under_way o read written u)
    c.loop-buffer.invariant.waits c.in-None.ensures.once c.read.new.self.failed
    c.loop-buffer.out.failed c.in-None.ensures.failed

pub returns-in-Some-eq0-clause-finished : goal.returns-in-Some-eq0-clause-finished
returns-in-Some-eq0-clause-finished g c = λ o read written w.
    let once = c.in-Some-eq0.ensures.once in
    let zero : c.in-Some-eq0.field-0 ≡ 0 = search rules in
    let some : 0 < length c.read.new.buf = search rules in
    let within : c.loop-buffer.waiting ≤ length c.loop-buffer.buffer = search rules in
    let last = subst
    (λ (n : ℕ). Consumes (g.R.Read.remaining c.loop-buffer.reader.inner)
    (g.R.Read.remaining c.read.new.self.inner) (take n c.read.new.buf)) zero once.1 in
    let u = waits_more o c.loop-buffer.engine read (g.R.Read.remaining c.loop-buffer.reader.inner)
    (g.R.Read.remaining c.read.new.self.inner) written
    (g.W.Write.contents c.loop-buffer.out.inner) (take c.loop-buffer.waiting c.loop-buffer.buffer) _
    (c.loop-buffer.invariant.under_way o read written w) last in
    c.finish.ensures.finished o read (g.R.Read.remaining c.read.new.self.inner) written
    c.read.new.self.failed (once.2 zero some)
    (subst (λ x. InProgress c.loop-buffer.engine o read (prepend_known x (g.R.Read.remaining
    c.read.new.self.inner)) written (g.W.Write.contents c.loop-buffer.out.inner))
    (append-nil (take c.loop-buffer.waiting c.loop-buffer.buffer) ∙ sym
    (grind (arith, common_steps, length-take, take-append_seam, within))) u)

pub loop-buffer-preserved : goal.loop-buffer-preserved
loop-buffer-preserved g c = record {
  reads = c.in-Some.ensures.failed;
  writes = c.in-Ok.ensures.writer;
  begun = c.in-Ok.ensures.begun;
  len = search rules;
  room = c.in-Ok.ensures.room;
  waits = c.in-Ok.ensures.waits;
  fits = c.in-Ok.ensures.fits;
  under_way = λ o read written w.
      let within : c.loop-buffer.waiting ≤ length c.loop-buffer.buffer = search rules in
      c.in-Ok.ensures.goes_on o read (g.R.Read.remaining c.read.new.self.inner) written
      (subst (λ x. InProgress c.loop-buffer.engine o read (prepend_known x (g.R.Read.remaining
      c.read.new.self.inner)) written (g.W.Write.contents c.loop-buffer.out.inner))
      (read_joined c.loop-buffer.buffer c.read.new.buf _ c.loop-buffer.waiting c.in-Some.count
      within c.in-Some.ensures.once.0)
      (waits_more o c.loop-buffer.engine read (g.R.Read.remaining c.loop-buffer.reader.inner)
      (g.R.Read.remaining c.read.new.self.inner) written
      (g.W.Write.contents c.loop-buffer.out.inner) (take c.loop-buffer.waiting c.loop-buffer.buffer)
      _ (c.loop-buffer.invariant.under_way o read written w) c.in-Some.ensures.once.1));
}

pub returns-in-Err-clause-finished : goal.returns-in-Err-clause-finished
returns-in-Err-clause-finished g c = λ o read written w.
    let within : c.loop-buffer.waiting ≤ length c.loop-buffer.buffer = search rules in
    c.in-Err.ensures.stops o read (g.R.Read.remaining c.read.new.self.inner) written
    c.read.new.self.failed
    (subst (λ x. InProgress c.loop-buffer.engine o read (prepend_known x (g.R.Read.remaining
    c.read.new.self.inner)) written (g.W.Write.contents c.loop-buffer.out.inner))
    (read_joined c.loop-buffer.buffer c.read.new.buf _ c.loop-buffer.waiting c.in-Some.count within
    c.in-Some.ensures.once.0)
    (waits_more o c.loop-buffer.engine read (g.R.Read.remaining c.loop-buffer.reader.inner)
    (g.R.Read.remaining c.read.new.self.inner) written
    (g.W.Write.contents c.loop-buffer.out.inner) (take c.loop-buffer.waiting c.loop-buffer.buffer) _
    (c.loop-buffer.invariant.under_way o read written w) c.in-Some.ensures.once.1))
