use Rattle.std.proofs.Common.{◌≡◌, ℕ, ◌+◌, ◌*◌, ◌-◌, ◌<◌, List, Option, false, length, take}
use Rattle.std.specs.Io.KnownBytes.{prepend_known}
use Rattle.ud_model.specs.sections.Items.{Options}
use Rattle.ud_text.specs.lines.LinesState.{HasCapacity}
use Rattle.ud_engine.specs.declared.pump.TheConstants.{CHUNK_BYTES}
use Rattle.ud_engine.specs.Runs.{bytes_to_limit, RepresentsSomeText, InProgress}
use Rattle.ud_engine.specs.Waiting.{IsWaiting}
use Rattle.ud_engine.proofs.pump.pump.Given as goal

abbrev pub invariant-loop-buffer : goal.invariant-loop-buffer
invariant-loop-buffer g l = record {
  reads : l.reader.failed ≡ false;
  writes : l.out.failed ≡ false;
  begun : RepresentsSomeText l.engine;
  len : length l.buffer ≡ CHUNK_BYTES;
  room : l.waiting < CHUNK_BYTES;
  waits : IsWaiting l.engine.lines (take l.waiting l.buffer);
  fits : 0 < l.waiting → HasCapacity g.H.LineBuffer.CAPACITY l.engine.lines CHUNK_BYTES;
  under_way : (o : Options) (read written : Option (List ℕ)) →
      InProgress l.initial.engine o read (g.R.Read.remaining l.initial.reader.inner) written
      (g.W.Write.contents l.initial.out.inner) →
      InProgress l.engine o read
      (prepend_known (take l.waiting l.buffer) (g.R.Read.remaining l.reader.inner)) written
      (g.W.Write.contents l.out.inner);
}

abbrev pub decreases-loop-buffer : goal.decreases-loop-buffer
decreases-loop-buffer g l = bytes_to_limit l.engine.lines * (CHUNK_BYTES + 1) +
    (CHUNK_BYTES - l.waiting)
