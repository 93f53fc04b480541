-- EndedLemmas: from how a run ended to how the tool ended.
use Rattle.std.proofs.Common.{◌≡◌, ℕ, List, Bool, true, false, not, ◌||◌, Option, Result, Ok, Err, arith}
use Rattle.std.specs.Io.KnownBytes.{Keeps}
use Rattle.ud_model.specs.text.Lines.{Line}
use Rattle.ud_model.specs.sections.Items.{Options}
use Rattle.ud_model.specs.sections.Faults.{Fault}
use Rattle.ud_engine.specs.declared.fault.RunFault.{RunFault}
use Rattle.ud_engine.specs.declared.fault.RunFault.TheVariants.{Text, Section, Read, Write}
use Rattle.ud_engine.specs.Runs.{RunEnded, EndsWith, AppendsPrefixOfOutput, Truncated, StoppedAtFault, in_course, at_end}
use Rattle.unifdef.specs.ToolEnded.{is_read_error, is_write_error}
use Rattle.std.proofs.KnownBytes.{Appends-kept}

module _ (o : Options) (given : List ℕ) (left uo um un : Option (List ℕ)) (keeps : Keeps um un) where
  short_kept : (ls : List Line) → AppendsPrefixOfOutput o ls uo um → AppendsPrefixOfOutput o ls uo un
  short_kept ls h = grind arith

  cut_kept : Truncated o given left uo um → Truncated o given left uo un
  cut_kept (in_course ls later are h) = in_course ls later are (short_kept ls h)
  cut_kept (at_end ended h) = at_end ended (short_kept _ h)

  found_kept : (f : Fault) → StoppedAtFault o given left uo um f → StoppedAtFault o given left uo un f
  found_kept f h = record { outcome = h.outcome; runs = h.runs; fault = h.fault; appended = Appends-kept uo um un h.outcome.output h.appended keeps }

  -- what was written stays written after a flush
  ends_kept : (r : Result Bool RunFault) → EndsWith o given left uo um r → EndsWith o given left uo un r
  ends_kept (Ok differs) h = grind (arith, Appends-kept)
  ends_kept (Err (Text f)) h = found_kept _ h
  ends_kept (Err (Section f)) h = found_kept _ h
  ends_kept (Err Read) h = record { outcome = h.outcome; runs = h.runs; right = h.right; appended = Appends-kept uo um un h.outcome.output h.appended keeps }
  ends_kept (Err Write) h = cut_kept h

-- the end of a run is the same after a flush
pub flushed_went : (o : Options) (read_old read_new uo um un : Option (List ℕ)) (r : Result Bool RunFault) → RunEnded o read_old read_new uo um r → Keeps um un → RunEnded o read_old read_new uo un r
flushed_went o read_old read_new uo um un r w keeps = grind (arith, ends_kept)

-- a reader has failed exactly if the run returned a read error
pub read_reported : (failed : Bool) (r : Result Bool RunFault) → (failed ≡ true → r ≡ Err Read) → (r ≡ Err Read → failed ≡ true) → failed ≡ is_read_error r
read_reported failed r only if_so = grind arith

-- the output has failed before the flush exactly if the run returned a write error
wrote_told : (failed : Bool) (r : Result Bool RunFault) → (failed ≡ true → r ≡ Err Write) → (r ≡ Err Write → failed ≡ true) → failed ≡ is_write_error r
wrote_told failed r only if_so = grind arith

after_flush : (mid wrote new flushed : Bool) → mid ≡ wrote → (mid ≡ false → new ≡ not flushed) → (mid ≡ true → new ≡ true) → new ≡ (wrote || not flushed)
after_flush mid true new flushed e fails again = again e
after_flush mid false new flushed e fails again = fails e

-- after the flush, the output has failed exactly if a write failed, or the flush
pub write_reported : (mid new flushed : Bool) (r : Result Bool RunFault) → (mid ≡ true → r ≡ Err Write) → (r ≡ Err Write → mid ≡ true) →
    (mid ≡ false → new ≡ not flushed) → (mid ≡ true → new ≡ true) → new ≡ (is_write_error r || not flushed)
write_reported mid new flushed r only if_so fails again = after_flush mid (is_write_error r) new flushed (wrote_told mid r only if_so) fails again
