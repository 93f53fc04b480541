-- Streams: a text that comes in chunks, and its output, taken in parts.
--
--   pending s                  the output not taken yet
--   IsNewStream plan name s    a stream before the first byte, by a plan
--   BeginsStream args s        the same, by arguments
--   FeedsStream s t chunk fed  the next chunk was processed
--   TakesStream s t ..         part of the output was taken
--   FinishesStream s t r       the text has ended
--   EndsStream s t r           the same, unless it had ended before
use Rattle.std.specs.Prelude.{◌≡◌, ◌⊎◌, ◌≤◌, ℕ, List, [], length, take, drop, Bool, true, false}
use Rattle.std.specs.Prelude.{None, Some, Result, Ok, Err, IfSome}
use Rattle.ud_model.specs.sections.Items.{Options}
use Rattle.ud_model.specs.answer.CommandLine.{usage_fault, options_of, display_name}
use Rattle.ud_model.specs.answer.Printing.{piece_after, style_of}
use Rattle.ud_cond.specs.symbols.SymbolTable.{TableRepresents}
use Rattle.ud_engine.specs.declared.fault.RunFault.{RunFault}
use Rattle.ud_engine.specs.declared.fault.RunFault.TheVariants.{Text, Section, Read, Write}
use Rattle.ud_sections.specs.printing.Printers.{printer_represents, printer_piece}
use Rattle.ud_args.specs.Plans.{PlanState}
use Rattle.ud_engine.specs.Feeding.{Session, IsInSession, FeedsChunk, WriterMatches, RecordsFault}
use Rattle.ud_engine.specs.Finishing.{Finishes}
use Rattle.unifdef_c.specs.TextCalls.{overwritten}
use Rattle.unifdef_c.specs.declared.stream.Stream.{Stream}
use Rattle.unifdef_c.specs.declared.stream.Fed.{Fed}
use Rattle.unifdef_c.specs.declared.stream.Fed.TheVariants as is

-- `output_of s`: the output since all of it was last taken.
abbrev pub output_of : Stream → List ℕ
output_of s = s.output.inner.items

-- `pending s`: the output not taken yet.
abbrev pub pending : Stream → List ℕ
pending s = drop s.taken (output_of s)

-- `session o text printed`: an engine with the options `o` was fed `text`, and has printed
-- `printed`.
abbrev pub session : Options → List ℕ → List ℕ → Session
session o text printed = record {
  options = o;
  pieces = piece_after (style_of o.settings);
  text = text;
  printed = printed;
}

-- `InSession s x`: the stream's engine was fed and has printed what `x` records.
abbrev pub InSession : Stream → Session → Type 0
InSession s x = IsInSession printer_represents printer_piece s.engine x

-- `IsNewStream plan name s`: `s` is a stream before the first byte, by this plan. Messages name its
-- text `name`.
pub record IsNewStream (plan : PlanState) (name : List ℕ) (s : Stream) : Type 0 where
  pub fed : (o : Options) → o.settings ≡ plan.settings → TableRepresents plan.symbols o.table →
      InSession s (session o [] [])
  pub empty : output_of s ≡ []
  pub works : s.output.failed ≡ false
  pub untaken : s.taken ≡ 0
  pub named : s.name.items ≡ name
  pub set : s.settings ≡ plan.settings
  pub goes_on : s.ended ≡ None

-- `BeginsStream args s`: the arguments have no fault, and `s` is a stream before the first byte, by
-- their options. Messages name its text as the arguments do.
pub record BeginsStream (args : List (List ℕ)) (s : Stream) : Type 0 where
  pub right : usage_fault args ≡ None
  pub fed : InSession s (session (options_of args) [] [])
  pub none_pending : pending s ≡ []
  pub untaken : s.taken ≡ 0
  pub works : s.output.failed ≡ false
  pub named : s.name.items ≡ display_name args
  pub set : s.settings ≡ (options_of args).settings
  pub goes_on : s.ended ≡ None

-- `FeedsEngine s t chunk r`: the engine of `s` was fed `chunk`, and the output for the lines that
-- end in it was appended; or feeding failed.
pub record FeedsEngine (s t : Stream) (chunk : List ℕ) (r : Result (Unit {0}) RunFault) : Type 0
  where
    pub feeds : FeedsChunk printer_represents printer_piece (λ v. Some v.items) s.engine t.engine
        chunk s.output t.output r
    pub writer : s.engine.fault ≡ None → WriterMatches t.output.failed r
    pub records_fault : RecordsFault t.engine.fault r
    pub fused : IfSome s.engine.fault (λ f. (r ≡ Err f) × (t.engine ≡ s.engine) ×
        (t.output ≡ s.output))
    pub rest : t ≡ record s { engine = t.engine; output = t.output }

-- `fed_of r`: the effect of a chunk, if the engine returned `r`.
abbrev pub fed_of : Result (Unit {0}) RunFault → Fed
fed_of (Ok done) = is.Accepted
fed_of (Err (Text f)) = is.Faulty
fed_of (Err (Section f)) = is.Faulty
fed_of (Err Read) = is.Faulty
fed_of (Err Write) = is.OutOfMemory

-- `FeedsStream s t chunk fed`: `FeedsEngine`. Or the text had ended or memory had been refused, and
-- the stream is unchanged.
pub data FeedsStream (s t : Stream) (chunk : List ℕ) : Fed → Type 0 where
  by_engine : (r : Result (Unit {0}) RunFault) → s.ended ≡ None → s.output.failed ≡ false →
      FeedsEngine s t chunk r → FeedsStream s t chunk (fed_of r)
  has_failed : s.ended ≡ None → s.output.failed ≡ true → t ≡ s →
      FeedsStream s t chunk is.OutOfMemory
  has_ended : (r : Result Bool RunFault) → s.ended ≡ Some r → t ≡ s →
      FeedsStream s t chunk is.Ended

-- `TakesStream s t buffer buffer' count`: the pending output was written to `buffer`, as far as it
-- fits: `count` bytes, no longer pending. All else is unchanged.
pub record TakesStream (s t : Stream) (buffer buffer' : List ℕ) (count : ℕ) : Type 0 where
  pub written : buffer' ≡ overwritten buffer (pending s)
  pub counted : count ≡ length (take (length buffer) (pending s))
  pub left : pending t ≡ drop count (pending s)
  pub within : s.taken ≤ length (output_of s) → t.taken ≤ length (output_of t)
  pub failed : t.output.failed ≡ s.output.failed
  pub rest : t ≡ record s { output = t.output; taken = t.taken }

-- `FinishesEngine s t r`: the text of the engine of `s` has ended with `r`, and the rest of the
-- output was appended; or ending it failed.
pub record FinishesEngine (s t : Stream) (r : Result Bool RunFault) : Type 0 where
  pub finishes : (x : Session) → InSession s x →
      Finishes x t.output.failed (Some (output_of s)) (Some (output_of t)) r
  pub writer : s.engine.fault ≡ None → WriterMatches t.output.failed r
  pub fused : IfSome s.engine.fault (λ f. (r ≡ Err f) × (t.output ≡ s.output))
  pub rest : t ≡ record s { engine = t.engine; output = t.output; ended = Some r }

-- `FinishesStream s t r`: `FinishesEngine`. Or memory had been refused, and all output stays as it
-- was.
pub data FinishesStream (s t : Stream) : Result Bool RunFault → Type 0 where
  by_end : (r : Result Bool RunFault) → s.output.failed ≡ false → FinishesEngine s t r →
      FinishesStream s t r
  after_failure : s.output.failed ≡ true → t ≡ record s { ended = Some (Err Write) } →
      FinishesStream s t (Err Write)

-- `EndsStream s t r`: `FinishesStream`. Or the text had ended with `r`, and the stream is
-- unchanged.
abbrev pub EndsStream : Stream → Stream → Result Bool RunFault → Type 0
EndsStream s t r = (s.ended ≡ None) × FinishesStream s t r ⊎ (s.ended ≡ Some r) × (t ≡ s)
