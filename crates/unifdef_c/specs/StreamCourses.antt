-- StreamCourses: the course of a text in chunks, from the first call to the last.
use Rattle.std.specs.Prelude.{◌≡◌, ◌≤◌, ℕ, List, [], ◌++◌, length, Bool, false, None, Some, Result}
use Rattle.std.specs.Prelude.{Err, take}
use Rattle.ud_model.specs.answer.CommandLine.{usage_fault, options_of, display_name}
use Rattle.ud_model.specs.answer.Answer.{IsAnswer}
use Rattle.ud_engine.specs.declared.fault.RunFault.{RunFault}
use Rattle.ud_engine.specs.Finishing.{RunAnswers}
use Rattle.unifdef.specs.RunMessages.{result_message, result_status}
use Rattle.unifdef_c.specs.Streams.{InSession, TakesStream, session, pending, output_of}
use Rattle.unifdef_c.specs.declared.stream.Stream.{Stream}

-- `IsOf args s`: `s` is a stream of these arguments, which have no fault. Its text hasn't ended,
-- and no memory was refused.
pub record IsOf (args : List (List ℕ)) (s : Stream) : Type 0 where
  pub right : usage_fault args ≡ None
  pub named : s.name.items ≡ display_name args
  pub set : s.settings ≡ (options_of args).settings
  pub goes_on : s.ended ≡ None
  pub works : s.output.failed ≡ false
  pub within : s.taken ≤ length (output_of s)

-- `GoesOn args text given s`: the stream was fed `text`, which has no fault so far. The output
-- taken, `given`, and the pending output are the output for its whole lines.
pub record GoesOn (args : List (List ℕ)) (text given : List ℕ) (s : Stream) : Type 0 where
  pub of : IsOf args s
  pub fed : InSession s (session (options_of args) text (given ++ pending s))

-- `HasStopped args text given s f`: the stream was fed `text`, which has the fault `f`. However the
-- text goes on, the output taken and pending is its output.
pub record HasStopped (args : List (List ℕ)) (text given : List ℕ) (s : Stream) (f : RunFault) :
    Type 0 where
  pub of : IsOf args s
  pub recorded : s.engine.fault ≡ Some f
  pub answers : (later : List ℕ) → RunAnswers (options_of args) (text ++ later) (Some [])
      (Some (given ++ pending s)) (Err f)

-- `TakesOn given s more t`: part of the pending output of `s` was taken, which is then `t`. `given`
-- was taken before, and `more` includes this part.
pub record TakesOn (given : List ℕ) (s : Stream) (more : List ℕ) (t : Stream) : Type 0 where
  pub buffer : List ℕ
  pub buffer' : List ℕ
  pub count : ℕ
  pub takes : TakesStream s t buffer buffer' count
  pub more_is : more ≡ given ++ take count (pending s)

-- `IsAnswerOf args text given t r`: the output taken and pending, with the message and the status
-- of the result `r`, is the definitions' one answer to these arguments and this text.
abbrev pub IsAnswerOf : List (List ℕ) → List ℕ → List ℕ → Stream → Result Bool RunFault → Type 0
IsAnswerOf args text given t r = IsAnswer args text (record {
  output = given ++ pending t;
  message = result_message t.name.items r;
  status = result_status t.settings r;
})
