-- FailureLemmas: from how a call of the tool ended to what it says of a stream that failed.
use Rattle.std.proofs.Common.{◌≡◌, ℕ, List, Bool, true, false, not, ◌||◌, Option, Some, None, Result, Ok, Err, refl, sym, ◌∙◌, ap, subst, ◌⊎◌, inl, inr, arith}
use Rattle.std.specs.Prelude.{IfSome}
use Rattle.std.specs.Io.KnownBytes.{Consumes, IsAtEnd}
use Rattle.std.proofs.KnownBytes.{Keeps-refl}
use Rattle.std.proofs.lemmas.Option.{none-some}
use Rattle.std.proofs.lemmas.List.{append-nil}
use Rattle.ud_model.specs.sections.Items.{Options}
use Rattle.ud_model.specs.sections.Faults.{Fault}
use Rattle.ud_model.specs.answer.CommandLine.{UsageFault, options_of, display_name, usage_fault}
use Rattle.ud_model.specs.answer.Messages.{write_error}
use Rattle.ud_model.specs.answer.Outcomes.{Outcome, HasOutcome, HasOutcomeSoFar}
use Rattle.ud_model.proofs.sections.FaultStays.{fault_stays}
use Rattle.ud_engine.specs.declared.fault.RunFault.{RunFault}
use Rattle.ud_engine.specs.declared.fault.RunFault.TheVariants.{Text, Section, Read, Write}
use Rattle.ud_io.specs.Watched.{WatchedState, AppendsAllOrPrefix}
use Rattle.ud_engine.specs.Runs.{EndsWith, StoppedAtFault}
use Rattle.ud_engine.specs.Finishing.{text_fault_of}
use Rattle.ud_text.specs.lines.LimitFaults.{limit_of}
use Rattle.ud_sections.specs.sections.SectionFaults.{fault_of}
use Rattle.unifdef.specs.RunMessages.{final_result, result_message, result_status}
use Rattle.unifdef.specs.ToolCall.{Call}
use Rattle.unifdef.specs.ToolAnswer.{AnswersSpec, RefusesArgs}
use Rattle.unifdef.specs.ToolEnded.{is_read_error, is_write_error, ToolEnded, EndsAsRun, CallEnds}
use Rattle.unifdef.proofs.RefusalLemmas.{works_fails}
use Rattle.unifdef.proofs.HeadlineLemmas.{run_answers}

-- the bytes given, and those that are left, are the input
has_outcome : (o : Options) (input given : List ℕ) (rest : Option (List ℕ)) (r : Outcome) (f : Fault) → Consumes (Some input) rest given →
    HasOutcomeSoFar o given r ⊎ (IsAtEnd rest × HasOutcome o given r) → r.fault ≡ Some f → HasOutcome o input r
has_outcome o input given None r f e h is = absurd e
has_outcome o input given (Some rest) r f e (inl h) is = subst (λ (x : List ℕ). HasOutcome o x r) (sym e) (fault_stays o given rest r h f is).1
has_outcome o input given (Some rest) r f e (inr h) is = grind (arith, append-nil)

module _ {R W : Type 0} (call : Call R W) where
  -- the reader and the output are as they were
  abbrev pub Untouched : Type 0
  Untouched = (call.new_reader ≡ call.old_reader) × (call.new_out ≡ call.old_out)

  -- a run of arguments without a fault ended so
  abbrev pub RunCall : Type 0
  RunCall = (usage_fault call.args ≡ None) × ToolEnded call

  ended_by : (fault : Option UsageFault) → usage_fault call.args ≡ fault → IfSome fault (RefusesArgs call) → EndsAsRun call → RunCall ⊎ Untouched
  ended_by fault is refused ended = grind arith

  -- the message is this one, or a prefix of it
  abbrev pub Reports : List ℕ → Type 0
  Reports = AppendsAllOrPrefix call.err_failed call.old_message call.new_message

  -- a run that met a fault gave the definitions' answer
  fault_answers : (input : List ℕ) (f : RunFault) (fault : Fault) → usage_fault call.args ≡ None → text_fault_of f ≡ Some fault →
      (given : List ℕ) → Consumes (Some input) call.rest given → StoppedAtFault (options_of call.args) given call.rest call.old_output call.new_output fault →
      Reports (result_message (display_name call.args) (Err f)) → call.status ≡ result_status (options_of call.args).settings (Err f) → AnswersSpec call input
  fault_answers input f fault right is given consumed h said status =
      run_answers call input (Err f) call.new_output right
      (record {
        outcome = h.outcome;
        runs = has_outcome (options_of call.args) input given call.rest h.outcome fault consumed h.runs h.fault;
        output = h.appended;
        answered = (h.fault ∙ sym is, λ none. none-some fault (sym none ∙ h.fault));
      })
      (Keeps-refl call.new_output) said status

  -- the message of a run whose output failed
  write_message : (ran : Result Bool RunFault) (flushed : Bool) (input : List ℕ) (given : List ℕ) → usage_fault call.args ≡ None →
      Consumes (Some input) call.rest given → EndsWith (options_of call.args) given call.rest call.old_output call.new_output ran →
      is_read_error ran ≡ false → (is_write_error ran || not flushed) ≡ true → Reports (result_message (display_name call.args) (final_result ran flushed)) →
      call.status ≡ result_status (options_of call.args).settings (final_result ran flushed) → Reports (write_error (display_name call.args)) ⊎ AnswersSpec call input
  write_message (Ok differs) true input given right consumed h read wrote said status = let no : false ≡ true = wrote in cc
  write_message (Ok differs) false input given right consumed h read wrote said status = inl said
  write_message (Err Write) flushed input given right consumed h read wrote said status = inl said
  write_message (Err Read) flushed input given right consumed h read wrote said status = let no : true ≡ false = read in cc
  write_message (Err (Text f)) flushed input given right consumed h read wrote said status = inr (fault_answers input (Text f) (limit_of f) right refl given consumed h said status)
  write_message (Err (Section f)) flushed input given right consumed h read wrote said status = inr (fault_answers input (Section f) (fault_of f) right refl given consumed h said status)

  module _ (h : CallEnds call) where
    ends : RunCall ⊎ Untouched
    ends = ended_by (usage_fault call.args) refl h.usage h.ended

    no_write : call.new_out ≡ call.old_out → call.new_out.failed ≡ true → ⊥
    no_write same fails = works_fails call.old_out.failed h.out_worked (sym (ap (λ (w : WatchedState W). w.failed) same) ∙ fails)

    pub failed_write_message : call.new_out.failed ≡ true → call.new_reader.failed ≡ false →
        IfSome call.input (λ input. Reports (write_error (display_name call.args)) ⊎ AnswersSpec call input)
    failed_write_message fails works = by_end ends
      where
        by_input : usage_fault call.args ≡ None → (t : ToolEnded call) → (known : Option (List ℕ)) → Consumes known call.rest t.ended.given →
            IfSome known (λ input. Reports (write_error (display_name call.args)) ⊎ AnswersSpec call input)
        by_input right t None consumed = tt
        by_input right t (Some input) consumed =
            write_message t.ran t.flushed input t.ended.given right consumed t.ended.ends (sym t.read_failed ∙ works) (sym t.write_failed ∙ fails) t.reported t.answered

        by_end : RunCall ⊎ Untouched → IfSome call.input (λ input. Reports (write_error (display_name call.args)) ⊎ AnswersSpec call input)
        by_end (inl (right, t)) = by_input right t call.input t.ended.consumed
        by_end (inr u) = absurd (no_write u.1 fails)
