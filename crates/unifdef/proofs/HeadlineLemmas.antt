-- HeadlineLemmas: from the result of a run to the definitions' answer.
use Rattle.std.proofs.Common.{◌≡◌, ℕ, List, [], Bool, true, false, not, Option, Some, None, Result, Ok, Err, refl, sym, ◌∙◌, ap, subst, ◌⊎◌, inl, inr, arith}
use Rattle.std.specs.Prelude.{IfSome}
use Rattle.std.proofs.lemmas.Option.{IfSome_then}
use Rattle.std.specs.Io.KnownBytes.{Keeps}
use Rattle.std.proofs.KnownBytes.{Appends-nil, Appends-kept}
use Rattle.ud_model.specs.sections.Items.{Options}
use Rattle.ud_model.specs.answer.CommandLine.{parsed_args, usage_fault, options_of, display_name}
use Rattle.ud_model.specs.answer.Answer.{Answer, usage_answer, memory_answer, refused, ran, message_or_none, status_of}
use Rattle.ud_model.specs.answer.Outcomes.{Outcome}
use Rattle.ud_model.specs.declared.settings.Settings.{Settings}
use Rattle.ud_args.specs.ParsedSettings.{IsUsageOf}
use Rattle.ud_args.specs.SymbolStorage.{StoresSymbol}
use Rattle.ud_args.specs.declared.usage.Usage.{Usage}
use Rattle.ud_engine.specs.Finishing.{RunAnswers, ResultIs}
use Rattle.ud_engine.specs.Runs.{LagsOneRead}
use Rattle.ud_io.specs.Watched.{AppendsAllOrPrefix}
use Rattle.ud_engine.specs.declared.fault.RunFault.{RunFault}
use Rattle.unifdef.specs.ToolCall.{Call}
use Rattle.unifdef.specs.ToolAnswer.{Answers, AnswersSpec, FailsForMemory}
use Rattle.unifdef.specs.UsageMessages.{usage_text}
use Rattle.unifdef.specs.RunMessages.{final_result, result_message, result_status}
use Rattle.unifdef.proofs.RefusalLemmas.{TellsFault, tells-IsUsageOf}

-- the message and the status of the end of a run are those of its outcome
pub record TellsOutcome (name : List ℕ) (s : Settings) (ended : Result Bool RunFault) (r : Outcome) : Type 0 where
  pub message : result_message name ended ≡ message_or_none name r.fault
  pub status : result_status s ended ≡ status_of s r.differs r.fault

pub tells_outcome : (name : List ℕ) (s : Settings) (ended : Result Bool RunFault) (r : Outcome) → ResultIs ended r → TellsOutcome name s ended r
tells_outcome name s ended r h = grind arith

-- a flush after which the stream hasn't failed changes no result
flushed_well : (mid new flushed : Bool) (answer : Result Bool RunFault) → (mid ≡ false → new ≡ not flushed) → mid ≡ false → new ≡ false → final_result answer flushed ≡ answer
flushed_well mid new true (Ok differs) after works stays = refl
flushed_well mid new true (Err f) after works stays = refl
flushed_well mid new false (Ok differs) after works stays = let clash : true ≡ false = sym (after works) ∙ stays in cc
flushed_well mid new false (Err f) after works stays = refl

-- a stream that hasn't failed after a flush hadn't failed before
pub false_before : {mid new : Bool} → (mid ≡ true → new ≡ true) → new ≡ false → mid ≡ false
false_before again stays = grind arith

-- the output lags no more after a flush
pub flushed_kept_up : (o : Options) (read_old read_new uo um un : Option (List ℕ)) → LagsOneRead o read_old read_new uo um → Keeps um un → LagsOneRead o read_old read_new uo un
flushed_kept_up o read_old read_new uo um un k keeps = grind arith

module _ {R W : Type 0} (call : Call R W) where
  -- a run with this end gave the definitions' answer
  pub run_answers : (input : List ℕ) (ended : Result Bool RunFault) (mid : Option (List ℕ)) →
      usage_fault call.args ≡ None → RunAnswers (options_of call.args) input call.old_output mid ended → Keeps mid call.new_output →
      AppendsAllOrPrefix call.err_failed call.old_message call.new_message (result_message (display_name call.args) ended) →
      call.status ≡ result_status (options_of call.args).settings ended → AnswersSpec call input
  run_answers input ended mid right r keeps said status =
      let reported = tells_outcome (display_name call.args) (options_of call.args).settings ended r.outcome r.answered in (
        _,
        ran r.outcome right r.runs,
        record {
          output = Appends-kept call.old_output mid call.new_output r.outcome.output r.output keeps;
          message = subst (λ (x : List ℕ). AppendsAllOrPrefix call.err_failed call.old_message call.new_message x) reported.message said;
          answered = status ∙ reported.status;
        },
      )

  -- if the output was flushed, and no read and no write failed, the answer is that of the definitions
  pub flushed_answers : (answer : Result Bool RunFault) (failed flushed : Bool) (mid : Option (List ℕ)) →
      usage_fault call.args ≡ None → (failed ≡ false → IfSome call.input (λ input. RunAnswers (options_of call.args) input call.old_output mid answer)) →
      Keeps mid call.new_output → (failed ≡ false → call.new_out.failed ≡ not flushed) → (failed ≡ true → call.new_out.failed ≡ true) →
      call.new_out.failed ≡ false →
      AppendsAllOrPrefix call.err_failed call.old_message call.new_message (result_message (display_name call.args) (final_result answer flushed)) →
      call.status ≡ result_status (options_of call.args).settings (final_result answer flushed) →
      IfSome call.input (λ input. AnswersSpec call input ⊎ FailsForMemory call)
  flushed_answers answer failed flushed mid right ran_so keeps after again stays said status =
      let works : failed ≡ false = false_before again stays in
      let same : final_result answer flushed ≡ answer = flushed_well failed call.new_out.failed flushed answer after works stays in
      IfSome_then call.input (ran_so works) (λ input r.
      inl (run_answers input answer mid right r keeps
      (subst (λ (a : Result Bool RunFault). AppendsAllOrPrefix call.err_failed call.old_message call.new_message (result_message (display_name call.args) a)) same said)
      (status ∙ ap (result_status (options_of call.args).settings) same)))

  module _ (u : Usage) (unread : call.new_reader ≡ call.old_reader) (unwritten : call.new_out ≡ call.old_out)
      (kept : call.new_output ≡ call.old_output)
      (said : AppendsAllOrPrefix call.err_failed call.old_message call.new_message (usage_text u)) (status : call.status ≡ 2) where
    -- nothing was written but this text
    told : (a : Answer) → a.output ≡ [] → usage_text u ≡ a.message → a.status ≡ 2 → Answers call a
    told a none text two = grind (arith, Appends-nil)

    -- memory for a symbol couldn't be allocated, and that was reported
    memory_refused : StoresSymbol (parsed_args call.args) → usage_text u ≡ memory_answer.message → FailsForMemory call
    memory_refused asked text = record { asked = asked; unread = unread; unwritten = unwritten; gave = told memory_answer refl text refl }

    -- rejected arguments have a fault, or memory for a symbol couldn't be allocated
    pub usage_answers : IsUsageOf (parsed_args call.args) u → IfSome call.input (λ input. AnswersSpec call input ⊎ FailsForMemory call)
    usage_answers wrong = some_input call.input
      where
        by_case : (input : List ℕ) → TellsFault (usage_fault call.args) u ⊎ (StoresSymbol (parsed_args call.args) × (usage_text u ≡ memory_answer.message)) →
            AnswersSpec call input ⊎ FailsForMemory call
        by_case input (inl t) = inl (usage_answer t.reported, refused t.reported t.is, told (usage_answer t.reported) refl t.text refl)
        by_case input (inr t) = inr (memory_refused t.0 t.1)

        some_input : (b : Option (List ℕ)) → IfSome b (λ input. AnswersSpec call input ⊎ FailsForMemory call)
        some_input None = tt
        some_input (Some input) = by_case input (tells-IsUsageOf (parsed_args call.args) u wrong)
