-- Running: the state of a run, read by read.
use Rattle.std.proofs.Common.{◌≡◌, ℕ, ◌-◌, ◌<◌, ◌≤◌, Bool, false, List, ◌++◌, length, take, drop, Option, Some, None, Result, Ok, Err, refl, sym, ◌∙◌, ap, subst, take-append-drop, arith, length-append, rules}
use Rattle.std.specs.Io.KnownBytes.{Appends, Consumes}
use Rattle.std.proofs.lemmas.List.{take-append-le}
use Rattle.std.proofs.KnownBytes.{Appends-trans}
use Rattle.ud_model.specs.text.Scans.{Reading}
use Rattle.ud_model.specs.sections.Tree.{Item, Tree}
use Rattle.ud_model.specs.sections.Items.{Options}
use Rattle.ud_model.specs.sections.Faults.{Fault}
use Rattle.ud_model.specs.answer.Printing.{Judged, piece_after, style_of}
use Rattle.ud_model.specs.answer.Outcomes.{Outcome, HasOutcomeSoFar, ReadsAs, outcome_of, output_by, differs_by, ran_as, came_as}
use Rattle.ud_model.specs.declared.settings.Listing.{Listing}
use Rattle.ud_model.specs.declared.settings.Settings.{Settings}
use Rattle.ud_model.proofs.sections.Exists.{run_so_far_exists}
use Rattle.ud_model.proofs.sections.FaultStays.{fault_stays, reads_stay}
use Rattle.ud_model.proofs.sections.Soundness.{one_run_so_far}
use Rattle.ud_model.proofs.answer.Onward.{prints_further}
use Rattle.ud_model.proofs.text.LinesLemmas.{grows}
use Rattle.ud_text.specs.lines.LimitFaults.{limit_of}
use Rattle.ud_sections.specs.sections.SectionFaults.{fault_of}
use Rattle.ud_engine.specs.declared.fault.RunFault.{RunFault}
use Rattle.ud_engine.specs.declared.fault.RunFault.TheVariants.{Text, Section, Read, Write}
use Rattle.ud_engine.specs.declared.pump.TheConstants.{CHUNK_BYTES}
use Rattle.ud_engine.specs.Finishing.{FinishFault, FinishOk, FinishErr, Finishes, RunAnswers, ResultIs, text_fault_of}
use Rattle.ud_engine.specs.Feeding.{EngineState, EngineRepresentsBuffered, Session, FeedFails, FaultsAfter}
use Rattle.ud_engine.specs.ProcessedLines.{text_by, differs_in}
use Rattle.ud_engine.specs.Runs.{LagsOneRead, all_but_last_chunk, bytes_to_limit}
use Rattle.ud_engine.proofs.LinePartLemmas.{reads_so_far}
use Rattle.std.proofs.lemmas.Grind.{common_steps}

-- The output by a printer's definition is the outcome's.
pub same_text : (q : Listing) (s : Settings) (xs : List (Item Reading)) (t : Tree Reading) → text_by q (piece_after (style_of s)) xs t ≡ output_by q s xs t
same_text q s xs t = grind arith

same_differs : (q : Listing) (s : Settings) (xs : List (Item Reading)) (t : Tree Reading) → differs_in q (piece_after (style_of s)) xs t ≡ differs_by q s xs t
same_differs q s xs t = grind arith

module _ (o : Options) where
  abbrev pub own_piece : List Judged → Judged → List ℕ
  own_piece = piece_after (style_of o.settings)

  -- The session of a run: an engine that prints as the options ask was fed `text`.
  abbrev pub own_session : List ℕ → List ℕ → Session
  own_session text printed = record { options = o; pieces = own_piece; text = text; printed = printed }

  outcome_at : (input : List ℕ) (xs : List (Item Reading)) (t : Tree Reading) (f : Option Fault) (a b : Option (List ℕ)) (result : Result Bool RunFault) (all : List ℕ) →
      ReadsAs o input xs t f → all ≡ text_by o.settings.listing own_piece xs t → Appends a b all → ResultIs result (outcome_of o.settings xs t f) → RunAnswers o input a b result
  outcome_at input xs t f a b result all reads is appended answered = record {
    outcome = outcome_of o.settings xs t f;
    runs = ran_as reads;
    output = subst (λ x. Appends a b x) (is ∙ same_text o.settings.listing o.settings xs t) appended;
    answered = answered;
  }

  -- The text has ended, and has no fault.
  pub ran_well : (a b c : Option (List ℕ)) (given printed : List ℕ) (differs : Bool) → Appends a b printed →
      FinishOk o own_piece given printed b c differs → RunAnswers o given a c (Ok differs)
  ran_well a b c given printed differs before w = grind (arith, common_steps, outcome_at, Appends-trans, same_differs)

  ran_at : (a b c : Option (List ℕ)) (given printed : List ℕ) (f : Fault) (by : RunFault) → text_fault_of by ≡ Some f → Appends a b printed →
      FinishFault o own_piece given printed b c f → RunAnswers o given a c (Err by)
  ran_at a b c given printed f by h k l = grind (arith, outcome_at, Err, Appends-trans)

  -- The text has ended, and has a fault.
  pub ran_ill : (a b c : Option (List ℕ)) (given printed : List ℕ) (failed : Bool) (f : RunFault) → failed ≡ false → Appends a b printed →
      FinishErr o own_piece failed b c given printed f → RunAnswers o given a c (Err f)
  ran_ill a b c given printed failed (Text f) works before w = ran_at a b c given printed (limit_of f) (Text f) refl before w.1
  ran_ill a b c given printed failed (Section f) works before w = ran_at a b c given printed (fault_of f) (Section f) refl before w.1
  ran_ill a b c given printed failed Read works before w = absurd w
  ran_ill a b c given printed failed Write works before w = cc

  ran_stopped : (a b c : Option (List ℕ)) (longer printed more : List ℕ) (f : Fault) (by : RunFault) → text_fault_of by ≡ Some f → Appends a b printed → Appends b c more →
      FaultsAfter o own_piece longer (printed ++ more) f → (later : List ℕ) → RunAnswers o (longer ++ later) a c (Err by)
  ran_stopped a b c longer printed more f by reported before appended w later =
      outcome_at (longer ++ later) w.items w.tree (Some f) a c (Err by) (printed ++ more) (reads_stay later w.reads).1 w.printed_is
      (Appends-trans a b c printed more before appended) (sym reported, λ none. cc)

  -- The text has a fault before its end.
  pub ran_early : (a b c : Option (List ℕ)) (longer printed : List ℕ) (failed : Bool) (f : RunFault) → failed ≡ false → Appends a b printed →
      FeedFails o own_piece failed b c longer printed f → (later : List ℕ) → RunAnswers o (longer ++ later) a c (Err f)
  ran_early a b c longer printed failed (Text f) works before w later = ran_stopped a b c longer printed w.1.0 (limit_of f) (Text f) refl before w.1.2 w.1.1 later
  ran_early a b c longer printed failed (Section f) works before w later = ran_stopped a b c longer printed w.1.0 (fault_of f) (Section f) refl before w.1.2 w.1.1 later
  ran_early a b c longer printed failed Read works before w later = absurd w
  ran_early a b c longer printed failed Write works before w later = cc

  module _ {S : Type 0} (represents : S → List Judged → Type 0) (piece_of : S → List Judged → Judged → List ℕ) (e : EngineState S) (text printed : List ℕ)
      (h : EngineRepresentsBuffered represents piece_of e o own_piece text printed) where
    abbrev so_far : Outcome
    so_far = outcome_of o.settings h.items h.tree None

    right : (q more : List ℕ) (r : Outcome) → q ++ more ≡ text → HasOutcomeSoFar o q r → (f : Option Fault) → r.fault ≡ f → f ≡ None
    right q more r is runs None e₁ = refl
    right q more r is runs (Some f) e₁ =
        let longer : HasOutcomeSoFar o text r = subst (λ x. HasOutcomeSoFar o x r) is (fault_stays o q more r runs f e₁).0 in
        let same : r ≡ so_far = one_run_so_far longer (came_as (reads_so_far represents piece_of o own_piece e text printed h)) in
        let no : r.fault ≡ None = ap (λ (s : Outcome). s.fault) same in
        sym e₁ ∙ no

    -- The output for all before the last chunk is written.
    pub lag : (r₀ r₁ a b c : Option (List ℕ)) (last more : List ℕ) → Consumes r₀ r₁ (text ++ last) → length last ≤ CHUNK_BYTES → Appends a b printed → Appends b c more →
        LagsOneRead o r₀ r₁ a c
    lag r₀ r₁ a b c last more consumed few before after =
        let n : ℕ = length (text ++ last) - CHUNK_BYTES in
        let len = length-append text last in
        let within : n ≤ length text = omega (arith, len, few) in
        let prefix : all_but_last_chunk (text ++ last) ≡ take n text = take-append-le n text last within in
        let joined : all_but_last_chunk (text ++ last) ++ drop n text ≡ text = ap (λ x. x ++ drop n text) prefix ∙ take-append-drop n text in
        let r : (r : Outcome) × HasOutcomeSoFar o (all_but_last_chunk (text ++ last)) r = run_so_far_exists o (all_but_last_chunk (text ++ last)) in
        let grown : (rest : List ℕ) × (so_far.output ≡ r.0.output ++ rest) =
        prints_further o (all_but_last_chunk (text ++ last)) (drop n text) r.1 (subst (λ x. HasOutcomeSoFar o x so_far) (sym joined) (came_as (reads_so_far represents piece_of o own_piece e text printed h))) in
        record {
          given = text ++ last;
          consumed = consumed;
          outcome = r.0;
          runs = r.1;
          right = right (all_but_last_chunk (text ++ last)) (drop n text) r.0 joined r.1 r.0.fault refl;
          more = grown.0 ++ more;
          appended = grind (arith, common_steps);
        }

    -- The more is fed, the less fits below the limits.
    pub fed_room : (f : EngineState S) (bytes later : List ℕ) → EngineRepresentsBuffered represents piece_of f o own_piece (text ++ bytes) later → 0 < length bytes → bytes_to_limit f.lines < bytes_to_limit e.lines
    fed_room f bytes later k some = search (rules, grows, length-append)

  -- Whatever the result of a chunk, something was appended.
  pub feed_appended : (failed : Bool) (b c : Option (List ℕ)) (longer printed : List ℕ) (f : RunFault) → FeedFails o own_piece failed b c longer printed f → (x : List ℕ) × Appends b c x
  feed_appended failed b c longer printed f h = grind arith

  module _ (a b c : Option (List ℕ)) (given printed : List ℕ) (failed : Bool) (before : Appends a b printed) where
    -- The end of the text.
    pub ended_ran : (r : Result Bool RunFault) → Finishes (own_session given printed) failed b c r → failed ≡ false → RunAnswers o given a c r
    ended_ran (Ok d) w works = ran_well a b c given printed d before w
    ended_ran (Err f) w works = ran_ill a b c given printed failed f works before w

    pub ended_appended : (r : Result Bool RunFault) → Finishes (own_session given printed) failed b c r → (x : List ℕ) × Appends b c x
    ended_appended r h = grind arith
