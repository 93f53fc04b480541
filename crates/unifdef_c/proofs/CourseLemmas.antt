-- CourseLemmas: the course of a text in chunks, and its answer.
use Rattle.std.proofs.Common.{◌≡◌, ◌≤◌, ◌∙◌, refl, sym, ap, ap₂, subst, ℕ, List, [], ◌++◌, length, take, drop, Bool, false, Option, None, Some, Result, Ok, Err, append_assoc, arith}
use Rattle.std.proofs.lemmas.List.{drop-append-le, take-append-drop}
use Rattle.std.specs.Prelude.{IfSome}
use Rattle.std.proofs.lemmas.Option.{none-some}
use Rattle.std.proofs.lemmas.Grind.{common_steps}
use Rattle.ud_model.specs.answer.CommandLine.{usage_fault, options_of, display_name}
use Rattle.ud_model.specs.answer.Answer.{Answer, IsAnswer, ran, run_answer}
use Rattle.ud_engine.specs.declared.fault.RunFault.{RunFault}
use Rattle.ud_engine.specs.declared.fault.RunFault.TheVariants.{Text, Section, Read, Write}
use Rattle.ud_engine.specs.Feeding.{FeedFails, Session, WriterMatches}
use Rattle.ud_model.specs.sections.Faults.{Fault}
use Rattle.ud_engine.specs.Finishing.{FinishFault, Finishes, RunAnswers}
use Rattle.ud_engine.proofs.RunLemmas.{own_piece, own_session, ran_early, ended_ran}
use Rattle.unifdef.specs.RunMessages.{result_message, result_status}
use Rattle.unifdef.proofs.HeadlineLemmas.{tells_outcome}
use Rattle.unifdef_c.proofs.TextCallLemmas.{parts_are}
use Rattle.unifdef_c.specs.Streams.{BeginsStream, FeedsEngine, FeedsStream, TakesStream, FinishesStream, EndsStream, InSession, session, pending, output_of, fed_of, by_engine, has_failed, has_ended, by_end, after_failure}
use Rattle.unifdef_c.specs.StreamCourses.{IsOf, GoesOn, HasStopped, IsAnswerOf}
use Rattle.unifdef_c.specs.declared.stream.Stream.{Stream}
use Rattle.unifdef_c.specs.declared.stream.Fed.{Fed}
use Rattle.unifdef_c.specs.declared.stream.Fed.TheVariants as is

-- a new stream goes on
pub begins : (args : List (List ℕ)) (s : Stream) → BeginsStream args s → GoesOn args [] [] s
begins args s b = grind arith

-- what is pending grows as the output does
grown : (s t : Stream) (more : List ℕ) → t.taken ≡ s.taken → output_of t ≡ output_of s ++ more → s.taken ≤ length (output_of s) → pending t ≡ pending s ++ more
grown s t more e a w = ap₂ (λ n xs. drop n xs) e a ∙ drop-append-le s.taken (output_of s) more w

joined : (given : List ℕ) (s t : Stream) (more : List ℕ) → t.taken ≡ s.taken → output_of t ≡ output_of s ++ more → s.taken ≤ length (output_of s) →
    given ++ pending t ≡ (given ++ pending s) ++ more
joined given s t more e a w = ap (λ x. given ++ x) (grown s t more e a w) ∙ sym (append_assoc given (pending s) more)

module _ (args : List (List ℕ)) (text given chunk : List ℕ) (s t : Stream) where
  -- the next stream is of the same arguments
  next_of : IsOf args s → t ≡ record s { engine = t.engine; output = t.output } → t.output.failed ≡ false → s.taken ≤ length (output_of t) → IsOf args t
  next_of o rest works within = grind arith

  -- at least as much as was taken is output
  longer_output : (more : List ℕ) → IsOf args s → output_of t ≡ output_of s ++ more → s.taken ≤ length (output_of t)
  longer_output more o a = grind (arith, common_steps)

  feeds_by : (r : Result (Unit {0}) RunFault) → GoesOn args text given s → FeedsEngine s t chunk r → fed_of r ≡ is.Accepted → GoesOn args (text ++ chunk) given t
  feeds_by (Ok u) g e k =
      let goes = e.feeds (session (options_of args) text (given ++ pending s)) g.fed in
      record {
        of = next_of g.of e.rest (works_on u g e) (longer_output goes.more g.of goes.appended);
        fed = subst (λ (x : List ℕ). InSession t (session (options_of args) (text ++ chunk) x))
            (sym (joined given s t goes.more (ap (λ x. x.taken) e.rest) goes.appended g.of.within)) goes.fed;
      }
    where
      works_on : (u : Unit {0}) → GoesOn args text given s → FeedsEngine s t chunk (Ok u) → t.output.failed ≡ false
      works_on u g e = e.writer g.fed.works
  feeds_by (Err (Text f)) g e k = cc
  feeds_by (Err (Section f)) g e k = cc
  feeds_by (Err Read) g e k = cc
  feeds_by (Err Write) g e k = cc

  pub feeds : (fed : Fed) → GoesOn args text given s → FeedsStream s t chunk fed → fed ≡ is.Accepted → GoesOn args (text ++ chunk) given t
  feeds _ g (by_engine r none works e) k = feeds_by r g e k
  feeds _ g (has_failed none fails same) k = cc
  feeds _ g (has_ended r some same) k = cc

  -- a fault of the text, however it goes on
  stopped_at : (by : RunFault) (more : List ℕ) (g : GoesOn args text given s) (e : FeedsEngine s t chunk (Err by)) → t.output.failed ≡ false → output_of t ≡ output_of s ++ more →
      FeedFails (options_of args) (own_piece (options_of args)) t.output.failed (Some (given ++ pending s)) (Some (given ++ pending t)) (text ++ chunk) (given ++ pending s) by →
      HasStopped args (text ++ chunk) given t by
  stopped_at by more g e works a fails = record {
    of = next_of g.of e.rest works (longer_output more g.of a);
    recorded = e.records_fault;
    answers = λ later. ran_early (options_of args) (Some []) (Some (given ++ pending s)) (Some (given ++ pending t)) (text ++ chunk) (given ++ pending s) t.output.failed by works refl fails later;
  }

  stops_by : (r : Result (Unit {0}) RunFault) → GoesOn args text given s → FeedsEngine s t chunk r → fed_of r ≡ is.Faulty → (f : RunFault) × HasStopped args (text ++ chunk) given t f
  stops_by (Ok u) g e k = cc
  stops_by (Err (Text f)) g e k =
      let w = e.feeds (session (options_of args) text (given ++ pending s)) g.fed in
      let j = joined given s t w.1.0 (ap (λ x. x.taken) e.rest) w.1.2 g.of.within in
      (Text f, stopped_at (Text f) w.1.0 g e w.0 w.1.2 (w.0, (w.1.0, w.1.1, j)))
  stops_by (Err (Section f)) g e k =
      let w = e.feeds (session (options_of args) text (given ++ pending s)) g.fed in
      let j = joined given s t w.1.0 (ap (λ x. x.taken) e.rest) w.1.2 g.of.within in
      (Section f, stopped_at (Section f) w.1.0 g e w.0 w.1.2 (w.0, (w.1.0, w.1.1, j)))
  stops_by (Err Read) g e k = absurd (e.feeds (session (options_of args) text (given ++ pending s)) g.fed)
  stops_by (Err Write) g e k = cc

  pub stops : (fed : Fed) → GoesOn args text given s → FeedsStream s t chunk fed → fed ≡ is.Faulty → (f : RunFault) × HasStopped args (text ++ chunk) given t f
  stops fed g h k = grind (arith, stops_by)

-- what is taken moves from what is pending
moved : (given buffer buffer' : List ℕ) (n : ℕ) (s t : Stream) → TakesStream s t buffer buffer' n →
    given ++ pending s ≡ (given ++ take n (pending s)) ++ pending t
moved given buffer buffer' n s t w = grind (arith, common_steps, take-append-drop)

module _ (args : List (List ℕ)) (text given buffer buffer' : List ℕ) (n : ℕ) (s t : Stream)
    (w : TakesStream s t buffer buffer' n) where
  -- the stream is of the same arguments
  still_of : IsOf args s → IsOf args t
  still_of o = grind arith

  pub takes : GoesOn args text given s → GoesOn args text (given ++ take n (pending s)) t
  takes g = grind (arith, common_steps, still_of, moved)

  pub stopped_takes : (f : RunFault) → HasStopped args text given s f →
      HasStopped args text (given ++ take n (pending s)) t f
  stopped_takes f h = record {
    of = still_of h.of;
    recorded = ap (λ x. x.engine.fault) w.rest ∙ h.recorded;
    answers = λ later. subst (λ (x : List ℕ). RunAnswers (options_of args) (text ++ later) (Some [])
        (Some x) (Err f)) (moved given buffer buffer' n s t w) (h.answers later);
  }

  pub ended_takes : (r : Result Bool RunFault) → IsAnswerOf args text given s r →
      IsAnswerOf args text (given ++ take n (pending s)) t r
  ended_takes r a = grind (arith, common_steps, moved)

-- the outcome of a run is the answer
is_answer : (args : List (List ℕ)) (input out : List ℕ) (r : Result Bool RunFault) → usage_fault args ≡ None → RunAnswers (options_of args) input (Some []) (Some out) r →
    IsAnswer args input (record { output = out; message = result_message (display_name args) r; status = result_status (options_of args).settings r })
is_answer args input out r right w = let name = display_name args in
    let set = (options_of args).settings in
    let tells = tells_outcome name set r w.outcome w.answered in
    subst (λ (a : Answer). IsAnswer args input a)
    (parts_are (run_answer set name w.outcome) out (result_message name r) (result_status set r) w.output tells.message tells.status)
    (ran w.outcome right w.runs)

-- the stream has the name and the settings of the arguments
of_stream : (args : List (List ℕ)) (text given : List ℕ) (t : Stream) (r : Result Bool RunFault) → t.name.items ≡ display_name args → t.settings ≡ (options_of args).settings →
    IsAnswer args text (record { output = given ++ pending t; message = result_message (display_name args) r; status = result_status (options_of args).settings r }) →
    IsAnswerOf args text given t r
of_stream args text given t r named set w = grind arith

module _ (args : List (List ℕ)) (text given : List ℕ) (s t : Stream) where
  abbrev own : Session
  own = own_session (options_of args) text (given ++ pending s)

  -- what the engine printed before a fault is part of what is pending
  shifted_fault : (f : Fault) → s.taken ≤ length (output_of s) → t.taken ≡ s.taken →
      FinishFault own.options own.pieces own.text own.printed (Some (output_of s)) (Some (output_of t)) f →
      FinishFault own.options own.pieces own.text own.printed (Some (given ++ pending s)) (Some (given ++ pending t)) f
  shifted_fault f within k w = grind (arith, joined)

  -- what the engine printed last is part of what is pending
  shifted : (failed : Bool) (r : Result Bool RunFault) → ¬ (r ≡ Err Write) → s.taken ≤ length (output_of s) → t.taken ≡ s.taken →
      Finishes own failed (Some (output_of s)) (Some (output_of t)) r → Finishes own failed (Some (given ++ pending s)) (Some (given ++ pending t)) r
  shifted failed r uncut within k w = grind (arith, joined, shifted_fault)

  works_at_end : (failed : Bool) (r : Result Bool RunFault) → ¬ (r ≡ Err Write) → WriterMatches failed r → failed ≡ false
  works_at_end failed r uncut m = grind arith

  answers_by : (r : Result Bool RunFault) → GoesOn args text given s → FinishesStream s t r → ¬ (r ≡ Err Write) → IsAnswerOf args text given t r
  answers_by r g (by_end r' works e) uncut = let o = options_of args in
      let ends = shifted t.output.failed r uncut g.of.within (ap (λ x. x.taken) e.rest) (e.finishes (session o text (given ++ pending s)) g.fed) in
      of_stream args text given t r (ap (λ x. x.name.items) e.rest ∙ g.of.named) (ap (λ x. x.settings) e.rest ∙ g.of.set) (is_answer args text (given ++ pending t) r g.of.right
      (ended_ran o (Some []) (Some (given ++ pending s)) (Some (given ++ pending t)) text (given ++ pending s)
      t.output.failed refl r ends (works_at_end t.output.failed r uncut (e.writer g.fed.works))))
  answers_by _ g (after_failure fails rest) uncut = absurd (uncut refl)

  pub answers : (r : Result Bool RunFault) → GoesOn args text given s → EndsStream s t r → ¬ (r ≡ Err Write) → IsAnswerOf args text given t r
  answers r g h uncut = grind (arith, answers_by, none-some)

  at_fault : (P : RunFault → Type 0) (x : Option RunFault) (f : RunFault) → x ≡ Some f → IfSome x P → P f
  at_fault P x f e p = subst (λ (y : Option RunFault). IfSome y P) e p

  stopped_by : (later : List ℕ) (f : RunFault) (r : Result Bool RunFault) → HasStopped args text given s f → FinishesStream s t r → IsAnswerOf args (text ++ later) given t r
  stopped_by later f r h (by_end r' works e) = grind (arith, at_fault, is_answer, of_stream)
  stopped_by later f _ h (after_failure fails rest) = let works = h.of.works in cc

  pub stopped : (later : List ℕ) (f : RunFault) (r : Result Bool RunFault) → HasStopped args text given s f → EndsStream s t r → IsAnswerOf args (text ++ later) given t r
  stopped later f r h k = grind (arith, stopped_by, none-some)

  -- a chunk after a fault changes nothing
  pub stopped_feeds : (chunk : List ℕ) (fed : Fed) (f : RunFault) → HasStopped args text given s f →
      FeedsStream s t chunk fed → HasStopped args text given t f
  stopped_feeds chunk _ f h (by_engine r none works e) = grind (arith, at_fault)
  stopped_feeds chunk _ f h (has_failed none fails same) = grind arith
  stopped_feeds chunk _ f h (has_ended r some same) = grind arith
