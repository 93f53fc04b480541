-- The end of a run, by what its engine was fed.
use Rattle.std.proofs.Common.{◌≡◌, inl, inr, ℕ, Bool, List, ◌++◌, Option, Some, None, Result, Ok, Err, refl, ◌∙◌, subst}
use Rattle.std.specs.Io.KnownBytes.{Appends, IsAtEnd}
use Rattle.std.proofs.KnownBytes.{Appends-trans}
use Rattle.ud_model.specs.text.Scans.{Reading}
use Rattle.ud_model.specs.sections.Tree.{Item, Tree}
use Rattle.ud_model.specs.sections.Items.{Options}
use Rattle.ud_model.specs.sections.Faults.{Fault}
use Rattle.ud_model.specs.answer.Printing.{Judged}
use Rattle.ud_model.specs.answer.Outcomes.{outcome_of, output_by, ran_as, came_as}
use Rattle.ud_text.specs.lines.LimitFaults.{limit_of}
use Rattle.ud_sections.specs.sections.SectionFaults.{fault_of}
use Rattle.ud_engine.specs.declared.fault.RunFault.{RunFault}
use Rattle.ud_engine.specs.declared.fault.RunFault.TheVariants.{Text, Section, Read, Write}
use Rattle.ud_engine.specs.Finishing.{FinishFault, FinishErr, Finishes}
use Rattle.ud_engine.specs.Feeding.{EngineState, EngineRepresentsBuffered, FeedFails, FaultsAfter}
use Rattle.ud_engine.specs.ProcessedLines.{text_by}
use Rattle.ud_engine.specs.Runs.{PrintsSoFar, StoppedAtFault, EndsWith, in_course, at_end}
use Rattle.ud_io.specs.Watched.{AppendsPrefix}
use Rattle.ud_engine.proofs.RunLemmas.{own_piece, own_session, same_text, ran_well}
use Rattle.ud_io.proofs.BufferingLemmas.{prefix_of_second}
use Rattle.ud_engine.proofs.LinePartLemmas.{reads_so_far}

module _ (o : Options) where
  -- The bytes that were printed for these lines are their output.
  appended_is : (xs : List (Item Reading)) (t : Tree Reading) (f : Option Fault) (a c : Option (List ℕ)) (all : List ℕ) →
      all ≡ text_by o.settings.listing (own_piece o) xs t → Appends a c all → Appends a c (outcome_of o.settings xs t f).output
  appended_is xs t f a c all is h = subst (λ x. Appends a c x) (is ∙ same_text o.settings.listing o.settings xs t) h

  -- A read failed.
  pub printed_so_far : {S : Type 0} (represents : S → List Judged → Type 0) (piece_of : S → List Judged → Judged → List ℕ) (e : EngineState S) (text printed : List ℕ) →
      (h : EngineRepresentsBuffered represents piece_of e o (own_piece o) text printed) → (a b : Option (List ℕ)) → Appends a b printed → PrintsSoFar o text a b
  printed_so_far represents piece_of e text printed h a b before = record {
    outcome = outcome_of o.settings h.items h.tree None;
    runs = came_as (reads_so_far represents piece_of o (own_piece o) e text printed h);
    right = refl;
    appended = appended_is h.items h.tree None a b printed h.printed_is before;
  }

  module _ (left a b c : Option (List ℕ)) (printed : List ℕ) (before : Appends a b printed) where
    -- A write failed, after the output for some lines before.
    front_is : (xs : List (Item Reading)) (t : Tree Reading) (more : List ℕ) → printed ++ more ≡ text_by o.settings.listing (own_piece o) xs t → AppendsPrefix b c more →
        AppendsPrefix a c (output_by o.settings.listing o.settings xs t)
    front_is xs t more is prefix =
        subst (λ x. AppendsPrefix a c x) (is ∙ same_text o.settings.listing o.settings xs t) (prefix_of_second a b c printed more before prefix)

    fault_found : (longer more : List ℕ) (f : Fault) → FaultsAfter o (own_piece o) longer (printed ++ more) f → Appends b c more → StoppedAtFault o longer left a c f
    fault_found longer more f s after = record {
      outcome = outcome_of o.settings s.items s.tree (Some f);
      runs = inl (came_as s.reads);
      fault = refl;
      appended = appended_is s.items s.tree (Some f) a c (printed ++ more) s.printed_is (Appends-trans a b c printed more before after);
    }

    -- A chunk is faulty, or a write failed.
    pub fed_ends : (failed : Bool) (longer : List ℕ) (f : RunFault) → FeedFails o (own_piece o) failed b c longer printed f → EndsWith o longer left a c (Err f)
    fed_ends failed longer (Text f) w = fault_found longer w.1.0 (limit_of f) w.1.1 w.1.2
    fed_ends failed longer (Section f) w = fault_found longer w.1.0 (fault_of f) w.1.1 w.1.2
    fed_ends failed longer Read w = absurd w
    fed_ends failed longer Write w = let r = w.1.1 in
        in_course r.lines r.later r.are (record { items = r.items; tree = r.tree; goes = r.goes; prefix = front_is r.items r.tree w.1.0 (r.printed_is) w.1.2 })

    end_found : (given : List ℕ) (f : Fault) → IsAtEnd left → FinishFault o (own_piece o) given printed b c f → StoppedAtFault o given left a c f
    end_found given f ended e = record {
      outcome = outcome_of o.settings e.items e.tree (Some f);
      runs = inr (ended, ran_as e.reads);
      fault = refl;
      appended = appended_is e.items e.tree (Some f) a c (printed ++ e.more) e.printed_is (Appends-trans a b c printed e.more before e.appended);
    }

    end_fails : (failed : Bool) (given : List ℕ) → IsAtEnd left → (f : RunFault) → FinishErr o (own_piece o) failed b c given printed f → EndsWith o given left a c (Err f)
    end_fails failed given ended (Text f) w = end_found given (limit_of f) ended w.1
    end_fails failed given ended (Section f) w = end_found given (fault_of f) ended w.1
    end_fails failed given ended Read w = absurd w
    end_fails failed given ended Write w =
        at_end ended (record { items = w.1.items; tree = w.1.tree; goes = w.1.goes; prefix = front_is w.1.items w.1.tree w.1.more w.1.printed_is w.1.prefix })

    -- The text has ended.
    pub end_ends : (failed : Bool) (given : List ℕ) → IsAtEnd left → (r : Result Bool RunFault) → Finishes (own_session o given printed) failed b c r → EndsWith o given left a c r
    end_ends failed given ended (Ok d) w = (ended, ran_well o a b c given printed d before w)
    end_ends failed given ended (Err f) w = end_fails failed given ended f w
