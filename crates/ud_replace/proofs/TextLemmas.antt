-- The outcome of a text: of the run over it, of its folded text, and with squeezed blank lines.
use Rattle.std.proofs.Common.{◌≡◌, ℕ, List, [], Bool, true, false, ◌||◌, ◌&&◌, if◌then◌else◌, bytes_eq, Option, None, Some, Result, Ok, Err, refl, sym, ap, ap₂, ◌∙◌, subst, ◌⊎◌, inl, inr, arith}
use Rattle.std.specs.Prelude.{nat_lt, not, is_none, MatchResult}
use Rattle.std.specs.Global.{Vec}
use Rattle.std.specs.Result.{IsErrAnd}
use Rattle.std.proofs.lemmas.Slice.Eq.{bytes_eq-Decides}
use Rattle.std.proofs.lemmas.Bool.{false≢true, and_parts}
use Rattle.ud_model.specs.text.Lines.{texts_of}
use Rattle.ud_model.specs.sections.Faults.{Fault}
use Rattle.ud_model.specs.sections.Items.{Options, rules_of}
use Rattle.ud_model.specs.declared.settings.Settings.{Settings}
use Rattle.ud_model.specs.declared.settings.Listing.{Listing}
use Rattle.ud_model.specs.declared.settings.Listing.TheVariants.{Off, Names, Depths}
use Rattle.ud_model.specs.answer.Outcomes.{Outcome, HasOutcome}
use Rattle.ud_model.proofs.output.Changed.{changed}
use Rattle.ud_model.proofs.sections.Exists.{run_exists}
use Rattle.ud_model.proofs.sections.Soundness.{one_run}
use Rattle.ud_simplified.specs.FoldedTexts.{folded_text, restored_text}
use Rattle.ud_engine.specs.declared.fault.RunFault.{RunFault}
use Rattle.ud_engine.specs.declared.fault.RunFault.TheVariants.{Text as TextFault, Section, Read as ReadFault, Write as WriteFault}
use Rattle.ud_engine.specs.Finishing.{RunAnswers}
use Rattle.ud_engine.specs.Runs.{ErrorMatchesStreams}
use Rattle.ud_passes.specs.pruning.PrunedTexts.{pruned_text, edited_count}
use Rattle.ud_passes.specs.squeezing.SqueezedTexts.{squeezed_text, squeezed_marks}
use Rattle.ud_replace.specs.declared.error.ReplaceError.{ReplaceError}
use Rattle.ud_replace.specs.declared.error.ReplaceError.TheVariants.{Text, OutOfMemory}
use Rattle.ud_replace.specs.declared.outcome.Outcome.{Outcome as Made}
use Rattle.ud_replace.specs.Marks.{AreMarks}
use Rattle.ud_replace.specs.FoldedMarks.{unfolded}
use Rattle.ud_replace.specs.TextOutcomes.{TextOptions, TextOutcome, unpruned, pruned, printed, HasMarks, may_fold, goes_back, comes_back, IsFolded, StaysUnfolded, folded, HasPrinted, as_printed, HasUnsqueezed, as_read, as_folded, is_off, goes_squeezed, squeezed, HasMarkedOutcome, as_it_is, as_squeezed, error_of, FailsBy, over_faulty, over_memory, FailsOver}
use Rattle.ud_replace.specs.MadeOutcomes.{output_in, IsSameText, IsMade, IsPrunedBy, as_it_was, without_operands, IsRestored, RestoresTo, IsFoldedBy}
use Rattle.ud_replace.specs.UnprunedRuns.{RunsUnpruned, FailsUnpruned, run_faulty, no_memory_left, IsSpared, IsUnnamed}
use Rattle.ud_replace.proofs.MarkLemmas.{marks_exist, one_marks}
use Rattle.ud_replace.proofs.StepLemmas.{works}
use Rattle.ud_replace.proofs.UnnamedTexts.{text_quiet, folded_quiet, none_pruned, copies}

-- A run that ended at the text's fault, while its reader and its writer worked.
faulty_run : (o : Options) (input text : List ℕ) (before left : Option (List ℕ)) (reader writer : Bool) (f : RunFault) → input ≡ text →
    ErrorMatchesStreams reader writer (Err f) → (reader ≡ false → writer ≡ false → RunAnswers o input before left (Err f)) →
    ¬ (f ≡ ReadFault) → ¬ (f ≡ WriteFault) → FailsUnpruned o text (Text f)
faulty_run o input text before left reader writer f e m ran no_read no_write =
    let reads = works reader (Err f) ReadFault f m.read_fails.0 refl no_read in
    let writes = works writer (Err f) WriteFault f m.write_fails.0 refl no_write in
    let h = ran reads writes in
    subst (λ (t : List ℕ). FailsUnpruned o t (Text f)) e (run_faulty h.outcome f h.runs h.answered.0 h.answered.1)

-- A run that ended with an error is that of the text, or one of memory.
pub fails_unpruned : (o : Options) (input text : List ℕ) (before left : Option (List ℕ)) (reader writer : Bool) (f : RunFault) → input ≡ text →
    ErrorMatchesStreams reader writer (Err f) → (reader ≡ false → writer ≡ false → RunAnswers o input before left (Err f)) →
    FailsUnpruned o text (error_of f)
fails_unpruned o input text before left reader writer (TextFault t) e m ran =
    faulty_run o input text before left reader writer (TextFault t) e m ran (λ q. absurd cc) (λ q. absurd cc)
fails_unpruned o input text before left reader writer (Section t) e m ran =
    faulty_run o input text before left reader writer (Section t) e m ran (λ q. absurd cc) (λ q. absurd cc)
fails_unpruned o input text before left reader writer ReadFault e m ran = no_memory_left
fails_unpruned o input text before left reader writer WriteFault e m ran = no_memory_left

-- 1. The run over a text as it is.

-- A run's fault stays, whether or not its conditions are pruned.
printed_fault : (o : TextOptions) (a : Outcome) → (printed o a).fault ≡ a.fault
printed_fault o a = by_test (o.prunes && is_none a.fault)
  where
    by_test : (b : Bool) → (if b then pruned o.run a else unpruned a).fault ≡ a.fault
    by_test true = refl
    by_test false = refl

-- A text with a fault has no marks.
no_marks : (o : Options) (text : List ℕ) (f : Option Fault) → ¬ (f ≡ None) → HasMarks o text f []
no_marks o text None some = absurd (some refl)
no_marks o text (Some f) some = refl

marks_of_none : {o : Options} {text : List ℕ} {f : Option Fault} {ms : List ℕ} → f ≡ None → AreMarks o text ms → HasMarks o text f ms
marks_of_none {o = o} {text = text} {ms = ms} none are = subst (λ (f : Option Fault). HasMarks o text f ms) (sym none) are

none_of_marks : {o : Options} {text : List ℕ} {f : Option Fault} {ms : List ℕ} → f ≡ None → HasMarks o text f ms → AreMarks o text ms
none_of_marks {o = o} {text = text} {ms = ms} none are = subst (λ (f : Option Fault). HasMarks o text f ms) none are

-- A run that failed has the fault of the printed outcome.
pub fails_printed : (o : TextOptions) {text : List ℕ} {e : ReplaceError} → FailsUnpruned o.run text e → FailsBy (HasPrinted o text) e
fails_printed o {text = text} (run_faulty a f has is some) =
    over_faulty (printed o a) [] f (as_printed has (no_marks o.run text a.fault some)) (printed_fault o a ∙ is) (λ q. some (sym (printed_fault o a) ∙ q))
fails_printed o no_memory_left = over_memory

-- `Prints o text made`: `made` holds the printed outcome of a text, whose marks aren't known yet.
pub record Prints (o : TextOptions) (text : List ℕ) (made : Made) : Type 0 where
  pub outcome : Outcome
  pub runs : HasOutcome o.run text outcome
  pub faultless : outcome.fault ≡ None
  pub output_is : output_in made text ≡ (printed o outcome).output
  pub differs_is : made.differs ≡ (printed o outcome).differs
  pub edited_is : made.edited ≡ (printed o outcome).edited

printed_whole : (o : TextOptions) (a : Outcome) → o.prunes ≡ false → printed o a ≡ unpruned a
printed_whole o a off = ap (λ (b : Bool). if b && is_none a.fault then pruned o.run a else unpruned a) off

printed_pruned : (o : TextOptions) (a : Outcome) → o.prunes ≡ true → a.fault ≡ None → printed o a ≡ pruned o.run a
printed_pruned o a on none =
    ap (λ (b : Bool). if b && is_none a.fault then pruned o.run a else unpruned a) on
    ∙ ap (λ (f : Option Fault). if is_none f then pruned o.run a else unpruned a) none

pub prints : (o : TextOptions) {text out : List ℕ} {d : Bool} {made : Made} → RunsUnpruned o.run text [] out d → IsPrunedBy o out d made → Prints o text made
prints o {text = text} h (as_it_was off is same edited) =
    let p = sym (printed_whole o h.outcome off) in
    record {
      outcome = h.outcome;
      runs = h.runs;
      faultless = h.faultless;
      output_is = is text ∙ h.appended ∙ ap (λ (r : TextOutcome). r.output) p;
      differs_is = same ∙ h.differs_is ∙ ap (λ (r : TextOutcome). r.differs) p;
      edited_is = edited ∙ ap (λ (r : TextOutcome). r.edited) p;
    }
prints o {text = text} {out = out} {d = d} {made = made} h (without_operands on is edited differs) =
    let p = sym (printed_pruned o h.outcome on h.faultless) in
    let n : made.edited ≡ edited_count o.run.table (rules_of o.run.settings) h.outcome.output =
    edited ∙ ap (edited_count o.run.table (rules_of o.run.settings)) h.appended in
    record {
      outcome = h.outcome;
      runs = h.runs;
      faultless = h.faultless;
      output_is = is text ∙ ap (pruned_text o.run.table (rules_of o.run.settings)) h.appended ∙ ap (λ (r : TextOutcome). r.output) p;
      differs_is = differs ∙ ap (λ (b : Bool). b || nat_lt 0 made.edited) h.differs_is
          ∙ ap (λ (k : ℕ). h.outcome.differs || nat_lt 0 k) n ∙ ap (λ (r : TextOutcome). r.differs) p;
      edited_is = n ∙ ap (λ (r : TextOutcome). r.edited) p;
    }

-- Other marks change nothing about the output.
pub remarked : {o : TextOptions} {text : List ℕ} {made : Made} (ns : Vec ℕ) → Prints o text made → Prints o text (record made { marks = ns })
remarked ns h = record {
  outcome = h.outcome;
  runs = h.runs;
  faultless = h.faultless;
  output_is = h.output_is;
  differs_is = h.differs_is;
  edited_is = h.edited_is;
}

-- Its marks aren't wanted.
pub printed_unmarked : (o : TextOptions) {text : List ℕ} {marked : Bool} {made : Made} → Prints o text made →
    (marked ≡ true → made.differs ≡ true → o.run.settings.listing ≡ Off → ⊥) → IsMade o text marked (HasPrinted o text) made
printed_unmarked o {text = text} h unwanted = let m = marks_exist o.run text h.runs h.faultless in
    record {
      outcome = printed o h.outcome;
      marks = m.0;
      runs = as_printed h.runs (marks_of_none h.faultless m.1);
      faultless = printed_fault o h.outcome ∙ h.faultless;
      output_is = h.output_is;
      differs_is = h.differs_is;
      edited_is = h.edited_is;
      marks_are = λ wanted differs off. absurd (unwanted wanted differs off);
    }

-- Its marks were made.
pub printed_marked : (o : TextOptions) {text : List ℕ} {marked : Bool} {made : Made} → Prints o text made → AreMarks o.run text made.marks.items →
    IsMade o text marked (HasPrinted o text) made
printed_marked o {made = made} h are = record {
  outcome = printed o h.outcome;
  marks = made.marks.items;
  runs = as_printed h.runs (marks_of_none h.faultless are);
  faultless = printed_fault o h.outcome ∙ h.faultless;
  output_is = h.output_is;
  differs_is = h.differs_is;
  edited_is = h.edited_is;
  marks_are = λ wanted differs off. refl;
}

-- An outcome of one relation is one of another that holds more.
pub lift : (o : TextOptions) {text : List ℕ} {marked : Bool} {has more : TextOutcome → List ℕ → Type 0} {made : Made} →
    ((r : TextOutcome) (ms : List ℕ) → has r ms → more r ms) → IsMade o text marked has made → IsMade o text marked more made
lift o up m = record {
  outcome = m.outcome;
  marks = m.marks;
  runs = up m.outcome m.marks m.runs;
  faultless = m.faultless;
  output_is = m.output_is;
  differs_is = m.differs_is;
  edited_is = m.edited_is;
  marks_are = m.marks_are;
}

pub lift_fails : {has more : TextOutcome → List ℕ → Type 0} {e : ReplaceError} →
    ((r : TextOutcome) (ms : List ℕ) → ¬ (r.fault ≡ None) → has r ms → more r ms) → FailsBy has e → FailsBy more e
lift_fails up (over_faulty r ms f h is some) = over_faulty r ms f (up r ms some h) is some
lift_fails up over_memory = over_memory

-- A function fails as one that it called, or for want of memory.
pub fails_only : {X : Type 0} (P : X → Type 0) (Q : ReplaceError → Type 0) (r : Result X ReplaceError) → IsErrAnd r Q → MatchResult r P Q
fails_only P Q (Err x) is = is
fails_only P Q (Ok v) is = absurd is

pub fails_as : {X : Type 0} {has : TextOutcome → List ℕ → Type 0} (P : X → Type 0) (r : Result X ReplaceError) {e : ReplaceError} →
    IsErrAnd r (λ x. x ≡ e) → FailsBy has e → MatchResult r P (FailsBy has)
fails_as {has = has} P (Err x) is h = subst (λ (y : ReplaceError). FailsBy has y) (sym is) h
fails_as P (Ok v) is h = absurd is

pub fails_memory : {X : Type 0} (has : TextOutcome → List ℕ → Type 0) (P : X → Type 0) (r : Result X ReplaceError) →
    IsErrAnd r (λ x. x ≡ OutOfMemory) → MatchResult r P (FailsBy has)
fails_memory has P r is = fails_as P r is over_memory

-- Nothing is listed.
pub listing_off : (l : Listing) → is_off l ≡ true → l ≡ Off
listing_off Off e = refl
listing_off Names e = absurd cc
listing_off Depths e = absurd cc

-- 2. Folded texts.

-- A text that pruning leaves isn't folded.
pub spared_unfolded : (o : TextOptions) (text : List ℕ) → IsSpared o text → StaysUnfolded o text
spared_unfolded o text spared = λ a i. let u = spared i.prunes in
    false≢true (sym (itself text (folded_text text) u.unfolded) ∙ i.goes)
  where
    itself : (t lines : List ℕ) → lines ≡ t → goes_back lines t ≡ false
    itself t lines e = grind (arith, bytes_eq-Decides)

-- Without pruning, no text is folded.
pub unpruned_unfolded : (o : TextOptions) (text : List ℕ) → o.prunes ≡ false → StaysUnfolded o text
unpruned_unfolded o text off = λ a i. false≢true (sym off ∙ i.prunes)

-- Nor is one in a run that reads no C or counts lines, or one that doesn't go back.
pub may_unfolded : (o : TextOptions) (text : List ℕ) → may_fold o.run.settings ≡ false → StaysUnfolded o text
may_unfolded o text off = λ a i. false≢true (sym off ∙ i.may)

pub gone_unfolded : (o : TextOptions) (text : List ℕ) → goes_back (folded_text text) text ≡ false → StaysUnfolded o text
gone_unfolded o text off = λ a i. false≢true (sym off ∙ i.goes)

module _ (o : TextOptions) (text lines : List ℕ) (on : o.prunes ≡ true) (may : may_fold o.run.settings ≡ true) (is : lines ≡ folded_text text)
    (goes : goes_back (folded_text text) text ≡ true) where
  -- The output of the run over the folded text comes from it alone.
  same_run : (a b : Outcome) → HasOutcome o.run lines a → IsFolded o text b → b ≡ a
  same_run a b has i = one_run (subst (λ (x : List ℕ). HasOutcome o.run x b) (sym is) i.runs) has

  -- The folded text has a fault.
  pub faulty_unfolded : {e : ReplaceError} (f : RunFault) → e ≡ Text f → FailsBy (HasPrinted o lines) e → StaysUnfolded o text
  faulty_unfolded f e (over_faulty _ ms g (as_printed {a} has marks) named some) =
      λ b i. some (printed_fault o a ∙ sym (ap (λ (x : Outcome). x.fault) (same_run a b has i)) ∙ i.faultless)
  faulty_unfolded f e over_memory = absurd cc

  -- Its output doesn't come back.
  pub other_unfolded : {marked : Bool} {ran : Made} → IsMade o lines marked (HasPrinted o lines) ran → comes_back (output_in ran lines) ≡ false → StaysUnfolded o text
  other_unfolded {ran = ran} m other = by m.outcome m.marks m.runs m.faultless m.output_is
    where
      by : (r : TextOutcome) (ms : List ℕ) → HasPrinted o lines r ms → r.fault ≡ None → output_in ran lines ≡ r.output → StaysUnfolded o text
      by _ ms (as_printed {a} has marks) none output = λ b i.
          let faultless = sym (printed_fault o a) ∙ none in
          false≢true (sym other ∙ ap comes_back (output ∙ ap (λ (r : TextOutcome). r.output) (printed_pruned o a on faultless)
          ∙ sym (ap (λ (x : Outcome). (pruned o.run x).output) (same_run a b has i))) ∙ i.comes)

  -- Its output comes back.
  pub is_folded : {marked : Bool} {ran made : Made} → IsMade o lines marked (HasPrinted o lines) ran → comes_back (output_in ran lines) ≡ true →
      IsRestored lines ran made → IsMade o text marked (HasUnsqueezed o text) made
  is_folded {marked = marked} {ran = ran} {made = made} m comes h = by m.outcome m.marks m.runs m.faultless m.output_is m.differs_is m.edited_is m.marks_are
    where
      by : (r : TextOutcome) (ms : List ℕ) → HasPrinted o lines r ms → r.fault ≡ None → output_in ran lines ≡ r.output → ran.differs ≡ r.differs → ran.edited ≡ r.edited →
          (marked ≡ true → ran.differs ≡ true → o.run.settings.listing ≡ Off → ran.marks.items ≡ ms) → IsMade o text marked (HasUnsqueezed o text) made
      by _ ms (as_printed {a} has marks) none output differs edited marks_are =
          let faultless : a.fault ≡ None = sym (printed_fault o a) ∙ none in
          let p : printed o a ≡ pruned o.run a = printed_pruned o a on faultless in
          let out : output_in ran lines ≡ (pruned o.run a).output = output ∙ ap (λ (r : TextOutcome). r.output) p in
          record {
            outcome = folded o.run a;
            marks = unfolded ms (texts_of (folded_text text)) (texts_of (pruned o.run a).output);
            runs = as_folded (record {
              prunes = on;
              may = may;
              goes = goes;
              runs = subst (λ (x : List ℕ). HasOutcome o.run x a) is has;
              faultless = faultless;
              comes = sym (ap comes_back out) ∙ comes;
            }) (subst (λ (x : List ℕ). AreMarks o.run x ms) is (none_of_marks faultless marks));
            faultless = faultless;
            output_is = h.output_is text ∙ ap restored_text out;
            differs_is = h.differs_is ∙ differs ∙ ap (λ (r : TextOutcome). r.differs) p;
            edited_is = h.edited_is ∙ edited ∙ ap (λ (r : TextOutcome). r.edited) p;
            marks_are = λ wanted d off. h.marks_are ∙ ap (λ (ns : List ℕ). unfolded ns (texts_of lines) (texts_of (output_in ran lines))) (marks_are wanted (sym h.differs_is ∙ d) off)
                ∙ ap (λ (x : List ℕ). unfolded ms (texts_of x) (texts_of (output_in ran lines))) is
                ∙ ap (λ (x : List ℕ). unfolded ms (texts_of (folded_text text)) (texts_of x)) out;
          }

-- The run over the folded lines, restored or not.
pub restores : (o : TextOptions) (text lines : List ℕ) {marked : Bool} {ran : Made} → o.prunes ≡ true → may_fold o.run.settings ≡ true → (r : Option Made) →
    lines ≡ folded_text text → goes_back (folded_text text) text ≡ true → IsMade o lines marked (HasPrinted o lines) ran → RestoresTo lines ran r → IsFoldedBy o text marked r
restores o text lines on may None is goes m other = other_unfolded o text lines on may is goes m other
restores o text lines on may (Some made) is goes m h = is_folded o text lines on may is goes m h.0 h.1

-- 3. Squeezed texts.

faulty_stays : (o : TextOptions) (r : TextOutcome) → ¬ (r.fault ≡ None) → goes_squeezed o r ≡ false
faulty_stays o r some = by r.fault refl
  where
    by : (f : Option Fault) → r.fault ≡ f → (o.squeezes && is_off o.run.settings.listing && r.differs && is_none f) ≡ false
    by None e = absurd (some e)
    by (Some f) e = grind arith

-- A run that fails does so before its output is squeezed.
pub fails_whole : (o : TextOptions) {text : List ℕ} {e : ReplaceError} → FailsBy (HasUnsqueezed o text) e → FailsOver o text e
fails_whole o {text = text} h = lift_fails {more = HasMarkedOutcome o text} (λ r ms some has. as_it_is has (faulty_stays o r some)) h

-- An outcome isn't squeezed.
pub whole : (o : TextOptions) {text : List ℕ} {marked : Bool} {made : Made} → (m : IsMade o text marked (HasUnsqueezed o text) made) → goes_squeezed o m.outcome ≡ false →
    IsMade o text marked (HasMarkedOutcome o text) made
whole o m stays = record {
  outcome = m.outcome;
  marks = m.marks;
  runs = as_it_is m.runs stays;
  faultless = m.faultless;
  output_is = m.output_is;
  differs_is = m.differs_is;
  edited_is = m.edited_is;
  marks_are = m.marks_are;
}

-- An outcome is squeezed.
pub is_squeezed : (o : TextOptions) {text seen ms : List ℕ} {marked : Bool} {lines made : Made} → (m : IsMade o text marked (HasUnsqueezed o text) lines) → o.squeezes ≡ true →
    marked ≡ true → lines.differs ≡ true → is_off o.run.settings.listing ≡ true → seen ≡ output_in lines text → ms ≡ lines.marks.items →
    output_in made text ≡ squeezed_text ms seen → made.marks.items ≡ squeezed_marks ms seen → made.differs ≡ true → made.edited ≡ lines.edited →
    IsMade o text marked (HasMarkedOutcome o text) made
is_squeezed o {text = text} {seen = seen} {ms = ms} {marked = marked} {lines = lines} {made = made} m on wanted differs off e q out ns d edited =
    let same : seen ≡ m.outcome.output = e ∙ m.output_is in
    let marks : ms ≡ m.marks = q ∙ m.marks_are wanted differs (listing_off o.run.settings.listing off) in
    record {
      outcome = squeezed m.marks m.outcome;
      marks = squeezed_marks m.marks m.outcome.output;
      runs = as_squeezed m.runs (goes (sym m.differs_is ∙ differs));
      faultless = m.faultless;
      output_is = out ∙ ap₂ squeezed_text marks same;
      differs_is = d ∙ sym differs ∙ m.differs_is;
      edited_is = edited ∙ m.edited_is;
      marks_are = λ _ _ _. ns ∙ ap₂ squeezed_marks marks same;
    }
  where
    goes : m.outcome.differs ≡ true → goes_squeezed o m.outcome ≡ true
    goes e = grind (arith, on, off, e, m.faultless)

-- 4. A text that stays.

-- If no line differs, the output is the text.
same_bytes : (out text : List ℕ) (d : Bool) → d ≡ not (bytes_eq out text) → d ≡ false → text ≡ out
same_bytes out text d is none = grind (arith, bytes_eq-Decides)

-- Pruning leaves such a text.
none_cut : (o : TextOptions) (text : List ℕ) → IsSpared o text ⊎ IsUnnamed o text → o.prunes ≡ true →
    (pruned_text o.run.table (rules_of o.run.settings) text ≡ text) × (edited_count o.run.table (rules_of o.run.settings) text ≡ 0)
none_cut o text (inl spared) e = let u = spared e in (u.unpruned, u.unedited)
none_cut o text (inr n) e = none_pruned o.run.table (rules_of o.run.settings) n.undecided text (text_quiet o.run.table text n.lacks)

may_parts : (s : Settings) → may_fold s ≡ true → (s.plain ≡ false) × (s.blank ≡ false)
may_parts s e = grind arith

module _ (o : TextOptions) (text : List ℕ) (n : IsUnnamed o text) (unnumbered : o.run.settings.renumber ≡ false) (unlisted : o.run.settings.listing ≡ Off)
    {marked : Bool} {made : Made} (itself : IsSameText made) (text_is : output_in made text ≡ text) where
  -- The run over the folded text copies it, so the restored output is the text.
  folded_itself : o.prunes ≡ true → may_fold o.run.settings ≡ true → goes_back (folded_text text) text ≡ true → {a : Outcome} → HasOutcome o.run (folded_text text) a →
      a.fault ≡ None → IsMade o text marked (HasUnsqueezed o text) made
  folded_itself on may goes {a = a} has none =
      let lines : List ℕ = folded_text text in
      let quiet = folded_quiet o.run.table text (text_quiet o.run.table text n.lacks) in
      let m = may_parts o.run.settings may in
      let c = copies o.run n.undecided m.0 unlisted unnumbered m.1 n.uncomplemented lines quiet has none in
      let q = none_pruned o.run.table (rules_of o.run.settings) n.undecided lines quiet in
      let out : (pruned o.run a).output ≡ lines = ap (pruned_text o.run.table (rules_of o.run.settings)) c.0 ∙ q.0 in
      let edits : (pruned o.run a).edited ≡ 0 = ap (edited_count o.run.table (rules_of o.run.settings)) c.0 ∙ q.1 in
      let back : restored_text lines ≡ text = (bytes_eq-Decides (restored_text lines) text).0 (and_parts (not (bytes_eq lines text)) (bytes_eq (restored_text lines) text) goes).1 in
      let ms = marks_exist o.run lines has none in
      record {
        outcome = folded o.run a;
        marks = unfolded ms.0 (texts_of lines) (texts_of (pruned o.run a).output);
        runs = as_folded (record {
          prunes = on;
          may = may;
          goes = goes;
          runs = has;
          faultless = none;
          comes = ap comes_back out ∙ (bytes_eq-Decides (folded_text (restored_text lines)) lines).1 (ap folded_text back);
        }) ms.1;
        faultless = none;
        output_is = text_is ∙ sym (ap restored_text out ∙ back);
        differs_is = itself.differs ∙ sym (ap₂ (λ (b : Bool) (k : ℕ). b || nat_lt 0 k) c.1 edits);
        edited_is = itself.edited ∙ sym edits;
        marks_are = λ wanted d off. absurd (false≢true (sym itself.differs ∙ d));
      }

  -- A text without a name is its own output, folded or not.
  unnamed_itself : IsMade o text marked (HasPrinted o text) made → IsMade o text marked (HasUnsqueezed o text) made
  unnamed_itself m = by o.prunes (may_fold o.run.settings) (goes_back (folded_text text) text) refl refl refl
    where
      read_so : StaysUnfolded o text → IsMade o text marked (HasUnsqueezed o text) made
      read_so stays = lift o (λ r ms h. as_read stays h) m

      by_fault : o.prunes ≡ true → may_fold o.run.settings ≡ true → goes_back (folded_text text) text ≡ true → (a : Outcome) → HasOutcome o.run (folded_text text) a →
          (f : Option Fault) → a.fault ≡ f → IsMade o text marked (HasUnsqueezed o text) made
      by_fault on may goes a has None e = folded_itself on may goes has e
      by_fault on may goes a has (Some f) e = read_so (λ b i. some f (sym e ∙ ap (λ (x : Outcome). x.fault) (one_run has i.runs) ∙ i.faultless))
        where
          some : (f : Fault) → ◌≡◌ {A = Option Fault} (Some f) None → ⊥
          some f e = absurd cc

      by : (p m g : Bool) → o.prunes ≡ p → may_fold o.run.settings ≡ m → goes_back (folded_text text) text ≡ g → IsMade o text marked (HasUnsqueezed o text) made
      by false m g on may goes = read_so (unpruned_unfolded o text on)
      by true false g on may goes = read_so (may_unfolded o text may)
      by true true false on may goes = read_so (gone_unfolded o text goes)
      by true true true on may goes = let r = run_exists o.run (folded_text text) in by_fault on may goes r.0 r.1 r.0.fault refl

-- A run in which no line differs gave the text itself, unless lines are numbered or listed.
pub stays_itself : (o : TextOptions) (input text : List ℕ) (before left : Option (List ℕ)) (reader writer d : Bool) {marked : Bool} {made : Made} → IsSpared o text ⊎ IsUnnamed o text →
    o.run.settings.renumber ≡ false → o.run.settings.listing ≡ Off → input ≡ text → ErrorMatchesStreams reader writer (Ok d) →
    (reader ≡ false → writer ≡ false → RunAnswers o.run input before left (Ok d)) → d ≡ false → IsSameText made → IsMade o text marked (HasMarkedOutcome o text) made
stays_itself o input text before left reader writer d {marked = marked} {made = made} known unnumbered unlisted is m ran same itself =
    let q = by known (printed_unmarked o p (λ wanted differs off. false≢true (sym itself.differs ∙ differs))) in
    whole o q (grind (arith, itself.differs, q.differs_is))
  where
    h : RunAnswers o.run input before left (Ok d)
    h = ran m.works.0 m.works.1

    a : Outcome
    a = h.outcome

    runs : HasOutcome o.run text a
    runs = subst (λ (t : List ℕ). HasOutcome o.run t a) is h.runs

    output : text ≡ a.output
    output = same_bytes a.output text d (h.answered.1 ∙ subst (λ (t : List ℕ). a.differs ≡ not (bytes_eq a.output t)) is (changed o.run unnumbered unlisted input h.runs h.answered.0)) same

    differs : false ≡ a.differs
    differs = sym same ∙ h.answered.1

    neither : (b : Bool) (n : ℕ) → n ≡ 0 → b ≡ (b || nat_lt 0 n)
    neither b n e = grind arith

    text_is : output_in made text ≡ text
    text_is = ap (λ x. output_in (record made { output = x }) text) itself.output

    p : Prints o text made
    p = by o.prunes refl
      where
        by : (b : Bool) → o.prunes ≡ b → Prints o text made
        by false e = let w = sym (printed_whole o a e) in
            record {
              outcome = a;
              runs = runs;
              faultless = h.answered.0;
              output_is = text_is ∙ output ∙ ap (λ (r : TextOutcome). r.output) w;
              differs_is = itself.differs ∙ differs ∙ ap (λ (r : TextOutcome). r.differs) w;
              edited_is = itself.edited ∙ ap (λ (r : TextOutcome). r.edited) w;
            }
        by true e = let u = none_cut o text known e in
            let edits = ap (edited_count o.run.table (rules_of o.run.settings)) (sym output) ∙ u.1 in
            let w = sym (printed_pruned o a e h.answered.0) in
            record {
              outcome = a;
              runs = runs;
              faultless = h.answered.0;
              output_is = text_is ∙ sym u.0 ∙ ap (pruned_text o.run.table (rules_of o.run.settings)) output ∙ ap (λ (r : TextOutcome). r.output) w;
              differs_is = itself.differs ∙ differs ∙ neither a.differs (edited_count o.run.table (rules_of o.run.settings) a.output) edits ∙ ap (λ (r : TextOutcome). r.differs) w;
              edited_is = itself.edited ∙ sym edits ∙ ap (λ (r : TextOutcome). r.edited) w;
            }

    by : IsSpared o text ⊎ IsUnnamed o text → IsMade o text marked (HasPrinted o text) made → IsMade o text marked (HasUnsqueezed o text) made
    by (inl spared) k = lift o (λ r ms has. as_read (spared_unfolded o text spared) has) k
    by (inr n) k = unnamed_itself o text n unnumbered unlisted itself text_is k

-- 5. A text has one outcome.

one_printed : (o : TextOptions) (text : List ℕ) {r s : TextOutcome} {ms ns : List ℕ} → HasPrinted o text r ms → HasPrinted o text s ns → (r ≡ s) × (ms ≡ ns)
one_printed o text {ms = ms} {ns = ns} (as_printed {a = a} has marks) (as_printed {a = b} had marks') =
    let same : a ≡ b = one_run has had in
    (ap (printed o) same, by b.fault (subst (λ (x : Outcome). HasMarks o.run text x.fault ms) same marks) marks')
  where
    by : (f : Option Fault) → HasMarks o.run text f ms → HasMarks o.run text f ns → ms ≡ ns
    by None a b = one_marks o.run text a b
    by (Some f) a b = a ∙ sym b

one_unsqueezed : (o : TextOptions) (text : List ℕ) {r s : TextOutcome} {ms ns : List ℕ} → HasUnsqueezed o text r ms → HasUnsqueezed o text s ns → (r ≡ s) × (ms ≡ ns)
one_unsqueezed o text (as_read stays h) (as_read stays' k) = one_printed o text h k
one_unsqueezed o text (as_read stays h) (as_folded {a} i are) = absurd (stays a i)
one_unsqueezed o text (as_folded {a} i are) (as_read stays h) = absurd (stays a i)
one_unsqueezed o text (as_folded {a = a} {ms = ms} i are) (as_folded {a = b} {ms = ns} j are') =
    let same : a ≡ b = one_run i.runs j.runs in
    let marks : ms ≡ ns = one_marks o.run (folded_text text) are are' in
    rw (same, marks) (refl, refl)

pub one_outcome : (o : TextOptions) (text : List ℕ) {r s : TextOutcome} {ms ns : List ℕ} → HasMarkedOutcome o text r ms → HasMarkedOutcome o text s ns → (r ≡ s) × (ms ≡ ns)
one_outcome o text (as_it_is h off) (as_it_is k off') = one_unsqueezed o text h k
one_outcome o text (as_it_is h off) (as_squeezed k on) = let e = one_unsqueezed o text h k in absurd (false≢true (sym off ∙ ap (goes_squeezed o) e.0 ∙ on))
one_outcome o text (as_squeezed h on) (as_it_is k off) = let e = one_unsqueezed o text h k in absurd (false≢true (sym off ∙ sym (ap (goes_squeezed o) e.0) ∙ on))
one_outcome o text (as_squeezed h on) (as_squeezed k on') = let e = one_unsqueezed o text h k in rw (e.0, e.1) (refl, refl)
