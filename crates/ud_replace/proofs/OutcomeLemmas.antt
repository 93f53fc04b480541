-- The fate of a file, by the outcome of its text.
use Rattle.std.proofs.Common.{◌≡◌, ℕ, List, Bool, true, false, Result, Ok, Err, refl, sym, ◌∙◌, subst}
use Rattle.ud_replace.specs.declared.error.Update.{Update}
use Rattle.ud_replace.specs.declared.error.Update.TheVariants.{Unchanged}
use Rattle.ud_replace.specs.declared.error.ReplaceError.{ReplaceError}
use Rattle.ud_replace.specs.declared.stat.FileStat.{FileStat}
use Rattle.ud_replace.specs.declared.kept.Kept.{Kept}
use Rattle.ud_replace.specs.declared.text_plan.TextPlan.{TextPlan}
use Rattle.ud_replace.specs.Calls.{Call}
use Rattle.ud_replace.specs.MadeOutcomes.{RunsKept, output_of}
use Rattle.ud_replace.specs.Replacing.{Puts, Judges, no_memory, faulty, same, differs}
use Rattle.ud_replace.specs.TextOutcomes.{TextOptions, FailsOver, over_faulty, over_memory, IsOutputOf, output_of as output_is}

-- A text over which the run failed is left alone.
pub judges_failed : {o : TextOptions} {into : Bool} {name fresh text : List ℕ} {stat : FileStat} {calls : List Call} {e : ReplaceError} →
    FailsOver o text e → Judges o into name fresh text stat calls calls (Err e)
judges_failed (over_faulty r ms f has is some) = faulty r f (ms, has) is some refl
judges_failed over_memory = no_memory refl

-- A text whose output is the text itself is left alone.
pub judges_same : {o : TextOptions} {plan : TextPlan} {k : Kept} {into d : Bool} {name fresh : List ℕ} {stat : FileStat} {calls : List Call} →
    RunsKept o plan k d → d ≡ false → Judges o into name fresh k.text.items stat calls calls (Ok Unchanged)
judges_same h is = same h.made.outcome (h.made.marks, h.made.runs) h.made.faultless (sym h.made.differs_is ∙ sym h.differs_is ∙ is) refl

-- A text whose output differs is replaced by it.
pub judges_differs : {o : TextOptions} {plan : TextPlan} {k : Kept} {into d : Bool} {name fresh output : List ℕ} {stat : FileStat} {old new : List Call} {r : Result Update ReplaceError} →
    RunsKept o plan k d → d ≡ true → output ≡ output_of k → Puts into name fresh k.text.items output stat old new r → Judges o into name fresh k.text.items stat old new r
judges_differs {k = k} {into = into} {name = name} {fresh = fresh} {stat = stat} {old = old} {new = new} {r = r} h is e p =
    differs h.made.outcome (h.made.marks, h.made.runs) h.made.faultless (sym h.made.differs_is ∙ sym h.differs_is ∙ is)
    (subst (λ (t : List ℕ). Puts into name fresh k.text.items t stat old new r) (e ∙ h.made.output_is) p)

pub is_output : {o : TextOptions} {plan : TextPlan} {k : Kept} {d : Bool} → RunsKept o plan k d → IsOutputOf o k.text.items (output_of k) k.outcome.edited
is_output h = output_is h.made.outcome (h.made.marks, h.made.runs) h.made.output_is h.made.edited_is
