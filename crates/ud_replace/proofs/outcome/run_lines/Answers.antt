-- By the run, the pass over its output, and the marks if they are needed.
use Rattle.std.proofs.Common.{◌≡◌, List, ℕ, Bool, false, true, ap, sym, ◌∙◌, ◌&&◌, subst, arith}
use Rattle.ud_model.specs.declared.settings.Settings.{Settings}
use Rattle.ud_replace.specs.MadeOutcomes.{IsPrunedBy, has_marks}
use Rattle.ud_replace.specs.TextOutcomes.{HasPrinted, is_off}
use Rattle.ud_replace.specs.UnprunedRuns.{RunsUnpruned}
use Rattle.ud_replace.proofs.TextLemmas.{Prints, fails_as, fails_memory, fails_printed, listing_off, printed_marked, printed_unmarked, prints, remarked}
use Rattle.ud_replace.proofs.outcome.run_lines.Goals as goal
use Rattle.ud_replace.proofs.outcome.run_lines.Goals.{then-needs_marks+in_ok-outcome-2, else-needs_marks}

pub returns-in_err-differs : goal.returns-in_err-differs
returns-in_err-differs c = λ o p. fails_as _ c.from_residual.result c.from_residual.ensures.1 (fails_printed o (c.in_err-differs.ensures o.run p.settings p.table))

pub returns-in_err-outcome : goal.returns-in_err-outcome
returns-in_err-outcome c = λ o p. fails_memory (HasPrinted o c.args.text.now) _ c.from_residual-in_err-outcome.result c.from_residual-in_err-outcome.ensures.1

pub returns-in_err-outcome-2 : goal.returns-in_err-outcome-2
returns-in_err-outcome-2 c = λ o p. fails_memory (HasPrinted o c.args.text.now) _ c.from_residual-in_err-outcome-2.result c.from_residual-in_err-outcome-2.ensures.1

needed : (d m f : Bool) → (d && m && f) ≡ true → f ≡ true
needed true true f e = e
needed true false f e = absurd cc
needed false m f e = absurd cc

unneeded : (d m f : Bool) → (d && m && f) ≡ false → d ≡ true → m ≡ true → f ≡ true → ⊥
unneeded d m f e p q r = grind (arith, e, p, q, r)

pub returns : goal.returns
returns c = λ o p.
    let h : Prints o c.args.text.now c.in_ok-outcome.outcome = prints o
    (subst (λ (x : List ℕ). RunsUnpruned o.run c.args.text.now x c.run_over.new.out.inner.items c.in_ok-differs.differs)
    (ap (λ v. v.items) c.new-ran.ensures.inner ∙ c.new.ensures.items) (c.in_ok-differs.ensures o.run p.settings p.table))
    (subst (λ (x : List ℕ). IsPrunedBy o x c.in_ok-differs.differs c.in_ok-outcome.outcome) (ap (λ v. v.items) c.into_inner.ensures) (c.in_ok-outcome.ensures o p)) in
    elim c.if-needs_marks.branch [
      | then-needs_marks+in_ok-outcome-2 w ↦
          rw w.outcome-is (printed_marked o (remarked w.in_ok-outcome-2.field-0 h) (w.in_ok-outcome-2.ensures o.run p.settings p.table
          (listing_off o.run.settings.listing (ap (λ (s : Settings). is_off s.listing) p.settings
          ∙ needed c.in_ok-outcome.outcome.differs (has_marks c.args.plan.now) _ (sym c.needs_marks.ensures ∙ w.if-needs_marks.true)))))
      | else-needs_marks w ↦
          rw w.outcome-is (printed_unmarked o h (λ wanted differs off. unneeded c.in_ok-outcome.outcome.differs (has_marks c.args.plan.now) (is_off c.args.plan.now.run.settings.listing)
          (sym c.needs_marks.ensures ∙ w.if-needs_marks.false) differs wanted (ap (λ (s : Settings). is_off s.listing) (sym p.settings) ∙ ap is_off off)))
    ]
