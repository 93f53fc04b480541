-- The state of a line processor after a line.
use Rattle.std.proofs.Common.{◌≡◌, ℕ, suc, List, [], ◌∷◌, ◌++◌, Bool, not, bytes_eq, ◌||◌, None, refl, ◌∙◌, ap, length, arith}
use Rattle.ud_model.specs.text.Lines.{Line, text_of}
use Rattle.ud_model.specs.text.Scans.{Reading}
use Rattle.ud_model.specs.sections.Tree.{Item, Tree}
use Rattle.ud_model.specs.sections.Pruning.{Mark, marks}
use Rattle.ud_model.specs.sections.Items.{Options, line_of, next_item}
use Rattle.ud_model.specs.sections.Faults.{AreFaultless}
use Rattle.ud_model.specs.answer.Printing.{Judged, judged_line, judged_lines}
use Rattle.ud_model.specs.declared.settings.Listing.{Listing}
use Rattle.ud_model.specs.declared.settings.Listing.TheVariants.{Off}
use Rattle.ud_model.proofs.answer.PrintingLemmas.{printed-more, differ-more}
use Rattle.ud_model.proofs.sections.Soundness.{sound_lines}
use Rattle.ud_model.proofs.sections.Stays.{length_marks}
use Rattle.ud_sections.specs.sections.StepViews.{as_span}
use Rattle.ud_sections.specs.declared.sections.step.Step.{Step}
use Rattle.ud_engine.specs.declared.line_processor.LineProcessor.{LineProcessor}
use Rattle.ud_engine.specs.declared.line_decider.LineDecider.{LineDecider}
use Rattle.ud_engine.specs.DecidedLines.{DecidesLine}
use Rattle.ud_engine.specs.ProcessedLines.{differs_in, lister_of, ProcessorRepresents, PrintsMore, ShowsLine, PrintsLine}
use Rattle.ud_io.specs.Streams.{Stream}
use Rattle.ud_model.proofs.sections.FaultStays.{line_of-next_item}

judged_line-more : (xs : List (Item Reading)) (ms : List Mark) (x : Item Reading) (m : Mark) → length ms ≡ length xs →
    judged_lines (xs ++ x ∷ []) (ms ++ m ∷ []) ≡ judged_lines xs ms ++ judged_line x m ∷ []
judged_line-more [] [] x m e = refl
judged_line-more [] (n ∷ ns) x m e = cc
judged_line-more (y ∷ ys) [] x m e = cc
judged_line-more (y ∷ ys) (n ∷ ns) x m e =
    ap (λ js. judged_line y n ∷ js) (judged_line-more ys ns x m (let h : suc (length ns) ≡ suc (length ys) = e in omega (arith, h)))

module _ (o : Options) (piece : List Judged → Judged → List ℕ) (xs : List (Item Reading)) (t u : Tree Reading) (l : Line) (s : AreFaultless o xs t)
    (mark : Mark) (ms : marks u ≡ marks t ++ mark ∷ []) (off : o.settings.listing ≡ Off) where
  abbrev before : List Judged
  before = judged_lines xs (marks t)

  abbrev next : Judged
  next = judged_line (next_item o xs t l) mark

  -- The printer's lines after the next item.
  pub judged_next : judged_lines (xs ++ next_item o xs t l ∷ []) (marks u) ≡ before ++ next ∷ []
  judged_next = grind (arith, judged_line-more, length_marks, sound_lines)

  -- The line's piece is printed after the others.
  pub shows_more : PrintsMore o piece xs t l u (piece before next)
  shows_more = grind (arith, judged_next, printed-more)

  -- Some line differs if this line does, or one of those before.
  pub differs_more : (own : List ℕ) → own ≡ text_of l → (line_of (next_item o xs t l) ≡ l) →
      differs_in o.settings.listing piece (xs ++ next_item o xs t l ∷ []) u ≡ (differs_in o.settings.listing piece xs t || not (bytes_eq (piece before next) own))
  differs_more own h k = grind (arith, bytes_eq, judged_next, differ-more)

-- Without a lister, the lines are printed.
pub is_off : (listing : Listing) → lister_of listing ≡ None → listing ≡ Off
is_off listing h = grind arith

module _ {S : Type 0} (represents : S → List Judged → Type 0) (piece_of : S → List Judged → Judged → List ℕ) (o : Options)
    (piece : List Judged → Judged → List ℕ) (xs : List (Item Reading)) (t : Tree Reading) (l : Line) where
  -- The printer's piece of the line is the definition's.
  piece_is : (p : LineProcessor S) (r : LineDecider) (step : Step) → (h : ProcessorRepresents represents piece_of p o piece xs t) → (one : DecidesLine o r xs t l step) →
      piece_of p.printer (judged_lines xs (marks t)) (record { line = l; verdict = step.verdict; keyword = as_span step.keyword })
      ≡ piece (judged_lines xs (marks t)) (judged_line (next_item o xs t l) one.mark)
  piece_is p r step h one = h.stays (judged_lines xs (marks t)) _ ∙ ap (piece (judged_lines xs (marks t))) one.decided

  pub shows_line : (p q : LineProcessor S) (step : Step) (put : Bool) (old new : Stream) (buffered left pending : List ℕ) → ProcessorRepresents represents piece_of p o piece xs t →
      p.lister ≡ None → q.lister ≡ p.lister → q.differs ≡ (p.differs || put) → DecidesLine o q.decider xs t l step →
      ((before : List Judged) → represents p.printer before → represents q.printer (before ++ record { line = l; verdict = step.verdict; keyword = as_span step.keyword } ∷ [])) →
      ((before : List Judged) → (j : Judged) → piece_of q.printer before j ≡ piece_of p.printer before j) →
      (represents p.printer (judged_lines xs (marks t)) → ShowsLine put old new buffered left pending (piece_of p.printer (judged_lines xs (marks t))
      (record { line = l; verdict = step.verdict; keyword = as_span step.keyword })) (text_of l)) →
      PrintsLine represents piece_of q o piece xs t l put old new buffered left pending
  shows_line p q step put old new buffered left pending h k m r s u v w = grind (arith, is_off, piece_is, judged_next, bytes_eq, differs_more, line_of-next_item, shows_more)
