-- Printing: an engine is fed, and ends.
use Rattle.std.proofs.Common.{◌≡◌, ℕ, List, [], ◌++◌, Bool, Some, refl, ◌∙◌, ap}
use Rattle.ud_model.specs.text.Lines.{texts_of}
use Rattle.ud_model.specs.declared.settings.Settings.{Settings}
use Rattle.ud_model.specs.declared.settings.Listing.{Listing}
use Rattle.ud_model.specs.declared.settings.Listing.TheVariants.{Off}
use Rattle.ud_engine.specs.ProcessedLines.{text_by}
use Rattle.ud_model.specs.sections.Items.{Options}
use Rattle.ud_model.specs.answer.Printing.{Judged}
use Rattle.ud_engine.specs.Feeding.{Session}
use Rattle.ud_engine.specs.Finishing.{FinishOk}
use Rattle.ud_replace.specs.Marks.{AreMarks, PrintsMarks, marked_piece, read_marks}
use Rattle.ud_replace.proofs.MarkLemmas.{are_marks}

-- The session before the first byte, with the pieces of a printer.
abbrev pub fresh : Options → (List Judged → Judged → List ℕ) → Session
fresh o piece = record { options = o; pieces = piece; text = []; printed = [] }

-- A printer of marks with the settings of the options was fed a text, and its end.
pub prints_marks : (o : Options) (s : Settings) (text old mid new more : List ℕ) (differs : Bool) → s ≡ o.settings → old ≡ [] → mid ≡ old ++ more →
    FinishOk o (marked_piece s) text more (Some mid) (Some new) differs → PrintsMarks o text new
prints_marks o s text old mid new more differs e none m h = record {
  items = h.items;
  tree = h.tree;
  reads = h.reads;
  printed = h.appended ∙ ap (λ (x : List ℕ). x ++ h.more) (m ∙ ap (λ (x : List ℕ). x ++ more) none) ∙ h.printed_is
      ∙ ap (λ (t : Settings). text_by o.settings.listing (marked_piece t) h.items h.tree) e;
}

-- The marks of a text that was printed.
pub marks_printed : (o : Options) (text new : List ℕ) → PrintsMarks o text new → o.settings.listing ≡ Off → (ms : List ℕ) → ms ≡ read_marks (texts_of text) (texts_of new) → AreMarks o text ms
marks_printed o text new h off ms read =
    are_marks o (marked_piece o.settings) text new ms h.reads (λ before j. refl) (h.printed ∙ ap (λ (l : Listing). text_by l (marked_piece o.settings) h.items h.tree) off) read
