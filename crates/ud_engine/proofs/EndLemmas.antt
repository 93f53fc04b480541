-- Ending: the engine's state at the end of a text.
use Rattle.std.proofs.Common.{◌≡◌, ℕ, suc, ◌<◌, Bool, true, false, List, [], ◌∷◌, ◌++◌, length, Option, Some, None, sym, ◌∙◌, ap, subst, append-nil, arith}
use Rattle.std.specs.Io.KnownBytes.{Appends}
use Rattle.std.proofs.KnownBytes.{Appends-nil}
use Rattle.ud_model.specs.text.Lines.{Line, line_at, lines_of}
use Rattle.ud_model.specs.sections.Items.{Options, next_item}
use Rattle.ud_model.specs.sections.Faults.{Fault, FaultOf, end_fault}
use Rattle.ud_model.specs.answer.Printing.{Judged}
use Rattle.ud_model.specs.answer.Outcomes.{HasNoFault, ReadsAs, lines_so_far, stops, ends}
use Rattle.ud_model.proofs.text.LinesLemmas.{numbered_from-next}
use Rattle.ud_model.specs.conditions.Table.{Argument}
use Rattle.ud_text.specs.lines.LinesState.{LinesState}
use Rattle.ud_sections.proofs.lemmas.sections.NextLemmas.{lines_more}
use Rattle.ud_sections.specs.sections.SectionFaults.{fault_of}
use Rattle.ud_sections.specs.declared.sections.fault.SectionFault.{SectionFault}
use Rattle.ud_engine.specs.declared.fault.RunFault.TheVariants.{Section}
use Rattle.ud_engine.specs.declared.line_processor.LineProcessor.{LineProcessor}
use Rattle.ud_engine.specs.Finishing.{without_fault, PrintsAll, FinishFault, FinishTruncated, FinishOk, FinishErr}
use Rattle.ud_engine.specs.Feeding.{EngineState, EngineRepresentsBuffered, EngineRepresents}
use Rattle.ud_engine.specs.ProcessedLines.{PrintsLine, differs_in}
use Rattle.ud_io.specs.Watched.{WatchedState}
use Rattle.ud_io.specs.Streams.{Stream, TakesAllBut}
use Rattle.ud_io.proofs.StreamLemmas.{stream_flushed, stream_appends}

module _ {S : Type 0} (represents : S → List Judged → Type 0) (piece_of : S → List Judged → Judged → List ℕ) (o : Options) (piece : List Judged → Judged → List ℕ)
    (e : EngineState S) (text printed : List ℕ) (fed : EngineRepresents represents piece_of e o piece text printed) where
  abbrev h : EngineRepresentsBuffered represents piece_of e o piece text printed
  h = fed.taken

  -- The engine by its parts.
  pub rests : (symbols : List Argument) → symbols ≡ e.symbols → EngineRepresents represents piece_of (without_fault symbols e.lines e.printer e.buffered) o piece text printed
  rests symbols h = grind arith

  module _ (some : 0 < length e.lines.held) (lines : LinesState) (closed : lines ≡ record e.lines { closed = true }) (l : Line) (is : l ≡ line_at (suc lines.before) lines.held) where
    -- The buffered bytes are the last line.
    pub last_is : lines_of text ≡ lines_so_far text ++ l ∷ []
    last_is = grind (arith, numbered_from-next)

    module _ (p : LineProcessor S) (a b c : Stream) (left : List ℕ) (prints : PrintsLine represents piece_of p o piece h.items h.tree l true a b e.buffered left [])
        (works : a.failed ≡ false) (flushed : TakesAllBut b c left []) where
      last_goes : HasNoFault o (lines_of text) (h.items ++ next_item o h.items h.tree l ∷ []) prints.tree
      last_goes = grind (arith, last_is, lines_more)

      last_sent : TakesAllBut a c prints.more []
      last_sent = stream_flushed a b c prints.more left (subst (λ x. TakesAllBut a b (x ++ ([] ++ prints.more)) left) fed.written prints.goes) flushed

      -- The last line is printed, and all output is written.
      pub last_printed : c.failed ≡ false → PrintsAll represents piece_of p o piece text printed a.contents c.contents
      last_printed w = grind (arith, last_goes, stream_appends, last_sent)

      -- A write fails.
      pub last_cut : c.failed ≡ true → FinishTruncated o piece text printed a.contents c.contents
      last_cut w = grind (arith, last_goes, last_sent)

    -- The last line is faulty.
    pub last_fails : {W : Type 0} (contents : W → Option (List ℕ)) (old new : WatchedState W) → old.failed ≡ false → new ≡ old → (f : SectionFault) →
        FaultOf h.items (next_item o h.items h.tree l) (fault_of f) → FinishErr o piece new.failed (contents old.inner) (contents new.inner) text printed (Section f)
    last_fails contents old new works leaves f fails = (
      ap (λ w. w.failed) leaves ∙ works,
      record {
        items = h.items;
        tree = h.tree;
        reads = stops h.items h.tree (fault_of f) (record {
          sound = h.goes.sound;
          faulty = l;
          later = [];
          are = last_is ∙ ap (λ ls. ls ++ l ∷ []) h.goes.are;
          fault = fails;
        });
        more = [];
        printed_is = append-nil printed ∙ h.printed_is;
        appended = subst (λ x. Appends (contents old.inner) x []) (sym (ap (λ w. contents w.inner) leaves)) (Appends-nil (contents old.inner));
      },
    )

module _ {S : Type 0} (represents : S → List Judged → Type 0) (piece_of : S → List Judged → Judged → List ℕ) (p : LineProcessor S) (o : Options) (piece : List Judged → Judged → List ℕ)
    (text printed : List ℕ) (a b : Option (List ℕ)) (all : PrintsAll represents piece_of p o piece text printed a b) where
  -- The end has a fault.
  pub ends_at : (f : Fault) → Some f ≡ end_fault all.items all.tree → FinishFault o piece text printed a b f
  ends_at f e = record {
    items = all.items;
    tree = all.tree;
    reads = subst (λ k. ReadsAs o text all.items all.tree k) (sym e) (ends all.items all.tree all.goes);
    more = all.more;
    printed_is = all.printed_is;
    appended = all.appended;
  }

  -- The text has no fault.
  pub ends_well : (differs : Bool) → None ≡ end_fault all.items all.tree → differs ≡ differs_in o.settings.listing piece all.items all.tree → FinishOk o piece text printed a b differs
  ends_well differs e d = record {
    items = all.items;
    tree = all.tree;
    reads = subst (λ k. ReadsAs o text all.items all.tree k) (sym e) (ends all.items all.tree all.goes);
    more = all.more;
    printed_is = all.printed_is;
    appended = all.appended;
    differs_is = d;
  }
