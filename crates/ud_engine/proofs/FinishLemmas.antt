-- Finish: the course and the end of a run, since it began.
use Rattle.std.proofs.Common.{ℕ, ◌≤◌, Bool, List, [], ◌++◌, length, Option, Result, Err, subst, append-nil, arith}
use Rattle.std.specs.Io.KnownBytes.{Consumes, IsAtEnd}
use Rattle.std.proofs.KnownBytes.{Appends-nil, Consumes-nil, Consumes-trans}
use Rattle.ud_model.specs.sections.Items.{Options}
use Rattle.ud_sections.specs.printing.Printers.{printer_represents, printer_piece}
use Rattle.ud_sections.specs.declared.printing.printer.Printer.{Printer}
use Rattle.ud_engine.specs.declared.fault.RunFault.{RunFault}
use Rattle.ud_engine.specs.declared.pump.TheConstants.{CHUNK_BYTES}
use Rattle.ud_engine.specs.Finishing.{Finishes}
use Rattle.ud_engine.specs.Feeding.{EngineState, EngineRepresents, FeedFails, Continues}
use Rattle.ud_engine.specs.Runs.{InProgress, RunFinished}
use Rattle.ud_engine.proofs.RunLemmas.{own_piece, own_session, lag, ended_ran, ended_appended, feed_appended, ran_early}
use Rattle.ud_engine.proofs.RunEndedLemmas.{fed_ends, end_ends}
use Rattle.std.proofs.lemmas.Grind.{common_steps}

-- A run begins.
pub begins : (o : Options) (e : EngineState Printer) (r w : Option (List ℕ)) → EngineRepresents printer_represents printer_piece e o (own_piece o) [] [] → InProgress e o r r w w
begins o e r w fed = record { given = []; printed = []; consumed = Consumes-nil r; fed = fed; appended = Appends-nil w }

module _ (o : Options) (e : EngineState Printer) (r₀ r₁ w₀ w₁ : Option (List ℕ)) (u : InProgress e o r₀ r₁ w₀ w₁) where
  -- The reader was at its end.
  pub at_end : (r₂ w₂ : Option (List ℕ)) → Consumes r₁ r₂ [] → IsAtEnd r₂ → (reader writer : Bool) (result : Result Bool RunFault) →
      Finishes (own_session o u.given u.printed) writer w₁ w₂ result →
      RunFinished o r₀ r₂ w₀ w₂ reader writer result
  at_end r₂ w₂ last left reader writer result ends =
      let joined = Consumes-trans r₀ r₁ r₂ u.given [] u.consumed last in
      let all : Consumes r₀ r₂ u.given = subst (λ (x : List ℕ). Consumes r₀ r₂ x) (append-nil u.given) joined in
      let more = ended_appended o w₀ w₁ w₂ u.given u.printed writer u.appended result ends in
      record {
        ran = grind (arith, common_steps, ended_ran);
        lag = lag o printer_represents printer_piece e u.given u.printed u.fed.taken r₀ r₂ w₀ w₁ w₂ [] more.0 joined (omega arith) u.appended more.1;
        ended = record { given = u.given; consumed = all; ends = end_ends o r₂ w₀ w₁ w₂ u.printed u.appended writer u.given left result ends };
      }

  module _ (r₂ w₂ : Option (List ℕ)) (piece : List ℕ) (read : Consumes r₁ r₂ piece) where
    -- A chunk is faulty, or a write failed.
    pub stopped : length piece ≤ CHUNK_BYTES → (reader writer : Bool) (f : RunFault) → FeedFails o (own_piece o) writer w₁ w₂ (u.given ++ piece) u.printed f →
        RunFinished o r₀ r₂ w₀ w₂ reader writer (Err f)
    stopped few reader writer f fails =
        let all = Consumes-trans r₀ r₁ r₂ u.given piece u.consumed read in
        let more = feed_appended o writer w₁ w₂ (u.given ++ piece) u.printed f fails in
        record {
          ran = λ reads writes.
              (grind (arith, all, ran_early o w₀ w₁ w₂ (u.given ++ piece) u.printed writer f writes u.appended fails));
          lag = lag o printer_represents printer_piece e u.given u.printed u.fed.taken r₀ r₂ w₀ w₁ w₂ piece more.0 all few u.appended more.1;
          ended = record { given = u.given ++ piece; consumed = all; ends = fed_ends o r₂ w₀ w₁ w₂ u.printed u.appended writer (u.given ++ piece) f fails };
        }

    -- A chunk was fed.
    pub fed_more : (f : EngineState Printer) → Continues printer_represents printer_piece f o (own_piece o) (u.given ++ piece) u.printed w₁ w₂ → InProgress f o r₀ r₂ w₀ w₂
    fed_more f goes = grind (arith, common_steps)
