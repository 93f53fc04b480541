-- Answers: the laws of runs, stated for arguments, an input and the answer to them.
use Rattle.std.proofs.Common.{◌≡◌, ◌≢◌, ℕ, List, map, Bool, false, not, bytes_eq, Option, None, refl, arith}
use Rattle.ud_model.specs.text.Lines.{lines_of}
use Rattle.ud_model.specs.text.Scans.{Reading}
use Rattle.ud_model.specs.sections.Tree.{Nodes, closed}
use Rattle.ud_model.specs.sections.Faults.{Fault}
use Rattle.ud_model.specs.answer.CommandLine.{options_of}
use Rattle.ud_model.specs.answer.Answer.{Answer, IsAnswer, refused, ran, status_by, status_of}
use Rattle.ud_laws.specs.answer.Successes.{copy_answer}
use Rattle.ud_model.specs.laws.Worlds.{World, selected}
use Rattle.ud_model.specs.laws.Rereading.{IsPlain, IsTreeOf, LinesFit, line_bytes, KeepsTruths}
use Rattle.ud_laws.specs.output.CSelection.{IsCWorld}
use Rattle.ud_model.specs.declared.settings.Settings.{Settings}
use Rattle.ud_model.specs.declared.settings.Listing.TheVariants.{Off}
use Rattle.ud_model.proofs.output.Changed.{changed}
use Rattle.ud_model.proofs.output.RereadLaws.{runs_output}
use Rattle.ud_laws.proofs.output.SelectedAgain.{c_selected_again}

-- A run whose status isn't 2 has no fault.
pub faultless : (s : Settings) (d : Bool) (f : Option Fault) → status_of s d f ≢ 2 → f ≡ None
faultless s d f n = grind arith

-- A second run leaves the output as it is.
pub answered_again : {args : List (List ℕ)} {input : List ℕ} {a : Answer} → IsAnswer args input a → a.status ≢ 2 → IsPlain (options_of args) →
    LinesFit (lines_of a.output) → IsAnswer args a.output (copy_answer args a.output)
answered_again h n p fit = grind (arith, runs_output, faultless, refused, ran)

-- C selects the same lines.
pub answered_selects : {args : List (List ℕ)} {input : List ℕ} {a : Answer} → IsAnswer args input a → a.status ≢ 2 → IsPlain (options_of args) →
    (ns us : Nodes Reading) → IsTreeOf (options_of args) input (closed ns) → IsTreeOf (options_of args) a.output (closed us) →
    (w v : World Reading) → IsCWorld (options_of args).table w ns → KeepsTruths w ns v us → map line_bytes (selected v us) ≡ map line_bytes (selected w ns)
answered_selects (refused f e) n p ns us b c w v g t = absurd (n refl)
answered_selects {args = args} {input = input} (ran r e d) n p ns us b c w v g t =
    c_selected_again (record {
      options = options_of args;
      input = input;
      outcome = r;
      clean = record { plain = p; runs = d; faultless = faultless (options_of args).settings r.differs r.fault n };
      before = ns;
      of_input = b;
      after = us;
      of_output = c;
    }) w g v t

-- The status is that of a copy exactly if the bytes are the same.
pub answered_status : {args : List (List ℕ)} {input : List ℕ} {a : Answer} → IsAnswer args input a → a.status ≢ 2 →
    (options_of args).settings.renumber ≡ false → (options_of args).settings.listing ≡ Off →
    a.status ≡ status_by (options_of args).settings.exit_mode (not (bytes_eq a.output input))
answered_status h g k m = grind (arith, absurd, changed)
