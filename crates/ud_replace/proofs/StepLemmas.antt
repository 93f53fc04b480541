-- A relation between calls goes on from the calls that the step before made.
use Rattle.std.proofs.Common.{◌≡◌, ℕ, List, ◌∷◌, Bool, true, false, not, Result, Ok, Err, refl, subst, arith}
use Rattle.std.specs.Prelude.{bytes_eq}
use Rattle.std.proofs.lemmas.Slice.Eq.{bytes_eq-Decides}
use Rattle.ud_engine.specs.declared.fault.RunFault.{RunFault}
use Rattle.ud_replace.specs.declared.error.Update.{Update}
use Rattle.ud_replace.specs.declared.error.ReplaceError.{ReplaceError}
use Rattle.ud_replace.specs.declared.stat.FileStat.{FileStat}
use Rattle.ud_replace.specs.Calls.{Call, synced, given, renamed}
use Rattle.ud_replace.specs.TextOutcomes.{TextOptions}
use Rattle.ud_replace.specs.Filling.{AppendsAll, LooksAgain, Confirms, Fills, filled, not_renamed}
use Rattle.ud_replace.specs.Replacing.{Overwrites, Judges}

pub looks_from : {name : List ℕ} {stat : FileStat} {old base new : List Call} {b : Bool} → old ≡ base → LooksAgain name stat old new b → LooksAgain name stat base new b
looks_from {name = name} {stat = stat} {new = new} {b = b} e h = subst (λ (l : List Call). LooksAgain name stat l new b) e h

pub confirms_from : {name text : List ℕ} {stat : FileStat} {old base new : List Call} {r : Result Unit ReplaceError} →
    old ≡ base → Confirms name text stat old new r → Confirms name text stat base new r
confirms_from {name = name} {text = text} {stat = stat} {new = new} {r = r} e h = subst (λ (l : List Call). Confirms name text stat l new r) e h

pub fills_from : {name fresh before text : List ℕ} {stat : FileStat} {old base new : List Call} {r : Result Bool ReplaceError} → old ≡ base →
    Fills name fresh before text stat old new r → Fills name fresh before text stat base new r
fills_from e h = grind arith

pub overwrites_from : {name before text : List ℕ} {stat : FileStat} {old base new : List Call}
    {r : Result Update ReplaceError} → old ≡ base → Overwrites name before text stat old new r →
    Overwrites name before text stat base new r
overwrites_from {name = name} {before = before} {text = text} {stat = stat} {new = new} {r = r} e h = subst (λ (l : List Call). Overwrites name before text stat l new r) e h

pub judges_from : {o : TextOptions} {into : Bool} {name fresh text : List ℕ} {stat : FileStat} {old base new : List Call} {r : Result Update ReplaceError} → old ≡ base →
    Judges o into name fresh text stat old new r → Judges o into name fresh text stat base new r
judges_from e h = grind arith

-- a stream whose failure would be another error hasn't failed
pub works : (failed : Bool) (r : Result Bool RunFault) (e f : RunFault) → (failed ≡ true → r ≡ Err e) → r ≡ Err f → (f ≡ e → ⊥) → failed ≡ false
works false r e f h is other = refl
works true r e f h is other = grind arith

-- the test of the bytes that were read again
pub still_text : (again text : List ℕ) {slice : List ℕ} → slice ≡ again → false ≡ not (bytes_eq slice text) → again ≡ text
still_text again text e h = grind (arith, bytes_eq-Decides)

pub no_text : (again text : List ℕ) {slice : List ℕ} → slice ≡ again → true ≡ not (bytes_eq slice text) → again ≡ text → ⊥
no_text again text e h is = grind (arith, bytes_eq-Decides)

-- the file is filled, whether or not the rename worked
pub fills_by : {name fresh before text : List ℕ} {stat : FileStat} {old new : List Call} (renames : Bool) (taken seen : List Call) → AppendsAll fresh text old taken true →
    Confirms name before stat (synced fresh true ∷ given fresh stat true ∷ taken) seen (Ok tt) → new ≡ renamed fresh name renames ∷ seen → Fills name fresh before text stat old new (Ok renames)
fills_by true taken seen h l is = filled taken seen h l is
fills_by false taken seen h l is = not_renamed taken seen h l is
