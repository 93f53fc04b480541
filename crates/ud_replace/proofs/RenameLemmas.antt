-- The calls of a replacement touch no file but the fresh one, up to the rename.
use Rattle.std.proofs.Common.{◌≡◌, inl, inr, ℕ, List, ◌∷◌, Bool, true, false, Option, Some, None, Result, Ok, refl, sym, ◌∙◌, subst, true≢false, arith}
use Rattle.ud_replace.specs.declared.error.Update.{Update}
use Rattle.ud_replace.specs.declared.error.ReplaceError.{ReplaceError}
use Rattle.ud_replace.specs.declared.node.FileId.{FileId}
use Rattle.ud_replace.specs.declared.stat.FileStat.{FileStat}
use Rattle.ud_replace.specs.Calls.{Call, was_read, asked, made, given, synced}
use Rattle.ud_replace.specs.TextOutcomes.{TextOptions, TextOutcome, HasTextOutcome}
use Rattle.ud_replace.specs.Filling.{FileTakes, nothing, part, AppendsAll, all, stopped, LooksAgain, Confirms, confirmed, not_read, other_text, other_facts, other_version, Fills, filled, not_taken, not_given, not_synced, not_confirmed, not_renamed}
use Rattle.ud_replace.specs.Replacing.{Renames, renames, removes, unrenamed, unrenamed_writes, not_made, locked, denied, denied_writes, Puts, several, read_only, one_link, several_writes, Judges, no_memory, faulty, same, differs, Replaces}
use Rattle.ud_replace.specs.Moments.{EachCall, no_call, then_call, touches, TookOutput, TouchesFreshOnly}
use Rattle.ud_replace.proofs.CallLemmas.{name_of_test}

-- each call since `old` touches the fresh file alone, or is the rename
abbrev Careful : TextOptions → List ℕ → List ℕ → List Call → List Call → Type 0
Careful o name fresh old new = EachCall (TouchesFreshOnly o name fresh old) old new

careful_at : {o : TextOptions} {name fresh : List ℕ} {old calls new : List Call} → new ≡ calls → Careful o name fresh old calls → Careful o name fresh old new
careful_at {o = o} {name = name} {fresh = fresh} {old = old} e m = subst (λ (l : List Call). Careful o name fresh old l) (sym e) m

-- one more call, which touches no file
touches_none : {o : TextOptions} {name fresh : List ℕ} {old calls : List Call} (c : Call) → Careful o name fresh old calls → ((n : List ℕ) → touches c n ≡ false) → Careful o name fresh old (c ∷ calls)
touches_none c q t = then_call q (inl (λ n h. absurd (true≢false (sym h ∙ t n))))

takes_careful : {o : TextOptions} {name fresh : List ℕ} {old base : List Call} (bytes : List ℕ) (calls : List Call) →
    Careful o name fresh old base → FileTakes fresh base bytes calls → Careful o name fresh old calls
takes_careful bytes calls q nothing = q
takes_careful {fresh = fresh} _ _ q (part {bytes = before} {calls = earlier} rest n taken fits) =
    then_call (takes_careful before earlier q taken) (inl (λ m. name_of_test m fresh))

appends_careful : {o : TextOptions} {name fresh text : List ℕ} {old base new : List Call} {whole : Bool} →
    Careful o name fresh old base → AppendsAll fresh text base new whole → Careful o name fresh old new
appends_careful q (all taken) = takes_careful _ _ q taken
appends_careful {fresh = fresh} q (stopped taken rest calls answer joined took none e) = careful_at e (then_call (takes_careful taken calls q took) (inl (λ m. name_of_test m fresh)))

looks_careful : {o : TextOptions} {name fresh : List ℕ} {stat : FileStat} {old base new : List Call} {found : Bool} →
    Careful o name fresh old base → LooksAgain name stat base new found → Careful o name fresh old new
looks_careful q h = grind (arith, careful_at, touches_none)

-- the file is read and looked at once more
confirms_careful : {o : TextOptions} {name fresh text : List ℕ} {stat : FileStat} {old base new : List Call} {r : Result Unit ReplaceError} →
    Careful o name fresh old base → Confirms name text stat base new r → Careful o name fresh old new
confirms_careful {name = name} {text = text} q (confirmed seen kept l) = looks_careful (touches_none (was_read name text (Some seen)) q (λ n. refl)) l
confirms_careful {name = name} q (not_read again is) = careful_at is (touches_none (was_read name again None) q (λ n. refl))
confirms_careful {name = name} q (other_text again seen other is) = careful_at is (touches_none (was_read name again (Some seen)) q (λ n. refl))
confirms_careful {name = name} {text = text} q (other_facts seen other is) = careful_at is (touches_none (was_read name text (Some seen)) q (λ n. refl))
confirms_careful {name = name} {text = text} q (other_version seen kept l) = looks_careful (touches_none (was_read name text (Some seen)) q (λ n. refl)) l

-- the fresh file is filled, up to the last look
filled_careful : {o : TextOptions} {name fresh before text : List ℕ} {stat : FileStat} {old base new : List Call} {r : Result Unit ReplaceError} (taken : List Call) →
    Careful o name fresh old base → AppendsAll fresh text base taken true → Confirms name before stat (synced fresh true ∷ given fresh stat true ∷ taken) new r → Careful o name fresh old new
filled_careful {fresh = fresh} taken q h l = confirms_careful (touches_none (synced fresh true) (then_call (appends_careful q h) (inl (λ m. name_of_test m fresh))) (λ n. refl)) l

-- the calls up to the one that makes the fresh file
abbrev up_to_made : List ℕ → List ℕ → List ℕ → FileStat → List Call → List Call
up_to_made name fresh text stat old = made fresh (Ok tt) ∷ asked name true ∷ was_read name text (Some stat) ∷ old

-- before the rename, the fresh file took the whole output
took_output : {o : TextOptions} {name fresh text : List ℕ} {stat : FileStat} {old new : List Call} (a : TextOutcome) (taken : List Call) → HasTextOutcome o text a → a.fault ≡ None →
    AppendsAll fresh a.output (up_to_made name fresh text stat old) taken true →
    Confirms name text stat (synced fresh true ∷ given fresh stat true ∷ taken) new (Ok tt) → TookOutput o name fresh old new
took_output a taken has sound h confirms = grind arith

fills_careful : {o : TextOptions} {name fresh text : List ℕ} {stat : FileStat} {old new : List Call} {r : Result Bool ReplaceError} (a : TextOutcome) → HasTextOutcome o text a → a.fault ≡ None →
    Careful o name fresh old (up_to_made name fresh text stat old) →
    Fills name fresh text a.output stat (up_to_made name fresh text stat old) new r → Careful o name fresh old new
fills_careful a has sound q (filled taken seen h l is) =
    careful_at is (then_call (filled_careful taken q h l) (inr (true, refl, took_output a taken has sound h l)))
fills_careful a has sound q (not_taken h) = appends_careful q h
fills_careful {fresh = fresh} {stat = stat} a has sound q (not_given taken h is) = careful_at is (then_call (appends_careful q h) (inl (λ m. name_of_test m fresh)))
fills_careful {fresh = fresh} {stat = stat} a has sound q (not_synced taken h is) =
    careful_at is (touches_none (synced fresh false) (then_call (appends_careful q h) (inl (λ m. name_of_test m fresh))) (λ n. refl))
fills_careful a has sound q (not_confirmed e taken h l) = filled_careful taken q h l
fills_careful a has sound q (not_renamed taken seen h l is) =
    careful_at is (then_call (filled_careful taken q h l) (inr (false, refl, took_output a taken has sound h l)))

renames_careful : {o : TextOptions} {name fresh text : List ℕ} {stat : FileStat} {old new : List Call} {r : Result Update ReplaceError} (a : TextOutcome) → HasTextOutcome o text a → a.fault ≡ None →
    Careful o name fresh old (asked name true ∷ was_read name text (Some stat) ∷ old) →
    Renames false name fresh text a.output stat (asked name true ∷ was_read name text (Some stat) ∷ old) new r → Careful o name fresh old new
renames_careful {fresh = fresh} a has sound q (renames h) = fills_careful a has sound (then_call q (inl (λ m. name_of_test m fresh))) h
renames_careful {fresh = fresh} a has sound q (removes e calls gone h is) =
    careful_at is (then_call (fills_careful a has sound (then_call q (inl (λ m. name_of_test m fresh))) h) (inl (λ m. name_of_test m fresh)))
renames_careful {fresh = fresh} a has sound q (unrenamed calls gone not_into h is) =
    careful_at is (then_call (fills_careful a has sound (then_call q (inl (λ m. name_of_test m fresh))) h) (inl (λ m. name_of_test m fresh)))
renames_careful a has sound q (unrenamed_writes calls gone into h l) = absurd (true≢false (sym into))
renames_careful {fresh = fresh} a has sound q (not_made is) = careful_at is (then_call q (inl (λ m. name_of_test m fresh)))
renames_careful {fresh = fresh} a has sound q (locked is) = careful_at is (then_call q (inl (λ m. name_of_test m fresh)))
renames_careful {fresh = fresh} a has sound q (denied not_into is) = careful_at is (then_call q (inl (λ m. name_of_test m fresh)))
renames_careful a has sound q (denied_writes into h) = absurd (true≢false (sym into))

puts_careful : {o : TextOptions} {name fresh text : List ℕ} {stat : FileStat} {old new : List Call} {r : Result Update ReplaceError} (a : TextOutcome) → HasTextOutcome o text a → a.fault ≡ None →
    Careful o name fresh old (was_read name text (Some stat) ∷ old) →
    Puts false name fresh text a.output stat (was_read name text (Some stat) ∷ old) new r → Careful o name fresh old new
puts_careful a has sound q (several many not_into is) = careful_at is q
puts_careful {name = name} a has sound q (read_only may is) = careful_at is (touches_none (asked name false) q (λ n. refl))
puts_careful {name = name} a has sound q (one_link few h) = renames_careful a has sound (touches_none (asked name true) q (λ n. refl)) h
puts_careful a has sound q (several_writes many into h) = absurd (true≢false (sym into))

reads_careful : (o : TextOptions) (name fresh : List ℕ) (old : List Call) (text : List ℕ) (seen : Option FileStat) → Careful o name fresh old (was_read name text seen ∷ old)
reads_careful o name fresh old text seen =
    let start : Careful o name fresh old old = no_call in touches_none (was_read name text seen) start (λ n. refl)

judges_careful : (o : TextOptions) (name fresh text : List ℕ) (stat : FileStat) (old new : List Call) (r : Result Update ReplaceError) →
    Judges o false name fresh text stat (was_read name text (Some stat) ∷ old) new r → Careful o name fresh old new
judges_careful o name fresh text stat old new _ (no_memory is) = careful_at is (reads_careful o name fresh old text (Some stat))
judges_careful o name fresh text stat old new _ (faulty a f has told sound is) = careful_at is (reads_careful o name fresh old text (Some stat))
judges_careful o name fresh text stat old new _ (same a has sound none is) = careful_at is (reads_careful o name fresh old text (Some stat))
judges_careful o name fresh text stat old new _ (differs a has sound some h) = puts_careful a has sound (reads_careful o name fresh old text (Some stat)) h

pub one_rename : (o : TextOptions) (id : FileId) (name fresh text : List ℕ) (old new : List Call) (r : Result Update ReplaceError) → Replaces o false id name fresh text old new r →
    EachCall (TouchesFreshOnly o name fresh old) old new
one_rename o id name fresh text old new r h = grind (arith, careful_at, reads_careful, judges_careful)
