-- The files after each call of a replacement, if all answers are true.
use Rattle.std.proofs.Common.{◌≡◌, inl, ℕ, List, [], ◌∷◌, Bool, true, false, Option, Some, None, Result, Ok, Err, refl, sym, ◌∙◌, subst, true≢false, arith}
use Rattle.std.specs.Prelude.{bytes_eq}
use Rattle.std.proofs.lemmas.Bool.{cond-true, cond-false}
use Rattle.std.proofs.lemmas.Option.{same_Some}
use Rattle.ud_replace.specs.declared.error.Update.{Update}
use Rattle.ud_replace.specs.declared.error.ReplaceError.{ReplaceError}
use Rattle.ud_replace.specs.declared.node.FileId.{FileId}
use Rattle.ud_replace.specs.declared.stat.FileStat.{FileStat}
use Rattle.ud_replace.specs.Calls.{Call, was_read, asked, made, appended, given, synced, renamed, removed}
use Rattle.ud_replace.specs.TextOutcomes.{TextOptions, TextOutcome, HasTextOutcome}
use Rattle.ud_replace.specs.Filling.{FileTakes, nothing, part, AppendsAll, all, stopped, LooksAgain, Confirms, confirmed, not_read, other_text, other_facts, other_version, Fills, filled, not_taken, not_given, not_synced, not_confirmed, not_renamed}
use Rattle.ud_replace.specs.Replacing.{Renames, renames, removes, unrenamed, unrenamed_writes, not_made, locked, denied, denied_writes, Puts, several, read_only, one_link, several_writes, Judges, no_memory, faulty, same, differs, Replaces}
use Rattle.ud_replace.specs.Moments.{Files, content, AreTrue, EachCall, no_call, then_call, OldOrNew, touches}
use Rattle.ud_replace.proofs.CallLemmas.{same_name, name_of_test, untouched}

-- each call so far left each file as it was after `old`
record Quiet (o : TextOptions) (name : List ℕ) (first : Files) (old calls : List Call) : Type 0 where
  each : EachCall (λ (c : Call) (earlier : List Call). OldOrNew o name first old (c ∷ earlier)) old calls
  kept : (n bytes : List ℕ) → content first old n ≡ Some bytes → content first calls n ≡ Some bytes

-- no file that there was after `old` has the name `fresh`
abbrev Apart : Files → List Call → List ℕ → Type 0
Apart first old fresh = (n bytes : List ℕ) → content first old n ≡ Some bytes → bytes_eq n fresh ≡ false

-- one more call, which touches none of those files
quiet_next : {o : TextOptions} {name : List ℕ} {first : Files} {old calls : List Call} (c : Call) → Quiet o name first old calls →
    ((n bytes : List ℕ) → content first old n ≡ Some bytes → touches c n ≡ false) → Quiet o name first old (c ∷ calls)
quiet_next {first = first} {old = old} {calls = calls} c q t =
    let kept : (n bytes : List ℕ) → content first old n ≡ Some bytes → content first (c ∷ calls) n ≡ Some bytes =
    λ n bytes h. untouched c (content first calls) n (t n bytes h) ∙ q.kept n bytes h in
    record { each = then_call q.each (λ n bytes h. inl (kept n bytes h)); kept = kept }

quiet_at : {o : TextOptions} {name : List ℕ} {first : Files} {old calls new : List Call} → new ≡ calls → Quiet o name first old calls → Quiet o name first old new
quiet_at {o = o} {name = name} {first = first} {old = old} e q = subst (λ (l : List Call). Quiet o name first old l) (sym e) q

true_at : (first : Files) {calls new : List Call} → new ≡ calls → AreTrue first new → AreTrue first calls
true_at first e t = subst (λ (l : List Call). AreTrue first l) e t

-- the fresh file takes bytes
quiet_takes : {o : TextOptions} {name fresh : List ℕ} {first : Files} {old base : List Call} (bytes : List ℕ) (calls : List Call) →
    Apart first old fresh → Quiet o name first old base → FileTakes fresh base bytes calls → Quiet o name first old calls
quiet_takes bytes calls a q nothing = q
quiet_takes {fresh = fresh} _ _ a q (part {bytes = before} {calls = earlier} rest n taken fits) =
    quiet_next (appended fresh rest (Some n)) (quiet_takes before earlier a q taken) a

quiet_appends : {o : TextOptions} {name fresh text : List ℕ} {first : Files} {old base new : List Call} {whole : Bool} →
    Apart first old fresh → Quiet o name first old base → AppendsAll fresh text base new whole → Quiet o name first old new
quiet_appends a q (all taken) = quiet_takes _ _ a q taken
quiet_appends {fresh = fresh} a q (stopped taken rest calls answer joined took none e) =
    quiet_at e (quiet_next (appended fresh rest answer) (quiet_takes taken calls a q took) a)

quiet_looks : {o : TextOptions} {name : List ℕ} {stat : FileStat} {first : Files} {old base new : List Call} {found : Bool} →
    Quiet o name first old base → LooksAgain name stat base new found → Quiet o name first old new
quiet_looks q h = grind (arith, quiet_at, quiet_next)

-- the file is read and looked at once more
quiet_confirms : {o : TextOptions} {name text : List ℕ} {stat : FileStat} {first : Files} {old base new : List Call} {r : Result Unit ReplaceError} →
    Quiet o name first old base → Confirms name text stat base new r → Quiet o name first old new
quiet_confirms {name = name} {text = text} q (confirmed seen kept l) = quiet_looks (quiet_next (was_read name text (Some seen)) q (λ n bytes h. refl)) l
quiet_confirms {name = name} q (not_read again is) = quiet_at is (quiet_next (was_read name again None) q (λ n bytes h. refl))
quiet_confirms {name = name} q (other_text again seen other is) = quiet_at is (quiet_next (was_read name again (Some seen)) q (λ n bytes h. refl))
quiet_confirms {name = name} {text = text} q (other_facts seen other is) = quiet_at is (quiet_next (was_read name text (Some seen)) q (λ n bytes h. refl))
quiet_confirms {name = name} {text = text} q (other_version seen kept l) = quiet_looks (quiet_next (was_read name text (Some seen)) q (λ n bytes h. refl)) l

-- the fresh file is filled, up to the last look
quiet_filled : {o : TextOptions} {name fresh before text : List ℕ} {stat : FileStat} {first : Files}
    {old base new : List Call} {r : Result Unit ReplaceError} (taken : List Call) → Apart first old fresh →
    Quiet o name first old base → AppendsAll fresh text base taken true →
    Confirms name before stat (synced fresh true ∷ given fresh stat true ∷ taken) new r → Quiet o name first old new
quiet_filled {fresh = fresh} {stat = stat} taken a q h l = quiet_confirms (quiet_next (synced fresh true) (quiet_next (given fresh stat true) (quiet_appends a q h) a) (λ n bytes h. refl)) l

-- a rename that failed
quiet_not_renamed : {o : TextOptions} {name fresh : List ℕ} {first : Files} {old calls : List Call} → Quiet o name first old calls → Quiet o name first old (renamed fresh name false ∷ calls)
quiet_not_renamed q = record { each = then_call q.each (λ n bytes h. inl (q.kept n bytes h)); kept = q.kept }

-- after a failure no file but the fresh one was touched
quiet_fills : {o : TextOptions} {name fresh before text : List ℕ} {stat : FileStat} {first : Files} {old base new : List Call} (e : ReplaceError) →
    Apart first old fresh → Quiet o name first old base → Fills name fresh before text stat base new (Err e) → Quiet o name first old new
quiet_fills e a q (not_taken h) = quiet_appends a q h
quiet_fills {fresh = fresh} {stat = stat} e a q (not_given taken h is) = quiet_at is (quiet_next (given fresh stat false) (quiet_appends a q h) a)
quiet_fills {fresh = fresh} {stat = stat} e a q (not_synced taken h is) = quiet_at is (quiet_next (synced fresh false) (quiet_next (given fresh stat true) (quiet_appends a q h) a) (λ n bytes h. refl))
quiet_fills e a q (not_confirmed _ taken h l) = quiet_filled taken a q h l

-- nor was one if the rename failed
quiet_unrenamed : {o : TextOptions} {name fresh before text : List ℕ} {stat : FileStat} {first : Files} {old base new : List Call} →
    Apart first old fresh → Quiet o name first old base → Fills name fresh before text stat base new (Ok false) → Quiet o name first old new
quiet_unrenamed a q (not_renamed taken seen h l is) = quiet_at is (quiet_not_renamed (quiet_filled taken a q h l))

-- the bytes of the fresh file
bytes_of_takes : (fresh : List ℕ) (first : Files) {base : List Call} (bytes : List ℕ) (calls : List Call) →
    content first base fresh ≡ Some [] → FileTakes fresh base bytes calls → content first calls fresh ≡ Some bytes
bytes_of_takes fresh first bytes calls e nothing = e
bytes_of_takes fresh first _ _ e (part {bytes = before} {calls = earlier} rest n taken fits) =
    grind (arith, cond-true, same_name, bytes_of_takes fresh first before earlier e taken)

bytes_of_looks : (fresh : List ℕ) (first : Files) {name text : List ℕ} {stat : FileStat} {base new : List Call} {found : Bool} →
    content first base fresh ≡ Some text → LooksAgain name stat base new found → content first new fresh ≡ Some text
bytes_of_looks fresh first h k = grind arith

bytes_of_confirms : (fresh : List ℕ) (first : Files) {name before text : List ℕ} {stat : FileStat} {base new : List Call} →
    content first base fresh ≡ Some text → Confirms name before stat base new (Ok tt) → content first new fresh ≡ Some text
bytes_of_confirms fresh first h (confirmed seen kept l) = bytes_of_looks fresh first h l

bytes_of_appends : (fresh : List ℕ) (first : Files) {text : List ℕ} {base new : List Call} →
    content first base fresh ≡ Some [] → AppendsAll fresh text base new true → content first new fresh ≡ Some text
bytes_of_appends fresh first e (all taken) = bytes_of_takes fresh first _ _ e taken

-- true answers up to the end were true before
true_takes : (first : Files) {fresh : List ℕ} {base : List Call} (bytes : List ℕ) (calls : List Call) → FileTakes fresh base bytes calls → AreTrue first calls → AreTrue first base
true_takes first bytes calls nothing t = t
true_takes first _ _ (part {bytes = before} {calls = earlier} rest n taken fits) t = true_takes first before earlier taken t.1

true_appends : (first : Files) {fresh text : List ℕ} {base new : List Call} {whole : Bool} → AppendsAll fresh text base new whole → AreTrue first new → AreTrue first base
true_appends first h t = grind (arith, true_takes, true_at)

true_confirms : (first : Files) {name text : List ℕ} {stat : FileStat} {base new : List Call} {r : Result Unit ReplaceError} →
    Confirms name text stat base new r → AreTrue first new → AreTrue first base
true_confirms first h t = grind arith

true_filled : (first : Files) {name fresh before text : List ℕ} {stat : FileStat} {base new : List Call} {r : Result Unit ReplaceError} (taken : List Call) →
    AppendsAll fresh text base taken true → Confirms name before stat (synced fresh true ∷ given fresh stat true ∷ taken) new r → AreTrue first new → AreTrue first base
true_filled first taken h l t = true_appends first h (true_confirms first l t).1.1

true_fills : (first : Files) {name fresh before text : List ℕ} {stat : FileStat} {base new : List Call} {r : Result Bool ReplaceError} →
    Fills name fresh before text stat base new r → AreTrue first new → AreTrue first base
true_fills first h t = grind (arith, true_filled, true_at, true_appends)

-- the name of the fresh file was free, so no file had it
apart : (fresh : List ℕ) {o : TextOptions} {name : List ℕ} {first : Files} {old calls : List Call} → Quiet o name first old calls → content first calls fresh ≡ None → Apart first old fresh
apart fresh q free n bytes h = grind (arith, name_of_test)

-- what a replacement shows at each of its moments
abbrev Moments : TextOptions → List ℕ → Files → List Call → List Call → Type 0
Moments o name first old new = EachCall (λ (c : Call) (earlier : List Call). OldOrNew o name first old (c ∷ earlier)) old new

moments_at : {o : TextOptions} {name : List ℕ} {first : Files} {old calls new : List Call} → new ≡ calls → Moments o name first old calls → Moments o name first old new
moments_at {o = o} {name = name} {first = first} {old = old} e m = subst (λ (l : List Call). Moments o name first old l) (sym e) m

-- the fresh file is made
quiet_made : {o : TextOptions} {name fresh : List ℕ} {first : Files} {old base : List Call} → Apart first old fresh → Quiet o name first old base → Quiet o name first old (made fresh (Ok tt) ∷ base)
quiet_made {fresh = fresh} a q = quiet_next (made fresh (Ok tt)) q a

moments_filled : {o : TextOptions} {name fresh text : List ℕ} {stat : FileStat} {first : Files} {old base new : List Call} (a : TextOutcome) →
    HasTextOutcome o text a → a.fault ≡ None → content first old name ≡ Some text → Quiet o name first old base → AreTrue first new →
    Fills name fresh text a.output stat (made fresh (Ok tt) ∷ base) new (Ok true) → Moments o name first old new
moments_filled {fresh = fresh} {first = first} {base = base} a has sound read q t (filled taken seen h l is) =
    let free = (true_fills first (filled taken seen h l is) t).0 in
    let away = apart fresh q free in
    let quiet = quiet_filled taken away (quiet_made away q) h l in
    let empty = cond-true (bytes_eq fresh fresh) (Some []) (content first base fresh) (same_name fresh) in
    let full = bytes_of_confirms fresh first (bytes_of_appends fresh first empty h) l in
    moments_at is (then_call quiet.each (grind (arith, cond-false, name_of_test, same_Some, cond-true, has, sound, read, away, quiet, full)))

moments_renames : {o : TextOptions} {name fresh text : List ℕ} {stat : FileStat} {first : Files} {old base new : List Call} {r : Result Update ReplaceError} (a : TextOutcome) →
    HasTextOutcome o text a → a.fault ≡ None → content first old name ≡ Some text → Quiet o name first old base → AreTrue first new →
    Renames false name fresh text a.output stat base new r → Moments o name first old new
moments_renames a has sound read q t (renames h) = moments_filled a has sound read q t h
moments_renames {fresh = fresh} {first = first} a has sound read q t (removes e calls gone h is) =
    let away = apart fresh q (true_fills first h (true_at first is t).1).0 in
    (quiet_at is (quiet_next (removed fresh gone) (quiet_fills e away (quiet_made away q) h) away)).each
moments_renames {fresh = fresh} {first = first} a has sound read q t (unrenamed calls gone not_into h is) =
    let away = apart fresh q (true_fills first h (true_at first is t).1).0 in
    (quiet_at is (quiet_next (removed fresh gone) (quiet_unrenamed away (quiet_made away q) h) away)).each
moments_renames a has sound read q t (unrenamed_writes calls gone into h l) = absurd (true≢false (sym into))
moments_renames {fresh = fresh} a has sound read q t (not_made is) = moments_at is (then_call q.each (λ n bytes h. inl (q.kept n bytes h)))
moments_renames {fresh = fresh} a has sound read q t (locked is) = moments_at is (then_call q.each (λ n bytes h. inl (q.kept n bytes h)))
moments_renames {fresh = fresh} a has sound read q t (denied not_into is) = moments_at is (then_call q.each (λ n bytes h. inl (q.kept n bytes h)))
moments_renames a has sound read q t (denied_writes into h) = absurd (true≢false (sym into))

moments_puts : {o : TextOptions} {name fresh text : List ℕ} {stat : FileStat} {first : Files} {old base new : List Call} {r : Result Update ReplaceError} (a : TextOutcome) →
    HasTextOutcome o text a → a.fault ≡ None → content first old name ≡ Some text → Quiet o name first old base → AreTrue first new →
    Puts false name fresh text a.output stat base new r → Moments o name first old new
moments_puts a has sound read q t (several many not_into is) = (quiet_at is q).each
moments_puts {name = name} a has sound read q t (read_only may is) = (quiet_at is (quiet_next (asked name false) q (λ n bytes h. refl))).each
moments_puts {name = name} a has sound read q t (one_link few h) = moments_renames a has sound read (quiet_next (asked name true) q (λ n bytes h. refl)) t h
moments_puts a has sound read q t (several_writes many into h) = absurd (true≢false (sym into))

true_puts : (first : Files) {name fresh before text : List ℕ} {stat : FileStat} {base new : List Call} {r : Result Update ReplaceError} →
    Puts false name fresh before text stat base new r → AreTrue first new → AreTrue first base
true_puts first h t = grind (arith, true_at, true_fills)

-- nothing was asked but to read the file
quiet_read : (o : TextOptions) (name : List ℕ) (first : Files) (old : List Call) (text : List ℕ) (seen : Option FileStat) → Quiet o name first old (was_read name text seen ∷ old)
quiet_read o name first old text seen =
    let start : Quiet o name first old old = record { each = no_call; kept = λ n bytes h. h } in
    quiet_next (was_read name text seen) start (λ n bytes h. refl)

moments_judges : (o : TextOptions) (name fresh text : List ℕ) (stat : FileStat) (first : Files) (old new : List Call) (r : Result Update ReplaceError) →
    AreTrue first new → Judges o false name fresh text stat (was_read name text (Some stat) ∷ old) new r → Moments o name first old new
moments_judges o name fresh text stat first old new _ t (no_memory is) = (quiet_at is (quiet_read o name first old text (Some stat))).each
moments_judges o name fresh text stat first old new _ t (faulty a f has told sound is) = (quiet_at is (quiet_read o name first old text (Some stat))).each
moments_judges o name fresh text stat first old new _ t (same a has sound none is) = (quiet_at is (quiet_read o name first old text (Some stat))).each
moments_judges o name fresh text stat first old new _ t (differs a has sound some h) =
    moments_puts a has sound (true_puts first h t).0 (quiet_read o name first old text (Some stat)) t h

pub old_or_new : (o : TextOptions) (first : Files) (id : FileId) (name fresh text : List ℕ) (old new : List Call) (r : Result Update ReplaceError) → Replaces o false id name fresh text old new r →
    AreTrue first new → EachCall (λ (c : Call) (earlier : List Call). OldOrNew o name first old (c ∷ earlier)) old new
old_or_new o first id name fresh text old new r h t = grind (arith, quiet_at, quiet_read, moments_judges)
