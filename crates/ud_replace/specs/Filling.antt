-- Filling: the calls that fill a file with some bytes, and rename it over another one.
--
-- `old` and `new` are the calls before and after, the newest first.
use Rattle.std.specs.Prelude.{◌≡◌, ℕ, ◌≤◌, List, [], ◌∷◌, ◌++◌, length, take, Bool, true, false}
use Rattle.std.specs.Prelude.{Option, Some, None, Result, Ok, Err}
use Rattle.ud_replace.specs.declared.error.ReplaceError.{ReplaceError}
use Rattle.ud_replace.specs.declared.error.ReplaceError.TheVariants.{Read, ChangedMeanwhile, Write}
use Rattle.ud_replace.specs.Stats.{has_facts_of}
use Rattle.ud_replace.specs.declared.stat.FileStat.{FileStat}
use Rattle.ud_replace.specs.Calls.{Call, was_read, appended, given, synced, looked, renamed}

-- `FileTakes name old bytes new`: since `old`, the file took exactly `bytes`, part by part, and no
-- other call was made.
pub data FileTakes (name : List ℕ) (old : List Call) : List ℕ → List Call → Type 0 where
  nothing : FileTakes name old [] old
  part : {bytes : List ℕ} {calls : List Call} (rest : List ℕ) (n : ℕ) →
      FileTakes name old bytes calls → n ≤ length rest →
      FileTakes name old (bytes ++ take n rest) (appended name rest (Some n) ∷ calls)

-- `TakesNoByte answer`: an appending call took no byte.
abbrev pub TakesNoByte : Option ℕ → Type 0
TakesNoByte None = Unit {0}
TakesNoByte (Some n) = n ≡ 0

-- `AppendsAll name bytes old new all`: the file took all of `bytes`. Or it took a prefix of them,
-- and then a call with the rest took none.
pub data AppendsAll (name bytes : List ℕ) (old new : List Call) : Bool → Type 0 where
  all : FileTakes name old bytes new → AppendsAll name bytes old new true
  stopped : (taken rest : List ℕ) (calls : List Call) (answer : Option ℕ) →
      bytes ≡ taken ++ rest → FileTakes name old taken calls → TakesNoByte answer →
      new ≡ appended name rest answer ∷ calls → AppendsAll name bytes old new false

-- `IsVersionOf stat seen`: a look found a file with the version of `stat`.
abbrev pub IsVersionOf : FileStat → Option FileStat → Type 0
IsVersionOf stat None = ⊥
IsVersionOf stat (Some seen) = seen.version ≡ stat.version

-- `LooksAgain name stat old new same`: the file was looked at again, and `same` if its version is
-- the one in `stat`.
pub data LooksAgain (name : List ℕ) (stat : FileStat) (old new : List Call) : Bool → Type 0 where
  seen_same : (seen : Option FileStat) → IsVersionOf stat seen → new ≡ looked name seen ∷ old →
      LooksAgain name stat old new true
  seen_other : (seen : Option FileStat) → ¬ IsVersionOf stat seen → new ≡ looked name seen ∷ old →
      LooksAgain name stat old new false

-- `Confirms name text stat old new r`: the file was read again. It still had the bytes `text`, and
-- the mode, the owner and the links of `stat`. Then a look found it to be the version that was read
-- again. Or one of these calls failed or found something else, and `r` is the error.
pub data Confirms (name text : List ℕ) (stat : FileStat) (old new : List Call) :
    Result Unit ReplaceError → Type 0 where
  confirmed : (seen : FileStat) → has_facts_of stat seen ≡ true →
      LooksAgain name seen (was_read name text (Some seen) ∷ old) new true →
      Confirms name text stat old new (Ok tt)
  not_read : (again : List ℕ) → new ≡ was_read name again None ∷ old →
      Confirms name text stat old new (Err Read)
  other_text : (again : List ℕ) (seen : FileStat) → ¬ (again ≡ text) →
      new ≡ was_read name again (Some seen) ∷ old →
      Confirms name text stat old new (Err ChangedMeanwhile)
  other_facts : (seen : FileStat) → has_facts_of stat seen ≡ false →
      new ≡ was_read name text (Some seen) ∷ old →
      Confirms name text stat old new (Err ChangedMeanwhile)
  other_version : (seen : FileStat) → has_facts_of stat seen ≡ true →
      LooksAgain name seen (was_read name text (Some seen) ∷ old) new false →
      Confirms name text stat old new (Err ChangedMeanwhile)

-- `Fills name fresh before text stat old new r`: `fresh` took all of `text`, got the mode and owner
-- of `stat`, and its bytes reached the disk. Then `name` was confirmed to still have the bytes
-- `before`, and `fresh` was renamed to `name`, or the rename failed. Or one of the calls before
-- failed and was the last one, and `r` is the error.
pub data Fills (name fresh before text : List ℕ) (stat : FileStat) (old new : List Call) :
    Result Bool ReplaceError → Type 0 where
  filled : (taken seen : List Call) → AppendsAll fresh text old taken true →
      Confirms name before stat (synced fresh true ∷ given fresh stat true ∷ taken) seen (Ok tt) →
      new ≡ renamed fresh name true ∷ seen → Fills name fresh before text stat old new (Ok true)
  not_taken : AppendsAll fresh text old new false →
      Fills name fresh before text stat old new (Err Write)
  not_given : (taken : List Call) → AppendsAll fresh text old taken true →
      new ≡ given fresh stat false ∷ taken → Fills name fresh before text stat old new (Err Write)
  not_synced : (taken : List Call) → AppendsAll fresh text old taken true →
      new ≡ synced fresh false ∷ given fresh stat true ∷ taken →
      Fills name fresh before text stat old new (Err Write)
  not_confirmed : (e : ReplaceError) (taken : List Call) → AppendsAll fresh text old taken true →
      Confirms name before stat (synced fresh true ∷ given fresh stat true ∷ taken) new (Err e) →
      Fills name fresh before text stat old new (Err e)
  not_renamed : (taken seen : List Call) → AppendsAll fresh text old taken true →
      Confirms name before stat (synced fresh true ∷ given fresh stat true ∷ taken) seen (Ok tt) →
      new ≡ renamed fresh name false ∷ seen → Fills name fresh before text stat old new (Ok false)
