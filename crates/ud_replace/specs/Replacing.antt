-- Replacing: the calls that replace a file by the output for it.
--
--   Overwrites name before text stat old new r           the output is written into the file
--   Renames into name fresh before text stat old new r   a file with the output is renamed over it
--   Puts into name fresh before text stat old new r      either of these
--   Judges o into name fresh text stat old new r         what follows once the file is read
--   Replaces o into id name fresh text old new r         all calls of `replace`, which returned `r`
--   Keeps o into id name fresh old new r text output edited   the same calls, with the output
--   RenamesAt, PutsAt, ReplacesAt, KeepsAt               the same for a `Target`
--
-- `old` and `new` are the calls before and after, the newest first.
use Rattle.std.specs.Prelude.{◌≡◌, ◌⊎◌, ℕ, ◌<◌, ◌≤◌, List, ◌∷◌, Bool, true, false}
use Rattle.std.specs.Prelude.{Some, None, Result, Ok, Err}
use Rattle.ud_engine.specs.declared.fault.RunFault.{RunFault}
use Rattle.ud_engine.specs.Finishing.{text_fault_of}
use Rattle.ud_replace.specs.declared.error.Update.{Update}
use Rattle.ud_replace.specs.declared.error.Update.TheVariants.{Unchanged, Replaced, WrittenInto}
use Rattle.ud_replace.specs.declared.error.ReplaceError.{ReplaceError}
use Rattle.ud_replace.specs.declared.error.ReplaceError.TheVariants.{Text, Read, OutOfMemory}
use Rattle.ud_replace.specs.declared.error.ReplaceError.TheVariants.{ReadOnly, SeveralLinks}
use Rattle.ud_replace.specs.declared.error.ReplaceError.TheVariants.{DirectoryDenied, HalfWritten}
use Rattle.ud_replace.specs.declared.error.ReplaceError.TheVariants.{ChangedMeanwhile, Locked}
use Rattle.ud_replace.specs.declared.error.ReplaceError.TheVariants.{Write, NotRenamed}
use Rattle.ud_replace.specs.declared.directory.CreateError.TheVariants.{Denied, Taken, Failed}
use Rattle.ud_replace.specs.declared.node.FileId.{FileId}
use Rattle.ud_replace.specs.declared.stat.FileStat.{FileStat}
use Rattle.ud_replace.specs.declared.replacement.Target.{Target}
use Rattle.ud_replace.specs.Calls.{Call, was_read, asked, made, overwrote, removed}
use Rattle.ud_replace.specs.Stats.{is_of}
use Rattle.ud_replace.specs.declared.kept.Kept.{Kept}
use Rattle.ud_replace.specs.MadeOutcomes.{output_of}
use Rattle.ud_replace.specs.TextOutcomes.{TextOptions, TextOutcome, HasTextOutcome, IsOutputOf}
use Rattle.ud_replace.specs.Filling.{Confirms, Fills}

-- `Overwrites name before text stat old new r`: the file was confirmed to still have the bytes
-- `before`. Then `text` was written into it; if that failed, its old bytes were.
pub data Overwrites (name before text : List ℕ) (stat : FileStat) (old new : List Call) :
    Result Update ReplaceError → Type 0 where
  unconfirmed : (e : ReplaceError) → Confirms name before stat old new (Err e) →
      Overwrites name before text stat old new (Err e)
  written : (seen : List Call) → Confirms name before stat old seen (Ok tt) →
      new ≡ overwrote name text true ∷ seen →
      Overwrites name before text stat old new (Ok WrittenInto)
  restored : (seen : List Call) → Confirms name before stat old seen (Ok tt) →
      new ≡ overwrote name before true ∷ overwrote name text false ∷ seen →
      Overwrites name before text stat old new (Err Write)
  spoiled : (seen : List Call) → Confirms name before stat old seen (Ok tt) →
      new ≡ overwrote name before false ∷ overwrote name text false ∷ seen →
      Overwrites name before text stat old new (Err HalfWritten)

-- `Renames into name fresh before text stat old new r`: the file `fresh` was created, filled with
-- `text`, and renamed to `name`. If that failed, `fresh` was removed. If the directory can't be
-- written, or the rename failed, the file is written into, but only if `into`.
pub data Renames (into : Bool) (name fresh before text : List ℕ) (stat : FileStat)
    (old new : List Call) : Result Update ReplaceError → Type 0 where
  renames : Fills name fresh before text stat (made fresh (Ok tt) ∷ old) new (Ok true) →
      Renames into name fresh before text stat old new (Ok Replaced)
  removes : (e : ReplaceError) (calls : List Call) (gone : Bool) →
      Fills name fresh before text stat (made fresh (Ok tt) ∷ old) calls (Err e) →
      new ≡ removed fresh gone ∷ calls → Renames into name fresh before text stat old new (Err e)
  unrenamed : (calls : List Call) (gone : Bool) → into ≡ false →
      Fills name fresh before text stat (made fresh (Ok tt) ∷ old) calls (Ok false) →
      new ≡ removed fresh gone ∷ calls →
      Renames into name fresh before text stat old new (Err NotRenamed)
  unrenamed_writes : {r : Result Update ReplaceError} (calls : List Call) (gone : Bool) →
      into ≡ true → Fills name fresh before text stat (made fresh (Ok tt) ∷ old) calls (Ok false) →
      Overwrites name before text stat (removed fresh gone ∷ calls) new r →
      Renames into name fresh before text stat old new r
  not_made : new ≡ made fresh (Err Failed) ∷ old →
      Renames into name fresh before text stat old new (Err Write)
  locked : new ≡ made fresh (Err Taken) ∷ old →
      Renames into name fresh before text stat old new (Err Locked)
  denied : into ≡ false → new ≡ made fresh (Err Denied) ∷ old →
      Renames into name fresh before text stat old new (Err DirectoryDenied)
  denied_writes : {r : Result Update ReplaceError} → into ≡ true →
      Overwrites name before text stat (made fresh (Err Denied) ∷ old) new r →
      Renames into name fresh before text stat old new r

-- `Puts into name fresh before text stat old new r`: a file with several links is left alone,
-- unless `into`. Else, if the user may write into the file, it is replaced by another file if it
-- has one link, and written into if it has several.
pub data Puts (into : Bool) (name fresh before text : List ℕ) (stat : FileStat)
    (old new : List Call) : Result Update ReplaceError → Type 0 where
  several : 1 < stat.links → into ≡ false → new ≡ old →
      Puts into name fresh before text stat old new (Err SeveralLinks)
  read_only : (stat.links ≤ 1) ⊎ (into ≡ true) → new ≡ asked name false ∷ old →
      Puts into name fresh before text stat old new (Err ReadOnly)
  one_link : {r : Result Update ReplaceError} → stat.links ≤ 1 →
      Renames into name fresh before text stat (asked name true ∷ old) new r →
      Puts into name fresh before text stat old new r
  several_writes : {r : Result Update ReplaceError} → 1 < stat.links → into ≡ true →
      Overwrites name before text stat (asked name true ∷ old) new r →
      Puts into name fresh before text stat old new r

-- `Judges o into name fresh text stat old new r`: no call was made, unless the outcome of `text`
-- has no fault and differs. Then the file was replaced by the output of that outcome.
pub data Judges (o : TextOptions) (into : Bool) (name fresh text : List ℕ) (stat : FileStat)
    (old new : List Call) : Result Update ReplaceError → Type 0 where
  no_memory : new ≡ old → Judges o into name fresh text stat old new (Err OutOfMemory)
  faulty : (a : TextOutcome) (f : RunFault) → HasTextOutcome o text a → a.fault ≡ text_fault_of f →
      ¬ (a.fault ≡ None) → new ≡ old → Judges o into name fresh text stat old new (Err (Text f))
  same : (a : TextOutcome) → HasTextOutcome o text a → a.fault ≡ None → a.differs ≡ false →
      new ≡ old → Judges o into name fresh text stat old new (Ok Unchanged)
  differs : {r : Result Update ReplaceError} (a : TextOutcome) → HasTextOutcome o text a →
      a.fault ≡ None → a.differs ≡ true → Puts into name fresh text a.output stat old new r →
      Judges o into name fresh text stat old new r

-- `Replaces o into id name fresh text old new r`: the file was read as `text`, and it was the file
-- `id`. The text decides the rest. If reading failed, `text` is what was read.
pub data Replaces (o : TextOptions) (into : Bool) (id : FileId) (name fresh text : List ℕ)
    (old new : List Call) : Result Update ReplaceError → Type 0 where
  unread : new ≡ was_read name text None ∷ old →
      Replaces o into id name fresh text old new (Err Read)
  other_file : (stat : FileStat) → is_of id stat ≡ false →
      new ≡ was_read name text (Some stat) ∷ old →
      Replaces o into id name fresh text old new (Err ChangedMeanwhile)
  judged : {r : Result Update ReplaceError} (stat : FileStat) → is_of id stat ≡ true →
      Judges o into name fresh text stat (was_read name text (Some stat) ∷ old) new r →
      Replaces o into id name fresh text old new r

-- `Keeps o into id name fresh old new r text output edited`: the file `id` was read once, and its
-- `text` decided the rest. `output` and `edited` are those of the outcome of this text.
pub data Keeps (o : TextOptions) (into : Bool) (id : FileId) (name fresh : List ℕ)
    (old new : List Call) (r : Result Update ReplaceError) (text output : List ℕ) (edited : ℕ) :
    Type 0 where
  keeps : (stat : FileStat) → is_of id stat ≡ true →
      Judges o into name fresh text stat (was_read name text (Some stat) ∷ old) new r →
      IsOutputOf o text output edited →
      Keeps o into id name fresh old new r text output edited

-- `RenamesAt target before text stat old new r`: the calls of `Renames` for this target.
abbrev pub RenamesAt : Target → List ℕ → List ℕ → FileStat → List Call → List Call →
    Result Update ReplaceError → Type 0
RenamesAt t before text = Renames t.write_into t.name.now t.fresh.now before text

-- `PutsAt target before text stat old new r`: the calls of `Puts` for this target.
abbrev pub PutsAt : Target → List ℕ → List ℕ → FileStat → List Call → List Call →
    Result Update ReplaceError → Type 0
PutsAt t before text = Puts t.write_into t.name.now t.fresh.now before text

-- `ReplacesAt o target text old new r`: the calls of `Replaces` for this target.
abbrev pub ReplacesAt : TextOptions → Target → List ℕ → List Call → List Call →
    Result Update ReplaceError → Type 0
ReplacesAt o t = Replaces o t.write_into t.id t.name.now t.fresh.now

-- `KeepsAt o target old new r kept`: the calls of `Keeps` for this target, with what was kept.
abbrev pub KeepsAt : TextOptions → Target → List Call → List Call → Result Update ReplaceError →
    Kept → Type 0
KeepsAt o t old new r kept =
    Keeps o t.write_into t.id t.name.now t.fresh.now old new r kept.text.items (output_of kept)
    kept.outcome.edited
