-- Moments: what calls do to the files of a directory, if their answers are true.
--
--   Files                           the bytes of each file, by its name
--   after c f                       the files after a call
--   content first calls             the files after all these calls
--   IsTrueOf c f                    the answer of a call is true of the files before it
--   AreTrue first calls             the answers of all these calls are true
--   EachCall P old new              `P` holds for each call since `old`, with the calls before it
--   HasOutput o bytes found         what is found is the output for these bytes
--   OldOrNew o name first old calls each file has its old bytes, or the output for them
--   StaysOldOrNew o name first old new  `OldOrNew` after each of these calls
--   touches c n                     a call may change the file with this name
--   TookOutput o name fresh old calls   the whole output for a file was taken
--   TouchesFreshOnly ..             a call changes only the fresh file, or it is the rename
use Rattle.std.specs.Prelude.{◌≡◌, ◌⊎◌, ℕ, List, [], ◌∷◌, ◌++◌, take, Bool, true, false, ◌||◌}
use Rattle.std.specs.Prelude.{Option, Some, None, Ok, Err, bytes_eq, if◌then◌else◌}
use Rattle.std.specs.Prelude.{option_map}
use Rattle.ud_replace.specs.declared.stat.FileStat.{FileStat}
use Rattle.ud_replace.specs.Calls.{Call, was_read, asked, made, appended, given, synced, looked}
use Rattle.ud_replace.specs.Calls.{renamed, overwrote, removed, sampled, walked}
use Rattle.ud_replace.specs.Filling.{FileTakes, Confirms}
use Rattle.ud_replace.specs.TextOutcomes.{TextOptions, TextOutcome, HasTextOutcome}

-- `Files`: the bytes of each file, by its name; `None` if none has it or a killed run left it.
abbrev pub Files : Type 0
Files = List ℕ → Option (List ℕ)

-- `after c f`: the files after the call `c` over the files `f`. Nothing is known about a half
-- overwritten file: no clause is about it, and here it counts as written.
abbrev pub after : Call → Files → Files
after (was_read m text seen) f n = f n
after (asked m may) f n = f n
after (made m (Ok u)) f n = if bytes_eq n m then Some [] else f n
after (made m (Err e)) f n = f n
after (appended m rest (Some k)) f n =
    if bytes_eq n m then option_map (λ t. t ++ take k rest) (f n) else f n
after (appended m rest None) f n = f n
after (given m like ok) f n = f n
after (synced m ok) f n = f n
after (looked m seen) f n = f n
after (renamed from to true) f n =
    if bytes_eq n to then f from else if bytes_eq n from then None else f n
after (renamed from to false) f n = f n
after (overwrote m text ok) f n = if bytes_eq n m then Some text else f n
after (removed m true) f n = if bytes_eq n m then None else f n
after (removed m false) f n = f n
after (sampled m text answer) f n = f n
after (walked w) f n = f n

-- `content first calls`: the files `first` after these calls, the newest first.
abbrev pub content : Files → List Call → Files
content first [] = first
content first (c ∷ earlier) = after c (content first earlier)

-- `IsTrueOf c f`: the answer of `c` is true of the files `f`: a file that was read had those bytes,
-- and a file that was created had a free name.
abbrev pub IsTrueOf : Call → Files → Type 0
IsTrueOf (was_read m text (Some stat)) f = f m ≡ Some text
IsTrueOf (was_read m text None) f = Unit {0}
IsTrueOf (asked m may) f = Unit {0}
IsTrueOf (made m (Ok u)) f = f m ≡ None
IsTrueOf (made m (Err e)) f = Unit {0}
IsTrueOf (appended m rest taken) f = Unit {0}
IsTrueOf (given m like ok) f = Unit {0}
IsTrueOf (synced m ok) f = Unit {0}
IsTrueOf (looked m seen) f = Unit {0}
IsTrueOf (renamed from to ok) f = Unit {0}
IsTrueOf (overwrote m text ok) f = Unit {0}
IsTrueOf (removed m gone) f = Unit {0}
IsTrueOf (sampled m text answer) f = Unit {0}
IsTrueOf (walked w) f = Unit {0}

-- `AreTrue first calls`: the answer of each call is true of the files before it.
abbrev pub AreTrue : Files → List Call → Type 0
AreTrue first [] = Unit {0}
AreTrue first (c ∷ earlier) = IsTrueOf c (content first earlier) × AreTrue first earlier

-- `EachCall P old new`: `P c earlier` holds for each call `c` since `old` and all calls before it.
pub data EachCall (P : Call → List Call → Type 0) (old : List Call) : List Call → Type 0 where
  no_call : EachCall P old old
  then_call : {c : Call} {calls : List Call} → EachCall P old calls → P c calls →
      EachCall P old (c ∷ calls)

-- `HasOutput o bytes found`: `found` is the output for `bytes`, which have no fault.
pub record HasOutput (o : TextOptions) (bytes : List ℕ) (found : Option (List ℕ)) : Type 0 where
  pub outcome : TextOutcome
  pub has : HasTextOutcome o bytes outcome
  pub no_fault : outcome.fault ≡ None
  pub is_output : found ≡ Some outcome.output

-- `OldOrNew o name first old calls`: each file that existed after `old` has the same bytes after
-- `calls`; or it is `name`, and has the output for them.
abbrev pub OldOrNew : TextOptions → List ℕ → Files → List Call → List Call → Type 0
OldOrNew o name first old calls = (n bytes : List ℕ) → content first old n ≡ Some bytes →
    (content first calls n ≡ Some bytes)
    ⊎ ((n ≡ name) × HasOutput o bytes (content first calls n))

-- `StaysOldOrNew o name first old new`: after each call since `old`, each file has its old bytes or
-- the output for them.
abbrev pub StaysOldOrNew : TextOptions → List ℕ → Files → List Call → List Call → Type 0
StaysOldOrNew o name first old new =
    EachCall (λ c earlier. OldOrNew o name first old (c ∷ earlier)) old new

-- `touches c n`: the call `c` may change the file `n`, or which file has that name.
abbrev pub touches : Call → List ℕ → Bool
touches (was_read m text seen) n = false
touches (asked m may) n = false
touches (made m answer) n = bytes_eq n m
touches (appended m rest taken) n = bytes_eq n m
touches (given m like ok) n = bytes_eq n m
touches (synced m ok) n = false
touches (looked m seen) n = false
touches (renamed from to ok) n = bytes_eq n from || bytes_eq n to
touches (overwrote m text ok) n = bytes_eq n m
touches (removed m gone) n = bytes_eq n m
touches (sampled m text answer) n = false
touches (walked w) n = false

-- `TookOutput o name fresh old calls`: after `old`, `name` was read, and the user was found to have
-- write permission for it. Then `fresh` was created, and took all of the output for the bytes read.
-- It got the mode and owner of `name`, and its bytes reached the disk. Finally `name` was read
-- again, and it still had the same bytes.
pub record TookOutput (o : TextOptions) (name fresh : List ℕ) (old calls : List Call) : Type 0 where
  pub text : List ℕ
  pub stat : FileStat
  pub outcome : TextOutcome
  pub has : HasTextOutcome o text outcome
  pub no_fault : outcome.fault ≡ None
  pub taken : List Call
  pub took : FileTakes fresh (made fresh (Ok tt) ∷ asked name true ∷ was_read name text (Some stat)
      ∷
      old) outcome.output taken
  pub confirms : Confirms name text stat (synced fresh true ∷ given fresh stat true ∷ taken) calls
      (Ok tt)

-- `TouchesFreshOnly o name fresh old c earlier`: after `earlier`, the call `c` touches only
-- `fresh`. Or it is the rename of `fresh` to `name`, and `fresh` took the whole output.
abbrev pub TouchesFreshOnly : TextOptions → List ℕ → List ℕ → List Call → Call → List Call → Type 0
TouchesFreshOnly o name fresh old c earlier =
    ((n : List ℕ) → touches c n ≡ true → n ≡ fresh)
    ⊎ ((ok : Bool) × (c ≡ renamed fresh name ok) × TookOutput o name fresh old earlier)
