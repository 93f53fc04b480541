-- The files of a walk, each once and in the order of their paths.
use Rattle.std.proofs.Common.{◌≡◌, ◌⊎◌, inl, inr, ℕ, ◌<◌, ◌≤◌, ◌+◌, ◌-◌, List, [], ◌∷◌, ◌++◌, length, get_or, Bool, true, false, Some, refl, sym, ap, ◌∙◌, subst, true≢false, arith, ⊎_elim}
use Rattle.std.proofs.lemmas.Bool.{cases_lt}
use Rattle.std.proofs.lemmas.Option.{slice_get_within, slice_get-get_or}
use Rattle.std.specs.List.{slice_get, All, AllPairs, Contains}
use Rattle.std.specs.Ordering.{is_lt, nat_cmp}
use Rattle.std.specs.Cmp.Lexicographic.{slice_cmp}
use Rattle.std.proofs.lemmas.List.{get_or_default}
use Rattle.std.proofs.lemmas.List.Elements.{All-weaker, All-contains_itself, All-contains, All-push, Contains-push, Contains-append_left}
use Rattle.std.proofs.lemmas.List.Quantifiers.{all_pairs_push}
use Rattle.std.proofs.lemmas.Cmp.{nat_list_cmp_total}
use Rattle.std.specs.Prelude.{string_bytes, not}
use Rattle.std.specs.BTreeSet.{BTreeSet, contains, Updates}
use Rattle.ud_replace.specs.declared.node.FileId.{FileId}
use Rattle.ud_tree.specs.declared.walk.Found.{Found}
use Rattle.ud_tree.specs.Walks.{IsBefore, IsOtherFile, IsMarked, HasKey, IsKept, ArePicked, key_cmp, Key, key_of}
use Rattle.ud_tree.proofs.KeepLemmas.{kept_later}

-- A file that was added, or one of those before.
abbrev pub OldOrThis : Found → List Found → Found → Type 0
OldOrThis found files f = Contains files f ⊎ (f ≡ found)

-- A file after the last of some ascending files comes after them all.
pub after_last : (files : List Found) (last found : Found) → AllPairs IsBefore files → 0 < length files → last ≡ get_or files (length files - 1) last → IsBefore last found →
    All (λ f. IsBefore f found) files
after_last files last found ascend some is before k d within =
    ⊎_elim earlier at_end (cases_lt (k + 1) (length files))
  where
    last_at : get_or files (length files - 1) d ≡ last
    last_at = sym (is ∙ get_or_default files (length files - 1) last d (omega arith))

    earlier : k + 1 < length files → IsBefore (get_or files k d) found
    earlier lt = nat_list_cmp_total.trans (string_bytes (get_or files k d).path) (string_bytes last.path) (string_bytes found.path)
        (subst (λ (g : Found). IsBefore (get_or files k d) g) last_at (ascend k (length files - 1) d (omega arith) (omega arith))) before

    at_end : length files ≤ k + 1 → IsBefore (get_or files k d) found
    at_end le = let same : length files - 1 ≡ k = omega arith in
        subst (λ (g : Found). IsBefore g found) (sym last_at ∙ ap (λ (i : ℕ). get_or files i d) same) before

-- A set keeps what it has.
still_marked : (seen new : BTreeSet Key) (key : Key) → Updates key_cmp seen new key true → (files : List Found) → All (IsMarked seen) files → All (IsMarked new) files
still_marked seen new key u files h = grind arith

-- Each key of the set is the one that was inserted, or was there before.
key_cases : (seen new : BTreeSet Key) (key q : Key) → Updates key_cmp seen new key true → contains key_cmp new q ≡ true → (q ≡ key) ⊎ (contains key_cmp seen q ≡ true)
key_cases seen new key q u there = grind arith

-- The set has a key more that it had, and the files are the same.
pub picked_same : (seen new : BTreeSet Key) (files : List Found) (key : Key) (added : Bool) →
    added ≡ not (contains key_cmp seen key) → added ≡ false → Updates key_cmp seen new key true → ArePicked seen files →
    ArePicked new files
picked_same seen new files key added is old u h =
    record {
      ascend = h.ascend;
      once = h.once;
      marked = still_marked seen new key u files h.marked;
      only = λ q there. by_case q (key_cases seen new key q u there);
    }
  where
    not_false : (b : Bool) → not b ≡ false → b ≡ true
    not_false true e = refl
    not_false false e = absurd (true≢false e)

    by_case : (q : Key) → (q ≡ key) ⊎ (contains key_cmp seen q ≡ true) → HasKey files q
    by_case q (inl same) = h.only q (subst (λ (k : Key). contains key_cmp seen k ≡ true) (sym same) (not_false (contains key_cmp seen key) (sym is ∙ old)))
    by_case q (inr there) = h.only q there

-- One more file is picked.
pub picked_more : (seen new : BTreeSet Key) (files : List Found) (found : Found) → contains key_cmp seen (key_of found.id) ≡ false →
    Updates key_cmp seen new (key_of found.id) true → All (λ f. IsBefore f found) files → ArePicked seen files → ArePicked new (files ++ found ∷ [])
picked_more seen new files found unseen u before h = record {
  ascend = all_pairs_push IsBefore files found h.ascend before;
  once = all_pairs_push IsOtherFile files found h.once other;
  marked = All-push (IsMarked new) files found (still_marked seen new (key_of found.id) u files h.marked) u.1;
  only = λ q there. by_case q (key_cases seen new (key_of found.id) q u there);
}
  where
    by_case : (q : Key) → (q ≡ key_of found.id) ⊎ (contains key_cmp seen q ≡ true) → HasKey (files ++ found ∷ []) q
    by_case q (inl same) = (found, Contains-push files found, sym same)
    by_case q (inr there) = let k = h.only q there in (k.0, Contains-append_left files (found ∷ []) k.0 k.1, k.2)

    other : (k : ℕ) (d : Found) → k < length files → IsOtherFile (get_or files k d) found
    other k d within e = let marked : IsMarked seen (get_or files k d) = h.marked k d within in
        let there : contains key_cmp seen (key_of found.id) ≡ true =
        ap (λ (i : FileId). contains key_cmp seen (key_of i)) (sym e) ∙ marked in
        true≢false (sym there ∙ unseen)

-- After one more file, all are still of the list.
pub from_more : (found : Found) (all files next : List Found) → Contains all found → All (Contains all) files → All (OldOrThis found files) next → All (Contains all) next
from_more found all files next inside h k = All-weaker (OldOrThis found files) (Contains all) each next k
  where
    each : (f : Found) → OldOrThis found files f → Contains all f
    each f (inl old) = All-contains (Contains all) files f h old
    each f (inr this) = subst (λ (g : Found). Contains all g) (sym this) inside

-- A file after the element that `last` returns comes after all.
pub after_got : (files : List Found) (last found : Found) (r : Bool) → AllPairs IsBefore files → Some last ≡ slice_get files (length files - 1) →
    r ≡ is_lt (slice_cmp nat_cmp (string_bytes last.path) (string_bytes found.path)) → r ≡ true → All (λ f. IsBefore f found) files
after_got files last found r ascend got test holds =
    grind (arith, slice_get_within, slice_get-get_or, after_last)

-- A file that isn't after the element that `last` returns.
pub before_got : (files : List Found) (last found : Found) (r : Bool) → Some last ≡ slice_get files (length files - 1) →
    r ≡ is_lt (slice_cmp nat_cmp (string_bytes last.path) (string_bytes found.path)) → r ≡ false →
    (g : Found) × Contains files g × (¬ (IsBefore g found))
before_got files last found r got test fails =
    let within : length files - 1 < length files = slice_get_within files (length files - 1) last (sym got) in
    let both = got ∙ slice_get-get_or files (length files - 1) last within in
    let is : last ≡ get_or files (length files - 1) last = cc in
    (last, (length files - 1, within, sym is), λ b. true≢false (sym (test ∙ ap is_lt b) ∙ fails))

-- The files before stay in the list.
pub others_kept : (files after : List Found) (found : Found) → after ≡ files ++ found ∷ [] → All (Contains after) files
others_kept files after found is = subst (λ (fs : List Found). All (Contains fs) files) (sym is)
    (All-weaker (Contains files) (Contains (files ++ found ∷ [])) (λ f there. Contains-append_left files (found ∷ []) f there) files (All-contains_itself files))

-- Some files were looked at, and each is kept.
pub record PickedSome (seen : BTreeSet Key) (files found yielded : List Found) : Type 0 where
  pub picked : ArePicked seen files
  pub from : All (Contains found) files
  pub within : All (Contains yielded) files
  pub kept : All (IsKept files) yielded

-- One file more was looked at.
pub picked_next : {seen new : BTreeSet Key} {files after found yielded : List Found} (x : Found) →
    PickedSome seen files found yielded → ArePicked new after → Contains found x → All (OldOrThis x files) after →
    All (Contains after) files → IsKept after x → PickedSome new after found (yielded ++ x ∷ [])
picked_next {files = files} {after = after} {found = found} {yielded = yielded} x h picked inside from others kept = record {
  picked = picked;
  from = from_more x found files after inside h.from from;
  within = All-weaker (OldOrThis x files) (Contains (yielded ++ x ∷ [])) (λ f k. here f k) after from;
  kept = All-push (IsKept after) yielded x (kept_later files after yielded others h.kept) kept;
}
  where
    here : (f : Found) → OldOrThis x files f → Contains (yielded ++ x ∷ []) f
    here f (inl old) = Contains-append_left yielded (x ∷ []) f (All-contains (Contains yielded) files f h.within old)
    here f (inr this) = subst (λ (g : Found). Contains (yielded ++ x ∷ []) g) (sym this) (Contains-push yielded x)

-- A file with a new key was added.
pub picked_new : (seen new : BTreeSet Key) (files after : List Found) (found : Found) (added : Bool) → added ≡ not (contains key_cmp seen (key_of found.id)) →
    added ≡ true → Updates key_cmp seen new (key_of found.id) true → All (λ f. IsBefore f found) files → after ≡ files ++ found ∷ [] → ArePicked seen files →
    ArePicked new after
picked_new seen new files after found added is holds u before grown h =
    subst (λ (fs : List Found). ArePicked new fs) (sym grown)
    (picked_more seen new files found (not_true (contains key_cmp seen (key_of found.id)) (sym is ∙ holds)) u before h)
  where
    not_true : (b : Bool) → not b ≡ true → b ≡ false
    not_true true e = absurd (true≢false (sym e))
    not_true false e = refl
