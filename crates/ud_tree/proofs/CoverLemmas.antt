-- Parts of a walk that miss no name, one after another.
use Rattle.std.proofs.Common.{◌≡◌, ◌⊎◌, inl, inr, ℕ, ◌+◌, ◌<◌, List, [], ◌∷◌, ◌++◌, length, map, take, get_or, true, Result, ◌∙◌, arith, rules}
use Rattle.std.proofs.lemmas.List.{map-append, take_more}
use Rattle.std.proofs.lemmas.List.Elements.{All-weaker, All-contains}
use Rattle.std.specs.List.{All, Contains}
use Rattle.std.specs.Prelude.{OnErr, string_bytes}
use Rattle.std.proofs.lemmas.Grind.{common_steps}
use Rattle.ud_replace.specs.declared.node.Lookup.TheVariants.{Present}
use Rattle.ud_replace.specs.Calls.{Call, walked, WalkCall, met, followed}
use Rattle.ud_replace.specs.declared.node.FileId.{FileId}
use Rattle.ud_tree.specs.declared.arguments.Arguments.{Arguments}
use Rattle.ud_tree.specs.declared.walk.Found.{Found}
use Rattle.ud_tree.specs.Scopes.{Scope, IsLeft, IsOpen, IsSkipped}
use Rattle.ud_tree.specs.Covering.{IsDue, Begins, at_file, at_directory, at_link, Visits, no_text, was_met, IsAllowed, IsIn, StandsIn, Gives, no_path_text, was_given, paths_of, CoversPaths, MissesNone, misses_no_path, misses_no_input}
use Rattle.ud_tree.specs.Streams.{Source}
use Rattle.ud_tree.specs.WalkMessages.{TakesPaths}
use Rattle.ud_tree.specs.Walks.{IsKept}

-- Each element of one list is in another.
abbrev pub Within : {X : Type 0} → List X → List X → Type 0
Within {X = X} xs ys = (x : X) → Contains xs x → Contains ys x

-- A name that was visited stays so.
visits_within : {scope : Scope} → {xs ys : List WalkCall} {p q : List ℕ → Type 0} {s t : Type 0} {directory : List ℕ} (name : List ℕ) → Within xs ys → ((path : List ℕ) → p path → q path) → (s → t) →
    Visits scope xs p s directory name → Visits scope ys q t directory name
visits_within {scope = scope} name w d e (no_text other told) = no_text other (e told)
visits_within {scope = scope} {p = p} {q = q} {directory = directory} name w d e (was_met answer seen k) = was_met answer (w (met (directory ++ name) answer) seen) (λ node is kind. by_case (k node is kind))
  where
    Skipped : Type 0
    Skipped = IsSkipped scope (directory ++ name) name

    Opened : Type 0
    Opened = IsOpen scope (directory ++ name) name

    by_case : Skipped ⊎ (Opened × p (directory ++ name)) → Skipped ⊎ (Opened × q (directory ++ name))
    by_case (inl left) = inl left
    by_case (inr due) = inr (due.0, d (directory ++ name) due.1)

visits_all_within : {scope : Scope} → {xs ys : List WalkCall} {p q : List ℕ → Type 0} {s t : Type 0} {directory : List ℕ} (names : List (List ℕ)) → Within xs ys → ((path : List ℕ) → p path → q path) → (s → t) →
    All (Visits scope xs p s directory) names → All (Visits scope ys q t directory) names
visits_all_within names w d e h = search (rules, All-weaker, visits_within)

-- A path of the command line that can be taken stays so.
pub begins_within : {xs ys : List WalkCall} {p q : List ℕ → Type 0} {has later : List ℕ → FileId → Type 0} {path : List ℕ} → Within xs ys → ((path : List ℕ) → p path → q path) →
    ((path : List ℕ) (id : FileId) → has path id → later path id) → Begins xs p has path → Begins ys q later path
begins_within {path = path} w d e (at_file node seen kind there) = at_file node (w (met path (Present node)) seen) kind (e path node.id there)
begins_within {path = path} w d e (at_directory node seen kind due) = at_directory node (w (met path (Present node)) seen) kind (d path due)
begins_within {path = path} w d e (at_link node seen kind led due) = at_link node (w (met path (Present node)) seen) kind (w (followed path true) led) (d path due)

-- A list of one element has no other.
pub only_one : {X : Type 0} (w x : X) → Contains (w ∷ []) x → w ≡ x
only_one w x h = grind arith

-- The calls of two parts.
pub parts_are : (xs ys : List WalkCall) (x y z : List Call) → y ≡ map walked xs ++ x → z ≡ map walked ys ++ y → z ≡ map walked (ys ++ xs) ++ x
parts_are xs ys x y z h k = grind (arith, common_steps, map-append)

-- One name more of a list.
pub one_more : {X : Type 0} (f : X → List ℕ) (xs : List X) (i : ℕ) (v : X) (name : List ℕ) → i < length xs → v ≡ get_or xs i v → name ≡ f v → map f (take (i + 1) xs) ≡ map f (take i xs) ++ name ∷ []
one_more f xs i v name within is named = grind (arith, common_steps, take_more, map-append)

-- An error has each property that always holds.
pub on_err_always : {T E Q : Type 0} (r : Result T E) → Q → OnErr r Q
on_err_always r q = grind arith

gives_within : {xs ys : List WalkCall} {p q : List ℕ → FileId → Type 0} {s t : Type 0} {path : List ℕ} → Within xs ys →
    ((path : List ℕ) (id : FileId) → p path id → q path id) → (s → t) → Gives xs p s path → Gives ys q t path
gives_within w d e (no_path_text other told) = no_path_text other (e told)
gives_within {path = path} w d e (was_given answer seen k l) = was_given answer (w (met path answer) seen) (λ node is kind. d path node.id (k node is kind)) (λ node is kind. e (l node is kind))

-- Files that were found are kept.
stands_in : (found files : List Found) → All (IsKept files) found → (path : List ℕ) (id : FileId) → IsIn found path id → StandsIn files path id
stands_in found files kept path id h = by_case (All-contains (IsKept files) found h.0 kept h.1)
  where
    by_case : IsKept files h.0 → StandsIn files path id
    by_case k = (k.0, k.1, by_same k.2)
      where
        by_same : (string_bytes k.0.path ≡ string_bytes h.0.path) ⊎ (k.0.id ≡ h.0.id) → (string_bytes k.0.path ≡ path) ⊎ (k.0.id ≡ id)
        by_same (inl same) = inl (same ∙ h.2)
        by_same (inr same) = inr (same ∙ h.3)

-- A file that was found is kept, and one that isn't chosen isn't.
left_kept : {scope : Scope} (found files : List Found) → All (IsKept files) found →
    (path : List ℕ) (id : FileId) → IsIn found path id ⊎ IsLeft scope path →
    StandsIn files path id ⊎ IsLeft scope path
left_kept found files kept path id (inl there) = inl (stands_in found files kept path id there)
left_kept found files kept path id (inr left) = inr left

-- The paths are covered, and the files that were found are kept.
pub covers_kept : {scope : Scope} {x y : List Call} (found files : List Found) (s t : Type 0) →
    (s → t) → All (IsKept files) found → All (Contains found) files → CoversPaths scope x y IsIn found s →
    CoversPaths scope x y StandsIn files t
covers_kept {scope = scope} found files s t e kept from h = record {
  allowed = All-weaker (Contains found) (IsAllowed scope scope.paths) (λ f there. All-contains (IsAllowed scope scope.paths) found f h.allowed there) files from;
  calls = h.calls;
  are = h.are;
  waiting = h.waiting;
  all_listed = h.all_listed;
  begins = All-weaker (Begins h.calls (IsDue h.calls h.waiting) (IsIn found))
      (Begins h.calls (IsDue h.calls h.waiting) (StandsIn files))
      (λ p start. begins_within (λ w here. here) (λ path due. due) (stands_in found files kept) start)
      scope.paths h.begins;
  visits = λ directory names answer there. visits_all_within names (λ w here. here) (λ path due. due) e (h.visits directory names answer there);
  taken = λ path node there kind. left_kept found files kept path node.id (h.taken path node there kind);
}

-- No path is missed, and the files that were found are kept.
pub misses_kept : (args : Arguments) (text : List ℕ) {x y : List Call} (found files : List Found) (s t : Type 0) →
    (s → t) → All (IsKept files) found → All (Contains found) files → MissesNone args text x y IsIn found s →
    MissesNone args text x y StandsIn files t
misses_kept args text found files s t e kept from (misses_no_path none h) = misses_no_path none (covers_kept found files s t e kept from h)
misses_kept args text found files s t e kept from (misses_no_input input h) = misses_no_input input (record {
  allowed = All-weaker (Contains found) (λ f. Contains (paths_of text) (string_bytes f.path)) (λ f there. All-contains (λ g. Contains (paths_of text) (string_bytes g.path)) found f h.allowed there) files from;
  calls = h.calls;
  are = h.are;
  gives = All-weaker (Gives h.calls (IsIn found) s) (Gives h.calls (StandsIn files) t) (λ p g. gives_within (λ w there. there) (stands_in found files kept) e g) (paths_of text) h.gives;
})

-- The paths are taken, and the files that were found are kept.
pub paths_kept : {args : Arguments} {given left : Source} {x y : List Call} (found files : List Found) (s t : Type 0) →
    (s → t) → All (IsKept files) found → All (Contains found) files → TakesPaths args given left x y IsIn found s →
    TakesPaths args given left x y StandsIn files t
paths_kept {args = args} found files s t e kept from h = record { text = h.text; takes = h.takes; misses = misses_kept args h.text found files s t e kept from h.misses }
