-- Looks of a walk, and the facts that each gives.
use Rattle.std.proofs.Common.{◌≡◌, ◌⊎◌, inl, inr, ℕ, ◌<◌, List, [], ◌∷◌, ◌++◌, length, map, Bool}
use Rattle.std.proofs.Common.{true, false, refl, sym, ap, ◌∙◌, subst, arith, append-nil}
use Rattle.std.proofs.lemmas.List.Elements.{All-cons, All-nil, Contains-append_cases}
use Rattle.std.specs.List.{All, AllByRecursion, Contains}
use Rattle.std.specs.Prelude.{string_bytes}
use Rattle.ud_replace.specs.declared.node.Lookup.{Lookup}
use Rattle.ud_replace.specs.declared.node.Lookup.TheVariants.{Present, Absent, Unknown}
use Rattle.ud_replace.specs.declared.node.Node.{Node}
use Rattle.ud_replace.specs.declared.node.NodeKind.{NodeKind}
use Rattle.ud_replace.specs.declared.node.NodeKind.TheVariants.{File, Directory, Link, Other}
use Rattle.ud_replace.specs.declared.node.FileId.{FileId}
use Rattle.ud_replace.specs.Calls.{Call, walked, WalkCall, met, followed, listed}
use Rattle.ud_tree.specs.declared.walk.Found.{Found}
use Rattle.ud_tree.specs.declared.walk.Waiting.{Waiting}
use Rattle.ud_tree.specs.Covering.{IsIn, Begins, at_file, at_directory, at_link}
use Rattle.ud_tree.specs.Covering.{Visits, no_text, was_met, Gives, no_path_text, was_given}
use Rattle.ud_tree.specs.Reports.{ReportState, ReportsOf}
use Rattle.ud_tree.specs.declared.walk.Walk.{Walk}
use Rattle.ud_tree.specs.Scopes.{Scope, IsChosen, IsDirectoryPath, IsLeft, IsOpen, IsRooted}
use Rattle.ud_tree.specs.Scopes.{IsSkipped}
use Rattle.ud_tree.specs.Unmatched.{MarksCalls, MarksNode}
use Rattle.ud_tree.specs.WalkMessages.{AreTold, then_answered, then_refused, then_vanished}
use Rattle.ud_tree.specs.WalkMessages.{then_remark, is_link, is_other, is_no_text, is_refused}
use Rattle.ud_tree.specs.WalkMessages.{IsRefusal, WasListed}
use Rattle.ud_tree.specs.Walks.{WasMet}
use Rattle.ud_tree.specs.WalkSteps.{Place, named, given, inside, path_of, IsInside, IsNamed, May}
use Rattle.ud_tree.specs.WalkSteps.{Leaves, Marks, Misses, Deed, deed, Looks, is_unmet, is_vanished}
use Rattle.ud_tree.specs.WalkSteps.{is_bytes, is_file, is_directory, is_left, leads_in}
use Rattle.ud_tree.specs.WalkSteps.{leads_nowhere, is_no_file, State, Look, Loses, Reports, is_told}
use Rattle.ud_tree.specs.WalkSteps.{AddsFile, adds_file, adds_none, at, Awaits, Gains, Meets}
use Rattle.ud_tree.specs.WalkSteps.{scope_of}
use Rattle.ud_tree.proofs.CoverLemmas.{Within, only_one}
use Rattle.ud_tree.proofs.MarkLemmas.{marks_met, marks_named, marks_none, marks_other, marks_then}

-- 1. Looks that are made.

-- The walk is the same after a look.
pub look_still : {p : Place} {s t : State} {calls : List WalkCall} {messages : List (List ℕ)} →
    t ≡ record s { calls = t.calls; report = t.report } → t.calls ≡ map walked calls ++ s.calls →
    Reports s.report t.report messages →
    Looks s.scope p s.marks t.marks (deed calls [] [] messages) → Look p s t
look_still {s = s} {calls = calls} {messages = messages} same called told looks = record {
  does = deed calls [] [] messages;
  called = called;
  told = told;
  scope = ap (λ (u : State). u.scope) same;
  found = ap (λ (u : State). u.found) same ∙ sym (append-nil s.found);
  waits = ap (λ (u : State). u.waiting) same ∙ sym (append-nil s.waiting);
  looks = looks;
}

-- Nothing is at a place, or that isn't known, and a line says so.
pub look_unmet : {p : Place} {s t : State} (answer : Lookup) (name : List ℕ) →
    t ≡ record s { calls = t.calls; report = t.report } →
    t.calls ≡ walked (met (path_of p) answer) ∷ s.calls → Misses p answer → name ≡ path_of p →
    ReportsOf (IsRefusal (met name answer)) s.report t.report → Look p s t
look_unmet answer name same called misses is h =
    look_still same called (is_told h.message h.reports) (is_unmet answer h.message misses
    (subst (λ (n : List ℕ). IsRefusal (met n answer) h.message) is h.is_of)
    (ap (λ (u : State). u.marks) same))

-- The walk has more after a look.
pub look_gained : {p : Place} {s t : State} {files : List Found} {directories : List Waiting}
    {w v : Walk} {calls : List WalkCall} {messages : List (List ℕ)} →
    Gains files directories w v → t.calls ≡ map walked calls ++ s.calls →
    Reports s.report t.report messages →
    Looks s.scope p s.marks t.marks (deed calls files directories messages) →
    s ≡ at (scope_of w) s.calls w s.report → t ≡ at (scope_of v) t.calls v t.report → Look p s t
look_gained {files = files} {directories = directories} {calls = calls} {messages = messages} g
    called told looks first last = record {
      does = deed calls files directories messages;
      called = called;
      told = told;
      scope = ap (λ (u : State). u.scope) last ∙ g.scope ∙ sym (ap (λ (u : State). u.scope) first);
      found = ap (λ (u : State). u.found) last ∙ g.found
          ∙ ap (λ (u : State). u.found ++ files) (sym first);
      waits = ap (λ (u : State). u.waiting) last ∙ g.waits
          ∙ ap (λ (u : State). u.waiting ++ directories) (sym first);
      looks = looks;
    }

-- The place is given by another path.
pub look_at : {path other name : List ℕ} {s t : State} → path ≡ other →
    Look (inside path name) s t → Look (inside other name) s t
look_at {name = name} {s = s} {t = t} same k =
    subst (λ (q : List ℕ). Look (inside q name) s t) same k

-- Two calls were made.
pub made_two : {v w : WalkCall} {x y z : List Call} → y ≡ walked v ∷ x → z ≡ walked w ∷ y →
    z ≡ walked w ∷ walked v ∷ x
made_two {w = w} first second = second ∙ ap (λ (cs : List Call). walked w ∷ cs) first

pub gains_none : {w v : Walk} → v ≡ record w { marks = v.marks } → Gains [] [] w v
gains_none {w = w} same = record {
  scope = ap scope_of same;
  found = ap (λ (u : Walk). u.found.items) same ∙ sym (append-nil w.found.items);
  waits = ap (λ (u : Walk). u.directories.items) same ∙ sym (append-nil w.directories.items);
}

-- A node was met in a directory, and rules were marked.
module _ {u : Walk} {path : List ℕ} (w : Walk) (node : Node)
    (same : u ≡ record w { marks = u.marks })
    (m : MarksNode (scope_of w) path node.kind w.marks.items u.marks.items) where
  regains : {files : List Found} {directories : List Waiting} {v : Walk} →
      Gains files directories u v → Gains files directories w v
  regains {files = files} {directories = directories} g = record {
    scope = g.scope ∙ ap scope_of same;
    found = g.found ∙ ap (λ (x : Walk). x.found.items ++ files) same;
    waits = g.waits ∙ ap (λ (x : Walk). x.directories.items ++ directories) same;
  }

  marked : {marks : List Bool} → marks ≡ u.marks.items →
      MarksNode (scope_of w) path node.kind w.marks.items marks
  marked is = subst (MarksNode (scope_of w) path node.kind w.marks.items) (sym is) m

  pub node_left : {name : List ℕ} {v : Walk} → Leaves (scope_of w) (inside path name) node.kind →
      v ≡ u → Meets (scope_of w) (inside path name) node [] w v
  node_left left is = record {
    files = [];
    directories = [];
    gains = gains_none (is ∙ same ∙ ap (λ (x : Walk). record w { marks = x.marks }) (sym is));
    looks = is_left node left (marked (ap (λ (x : Walk). x.marks.items) is));
  }

  pub node_file : {name : List ℕ} {v : Walk} → node.kind ≡ File → AddsFile path node.id u v →
      Meets (scope_of w) (inside path name) node [] w v
  node_file is (adds_file chosen f) = record {
    files = f.file ∷ [];
    directories = [];
    gains = regains f.gains;
    looks = is_file node f.file is f.has_path f.has_id
        (subst (λ (s : Scope). IsChosen s path) (ap scope_of same) chosen) (marked f.marks);
  }
  node_file {name = name} is (adds_none left none) = node_left
      (subst (Leaves (scope_of w) (inside path name)) (sym is)
      (subst (λ (s : Scope). IsLeft s path) (ap scope_of same) left)) none

  pub node_directory : {name : List ℕ} {v : Walk} → node.kind ≡ Directory →
      IsOpen (scope_of w) path name → Awaits path u v →
      Meets (scope_of w) (inside path name) node [] w v
  node_directory is opens a = record {
    files = [];
    directories = a.directory ∷ [];
    gains = regains a.gains;
    looks = is_directory node a.directory is a.has_path (subst (λ (s : Scope).
        IsRooted s.paths (string_bytes a.directory.path) a.directory.root) (ap scope_of same)
        a.rooted) opens (marked a.marks);
  }

-- Memory ran out after some calls, which didn't fail.
pub loses : (lost : List WalkCall) {calls calls' : List Call} {r r' : ReportState} →
    AllByRecursion (λ w. is_refused w ≡ false) lost → calls' ≡ map walked lost ++ calls →
    r' ≡ r → Loses calls calls' r r'
loses lost fine called same =
    record { lost = lost; fine = fine; called = called; same = same }

-- 2. What they met, and found.

pub at_head : {X : Type 0} (x : X) (xs : List X) → Contains (x ∷ xs) x
at_head x xs = (0, omega arith, refl)

-- A list of two elements has no other.
one_of_two : {X : Type 0} (v w x : X) → Contains (v ∷ w ∷ []) x → (v ≡ x) ⊎ (w ≡ x)
one_of_two v w x h = elim (Contains-append_cases (v ∷ []) (w ∷ []) x h) [
  | inl first ↦ inl (only_one v x first)
  | inr second ↦ inr (only_one w x second)
]

met_kind : {a b : List ℕ} {m n : Node} → met a (Present m) ≡ met b (Present n) → m.kind ≡ n.kind
met_kind {m = m} {n = n} e = let same : m ≡ n = cc in ap (λ (k : Node). k.kind) same

met_listed : {a b : List ℕ} {answer : Lookup} {names : List (List ℕ)} {whole : Bool} →
    ¬ (met a answer ≡ listed b names whole)
met_listed e = cc

node_kind : {m n : Node} {kind : NodeKind} → Present m ≡ Present n → n.kind ≡ kind →
    m.kind ≡ kind
node_kind {m = m} {n = n} e is = let same : m ≡ n = cc in ap (λ (k : Node). k.kind) same ∙ is

no_present : (p : Place) (answer : Lookup) → Misses p answer → (node : Node) →
    ¬ (answer ≡ Present node)
no_present p Absent misses node e = cc
no_present p Unknown misses node e = cc
no_present p (Present n) misses node e = misses

named_outside : (p : Place) → IsNamed p → ¬ (IsInside p)
named_outside (named path) top in_it = in_it
named_outside (given path) top in_it = in_it
named_outside (inside path name) top in_it = top

pub left_out : (scope : Scope) (path name : List ℕ) (kind : NodeKind) → ¬ (kind ≡ File) →
    (kind ≡ Directory → IsSkipped scope path name) → Leaves scope (inside path name) kind
left_out scope path name File other skipped = absurd (other refl)
left_out scope path name Directory other skipped = skipped refl
left_out scope path name Link other skipped = tt
left_out scope path name Other other skipped = tt

module _ {scope : Scope} where
  left_file : (p : Place) (kind : NodeKind) → kind ≡ File → Leaves scope p kind →
      IsLeft scope (path_of p)
  left_file (named path) kind is left = absurd left
  left_file (given path) kind is left =
      absurd (subst (Leaves scope (given path)) is left)
  left_file (inside path name) kind is left = subst (Leaves scope (inside path name)) is left

  -- No rule was marked at a path of the command line.
  outside_marks : (p : Place) (node : Node) {marks marks' : List Bool} → ¬ (IsInside p) →
      Contains scope.paths (path_of p) ⊎ IsInside p → marks' ≡ marks →
      MarksCalls scope (met (path_of p) (Present node) ∷ []) marks marks'
  outside_marks p node outside (inl there) same = marks_named scope (path_of p) node there same
  outside_marks p node outside (inr in_it) same = absurd (outside in_it)

  -- The rules were marked that apply to what is at a place.
  node_marks : (p : Place) (node : Node) {marks marks' : List Bool} →
      Contains scope.paths (path_of p) ⊎ IsInside p → Marks scope p node.kind marks marks' →
      MarksCalls scope (met (path_of p) (Present node) ∷ []) marks marks'
  node_marks (named path) node at m = outside_marks (named path) node (λ in_it. in_it) at m
  node_marks (given path) node at m = outside_marks (given path) node (λ in_it. in_it) at m
  node_marks (inside path name) node at m = marks_met scope path node m

  led_marks : (p : Place) (node : Node) (answer : Bool) {marks marks' : List Bool} →
      IsNamed p → Contains scope.paths (path_of p) ⊎ IsInside p → marks' ≡ marks →
      MarksCalls scope (followed (path_of p) answer ∷ met (path_of p) (Present node) ∷ []) marks
      marks'
  led_marks p node answer {marks = marks} top at same =
      marks_then (met (path_of p) (Present node) ∷ []) (followed (path_of p) answer ∷ [])
      (outside_marks p node {marks = marks} (named_outside p top) at refl)
      (marks_other scope (followed (path_of p) answer) (λ path n e. cc) same)

module _ {scope : Scope} {p : Place} {marks marks' : List Bool} where
  -- A file that was found was met at the place, where it may be taken.
  pub files_met : {d : Deed} → Looks scope p marks marks' d → (f : Found) → Contains d.files f →
      WasMet d.calls f × (string_bytes f.path ≡ path_of p) × May scope p
  files_met (is_file node f kind at same may m) g there =
      subst (λ (h : Found). WasMet (met (path_of p) (Present node) ∷ []) h
      × (string_bytes h.path ≡ path_of p) × May scope p) (only_one f g there) (
        record {
          node = node;
          seen = (0, omega arith, ap (λ (q : List ℕ). met q (Present node)) (sym at));
          is_file = kind;
          same_id = sym same;
        },
        at,
        may,
      )
  files_met k g there = absurd (omega (arith, there.1))

  -- A file that was met was found, or isn't chosen.
  pub files_taken : {d : Deed} → Looks scope p marks marks' d → (path : List ℕ) (node : Node) →
      Contains d.calls (met path (Present node)) → node.kind ≡ File →
      IsIn d.files path node.id ⊎ IsLeft scope path
  files_taken (is_unmet answer message misses is same) path node there kind =
      let e : met (path_of p) answer ≡ met path (Present node) = only_one _ _ there in
      absurd (no_present p answer misses node cc)
  files_taken (is_file n f is at same may m) path node there kind =
      let e : met (path_of p) (Present n) ≡ met path (Present node) = only_one _ _ there in
      let here : path_of p ≡ path = cc in
      let alike : n ≡ node = cc in
      inl (f, at_head f [], at ∙ here, same ∙ ap (λ (k : Node). k.id) alike)
  files_taken (is_left n left m) path node there kind =
      let e : met (path_of p) (Present n) ≡ met path (Present node) = only_one _ _ there in
      let here : path_of p ≡ path = cc in
      inr (subst (IsLeft scope) here (left_file p n.kind (met_kind e ∙ kind) left))
  files_taken (is_vanished in_it same) path node there kind =
      let e : met (path_of p) Absent ≡ met path (Present node) = only_one _ _ there in absurd cc
  files_taken (is_bytes shown other same) path node there kind = absurd (omega (arith, there.1))
  files_taken (is_directory n d is at rooted opens m) path node there kind =
      let e : n.kind ≡ node.kind = met_kind (only_one _ _ there) in absurd cc
  files_taken (leads_in n d top is at rooted same) path node there kind =
      elim (one_of_two _ _ _ there) [
        | inl first ↦ absurd cc
        | inr second ↦ let e : n.kind ≡ node.kind = met_kind second in absurd cc
      ]
  files_taken (leads_nowhere n top is same) path node there kind =
      elim (one_of_two _ _ _ there) [
        | inl first ↦ absurd cc
        | inr second ↦ let e : n.kind ≡ node.kind = met_kind second in absurd cc
      ]
  files_taken (is_no_file n top is same) path node there kind =
      let e : n.kind ≡ node.kind = met_kind (only_one _ _ there) in absurd cc

  -- The directories that wait are below the paths.
  pub looks_rooted : {d : Deed} → Looks scope p marks marks' d →
      All (λ w. IsRooted scope.paths (string_bytes w.path) w.root) d.directories
  looks_rooted (is_directory node d kind at rooted opens m) =
      All-cons (λ w. IsRooted scope.paths (string_bytes w.path) w.root) d [] rooted
      (All-nil (λ w. IsRooted scope.paths (string_bytes w.path) w.root))
  looks_rooted (leads_in node d top kind at rooted same) =
      All-cons (λ w. IsRooted scope.paths (string_bytes w.path) w.root) d [] rooted
      (All-nil (λ w. IsRooted scope.paths (string_bytes w.path) w.root))
  looks_rooted k = All-nil (λ w. IsRooted scope.paths (string_bytes w.path) w.root)

  -- No directory was listed.
  pub looks_list_none : {d : Deed} → Looks scope p marks marks' d → (directory : List ℕ)
      (names : List (List ℕ)) (answer : Bool) → ¬ (Contains d.calls (listed directory names answer))
  looks_list_none (is_bytes shown other same) directory names answer there =
      omega (arith, there.1)
  looks_list_none (leads_in node d top kind at rooted same) directory names answer there =
      elim (one_of_two _ _ _ there) [ inl first ↦ cc | inr second ↦ cc ]
  looks_list_none (leads_nowhere node top kind same) directory names answer there =
      elim (one_of_two _ _ _ there) [ inl first ↦ cc | inr second ↦ cc ]
  looks_list_none k directory names answer there = met_listed (only_one _ _ there)

  -- The rules were marked that apply to something which was met.
  pub looks_mark : {d : Deed} → Looks scope p marks marks' d →
      Contains scope.paths (path_of p) ⊎ IsInside p → MarksCalls scope d.calls marks marks'
  looks_mark (is_unmet answer message misses is same) at =
      marks_other scope (met (path_of p) answer)
      (λ path node e. no_present p answer misses node cc) same
  looks_mark (is_vanished in_it same) at =
      marks_other scope (met (path_of p) Absent) (λ path node e. cc) same
  looks_mark (is_bytes shown other same) at = marks_none scope same
  looks_mark (is_file node f kind here may same m) at = node_marks p node at m
  looks_mark (is_directory node d kind here rooted opens m) at = node_marks p node at m
  looks_mark (is_left node left m) at = node_marks p node at m
  looks_mark (leads_in node d top kind here rooted same) at = led_marks p node true top at same
  looks_mark (leads_nowhere node top kind same) at = led_marks p node false top at same
  looks_mark (is_no_file node outside kind same) at = outside_marks p node outside at same

  -- The messages of the calls were written.
  pub looks_told : {d : Deed} → Looks scope p marks marks' d → {ws : List WalkCall}
      {ms : List (List ℕ)} → AreTold ws ms → (IsInside p → WasListed ws (path_of p)) →
      AreTold (d.calls ++ ws) (ms ++ d.messages)
  looks_told (is_unmet answer message misses is same) told was =
      then_refused (met (path_of p) answer) message told is
  looks_told (is_vanished in_it same) {ms = ms} told was =
      rw (append-nil ms) (then_vanished (path_of p) told (was in_it))
  looks_told (is_bytes shown other same) told was = then_remark _ told (is_no_text shown refl)
  looks_told (leads_in node d top kind at rooted same) {ms = ms} told was =
      rw (append-nil ms) (then_answered (followed (path_of p) true)
      (then_answered (met (path_of p) (Present node)) told refl) refl)
  looks_told (leads_nowhere node top kind same) told was =
      then_remark _ (then_answered (followed (path_of p) false)
      (then_answered (met (path_of p) (Present node)) told refl) refl)
      (is_link (path_of p) node (1, omega arith, refl) kind (0, omega arith, refl) refl)
  looks_told (is_no_file node outside kind same) told was =
      then_remark _ (then_answered (met (path_of p) (Present node)) told refl)
      (is_other (path_of p) node (0, omega arith, refl) (λ file. cc) refl)
  looks_told (is_file node f kind at same may m) {ms = ms} told was =
      rw (append-nil ms) (then_answered (met (path_of p) (Present node)) told refl)
  looks_told (is_directory node d kind at rooted opens m) {ms = ms} told was =
      rw (append-nil ms) (then_answered (met (path_of p) (Present node)) told refl)
  looks_told (is_left node left m) {ms = ms} told was =
      rw (append-nil ms) (then_answered (met (path_of p) (Present node)) told refl)

-- 3. What became of the places.

-- The facts of a whole walk: its calls, which directories are due, which files it has found,
-- and whether there is a message.
pub record World : Type 1 where
  pub calls : List WalkCall
  pub due : List ℕ → Type 0
  pub has : List ℕ → FileId → Type 0
  pub told : Type 0

-- All that a part of the walk does is known.
pub record Fits (d : Deed) (w : World) : Type 0 where
  pub called : Within d.calls w.calls
  pub waits : (path : List ℕ) (e : Waiting) → Contains d.directories e →
      IsDirectoryPath path (string_bytes e.path) → w.due path
  pub found : (f : Found) → Contains d.files f → w.has (string_bytes f.path) f.id
  pub tells : 0 < length d.messages → w.told

has_file : (has : List ℕ → FileId → Type 0) (f : Found) {path : List ℕ} {id : FileId} →
    string_bytes f.path ≡ path → f.id ≡ id → has (string_bytes f.path) f.id → has path id
has_file has f {id = id} at same h =
    subst (λ (q : List ℕ). has q id) at (subst (has (string_bytes f.path)) same h)

module _ {scope : Scope} {marks marks' : List Bool} {w : World} where
  -- A path of the command line can be taken, or has a fault.
  pub begins_of : {path : List ℕ} {d : Deed} → Looks scope (named path) marks marks' d →
      Fits d w → w.told ⊎ Begins w.calls w.due w.has path
  begins_of (is_vanished in_it same) known = absurd in_it
  begins_of (is_file node f kind at same may m) known =
      inr (at_file node (known.called _ (at_head _ [])) kind
      (has_file w.has f at same (known.found f (at_head f []))))
  begins_of (is_directory node d kind is rooted opens m) known =
      inr (at_directory node (known.called _ (at_head _ [])) kind
      (known.waits _ d (at_head d []) is))
  begins_of (is_left node left m) known = absurd left
  begins_of (leads_in node d top kind is rooted same) known = inr (at_link node
      (known.called _ (1, omega arith, refl)) kind (known.called _ (0, omega arith, refl))
      (known.waits _ d (at_head d []) is))
  begins_of k known = inl (known.tells (omega arith))

  -- A path of the input was given.
  pub gives_of : {path : List ℕ} {d : Deed} → Looks scope (given path) marks marks' d →
      Fits d w → Gives w.calls w.has w.told path
  gives_of {path = path} (is_unmet answer message misses is same) known =
      was_given answer (known.called _ (at_head _ []))
      (λ node e kind. absurd (no_present (given path) answer misses node e))
      (λ node e kind. absurd (no_present (given path) answer misses node e))
  gives_of (is_vanished in_it same) known = absurd in_it
  gives_of (is_bytes shown other same) known = no_path_text other (known.tells (omega arith))
  gives_of (is_file node f is at same may m) known =
      was_given (Present node) (known.called _ (at_head _ []))
      (λ n e kind. let alike : node ≡ n = cc in has_file w.has f at
      (same ∙ ap (λ (k : Node). k.id) alike) (known.found f (at_head f [])))
      (λ n e kind. let other : node.kind ≡ Other = node_kind e kind in absurd cc)
  gives_of (is_directory node d kind is rooted opens m) known = absurd opens
  gives_of {path = path} (is_left node left m) known =
      was_given (Present node) (known.called _ (at_head _ []))
      (λ n e kind. absurd (subst (Leaves scope (given path)) (node_kind e kind) left))
      (λ n e kind. absurd (subst (Leaves scope (given path)) (node_kind e kind) left))
  gives_of (leads_in node d top kind is rooted same) known = absurd top
  gives_of (leads_nowhere node top kind same) known = absurd top
  gives_of (is_no_file node outside is same) known =
      was_given (Present node) (known.called _ (at_head _ []))
      (λ n e kind. let file : node.kind ≡ File = node_kind e kind in absurd cc)
      (λ n e kind. known.tells (omega arith))

  -- A name in a directory was visited.
  pub visits_of : {directory name : List ℕ} {d : Deed} →
      Looks scope (inside (directory ++ name) name) marks marks' d →
      Fits d w → Visits scope w.calls w.due w.told directory name
  visits_of {directory = directory} {name = name} (is_unmet answer message misses is same) known =
      was_met answer (known.called _ (at_head _ [])) (λ node e kind.
      absurd (no_present (inside (directory ++ name) name) answer misses node e))
  visits_of (is_vanished in_it same) known =
      was_met Absent (known.called _ (at_head _ [])) (λ node e kind. absurd cc)
  visits_of (is_bytes shown other same) known = no_text other (known.tells (omega arith))
  visits_of (is_file node f is at same may m) known =
      was_met (Present node) (known.called _ (at_head _ []))
      (λ n e kind. let other : node.kind ≡ Directory = node_kind e kind in absurd cc)
  visits_of (is_directory node d kind is rooted opens m) known =
      was_met (Present node) (known.called _ (at_head _ []))
      (λ n e k. inr (opens, known.waits _ d (at_head d []) is))
  visits_of {directory = directory} {name = name} (is_left node left m) known =
      was_met (Present node) (known.called _ (at_head _ [])) (λ n e kind.
      inl (subst (Leaves scope (inside (directory ++ name) name)) (node_kind e kind) left))
  visits_of (leads_in node d top kind is rooted same) known = absurd top
  visits_of (leads_nowhere node top kind same) known = absurd top
  visits_of (is_no_file node outside kind same) known = absurd (outside tt)
