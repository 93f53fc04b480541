-- Lemmas that functions name, so that the prover finds their proofs. Each conclusion shows all that
-- the lemma is about.
use Rattle.std.proofs.Common.{◌≡◌, ℕ, List, [], ◌∷◌, Bool, None, Some, true}
use Rattle.std.proofs.Common.{refl, sym, ap, subst}
use Rattle.ud_replace.specs.declared.error.ReplaceError.TheVariants.{Read, ChangedMeanwhile}
use Rattle.ud_replace.specs.declared.node.Lookup.{Lookup}
use Rattle.ud_replace.specs.declared.node.Lookup.TheVariants.{Absent, Present, Unknown}
use Rattle.ud_replace.specs.declared.node.Node.{Node}
use Rattle.ud_replace.specs.declared.node.NodeKind.TheVariants.{File, Directory, Link}
use Rattle.ud_replace.specs.declared.stat.FileStat.{FileStat}
use Rattle.ud_replace.specs.Calls.{Call, was_read, walked, met, followed, listed}
use Rattle.ud_tree.specs.declared.walk.Walk.{Walk}
use Rattle.ud_tree.specs.Changes.{unwanted, unchanged, no_memory, change_shown}
use Rattle.ud_tree.specs.Reports.{ReportState, ReportsOf}
use Rattle.ud_tree.specs.Shown.{IsUnread, unread, other_file}
use Rattle.ud_tree.specs.WalkMessages.{IsRefusal}
use Rattle.ud_tree.specs.WalkSteps.{Place, named, given, path_of, IsInside, Misses, State, Look}
use Rattle.ud_tree.specs.WalkSteps.{Leaves, Listing, Loses, MeetsGiven, FindsFile, Awaits, at}
use Rattle.ud_tree.specs.WalkSteps.{scope_of, nowhere, is_directory, is_file, is_left}
use Rattle.ud_tree.specs.WalkSteps.{is_silent, is_told, is_unmet, is_vanished, is_whole}
use Rattle.ud_tree.specs.WalkSteps.{leads_in}
use Rattle.ud_tree.proofs.LookLemmas.{gains_none, look_gained, look_still, loses}

-- 1. A file wasn't read, or is another one.

pub read_not : (name text : List ℕ) (calls : List Call) →
    IsUnread name calls (was_read name text None ∷ calls) Read
read_not name text calls = unread text refl

pub read_another : (name text : List ℕ) (stat : FileStat) (calls : List Call) →
    IsUnread name calls (was_read name text (Some stat) ∷ calls) ChangedMeanwhile
read_another name text stat calls = other_file text stat refl

pub ruleset readings = (read_not, read_another)

-- 2. A directory was listed.

pub listed_whole : (directory : List ℕ) (names : List (List ℕ)) (calls calls' : List Call)
    (old new : ReportState) → calls' ≡ walked (listed directory names true) ∷ calls →
    new ≡ old → Listing directory names calls calls' old new
listed_whole directory names calls calls' old new called same = record {
  answer = true;
  messages = [];
  called = called;
  told = is_silent same;
  reads = is_whole;
}

-- 3. Nothing was met at a path.

looks_unmet : (p : Place) (s t : State) (answer : Lookup) →
    t ≡ record s { calls = t.calls; report = t.report } →
    t.calls ≡ walked (met (path_of p) answer) ∷ s.calls → Misses p answer →
    ReportsOf (IsRefusal (met (path_of p) answer)) s.report t.report → Look p s t
looks_unmet p s t answer same called misses told = look_still same called
    (is_told told.message told.reports)
    (is_unmet answer told.message misses told.is_of (ap (λ (u : State). u.marks) same))

pub looks_absent : (p : Place) (s t : State) →
    t ≡ record s { calls = t.calls; report = t.report } →
    t.calls ≡ walked (met (path_of p) Absent) ∷ s.calls → Misses p Absent →
    ReportsOf (IsRefusal (met (path_of p) Absent)) s.report t.report → Look p s t
looks_absent p s t = looks_unmet p s t Absent

pub looks_unknown : (p : Place) (s t : State) →
    t ≡ record s { calls = t.calls; report = t.report } →
    t.calls ≡ walked (met (path_of p) Unknown) ∷ s.calls →
    ReportsOf (IsRefusal (met (path_of p) Unknown)) s.report t.report → Look p s t
looks_unknown p s t same called = looks_unmet p s t Unknown same called tt

pub looks_vanished : (p : Place) (s t : State) →
    t ≡ record s { calls = t.calls; report = t.report } →
    t.calls ≡ walked (met (path_of p) Absent) ∷ s.calls → IsInside p →
    t.report ≡ s.report → Look p s t
looks_vanished p s t same called in_it silent = look_still same called (is_silent silent)
    (is_vanished in_it (ap (λ (u : State). u.marks) same))

pub ruleset unmet = (looks_absent, looks_unknown, looks_vanished)

-- 4. Something was met at a path of the command line.

pub looks_file : (path : List ℕ) (node : Node) (calls : List Call) (w v : Walk)
    (r : ReportState) → node.kind ≡ File → FindsFile path node.id w v →
    Look (named path) (at (scope_of w) calls w r)
    (at (scope_of v) (walked (met path (Present node)) ∷ calls) v r)
looks_file path node calls w v r is f = look_gained f.gains refl (is_silent refl)
    (is_file node f.file is f.has_path f.has_id tt f.marks) refl refl

pub looks_directory : (path : List ℕ) (node : Node) (calls : List Call) (w v : Walk)
    (r : ReportState) → node.kind ≡ Directory → Awaits path w v →
    Look (named path) (at (scope_of w) calls w r)
    (at (scope_of v) (walked (met path (Present node)) ∷ calls) v r)
looks_directory path node calls w v r is a = look_gained a.gains refl (is_silent refl)
    (is_directory node a.directory is a.has_path a.rooted tt a.marks) refl refl

pub looks_in : (path : List ℕ) (node : Node) (calls : List Call) (w v : Walk)
    (r : ReportState) → node.kind ≡ Link → Awaits path w v →
    Look (named path) (at (scope_of w) calls w r) (at (scope_of v)
    (walked (followed path true) ∷ walked (met path (Present node)) ∷ calls) v r)
looks_in path node calls w v r is a = look_gained a.gains refl (is_silent refl)
    (leads_in node a.directory tt is a.has_path a.rooted a.marks) refl refl

-- Memory ran out after that.
pub loses_met : (path : List ℕ) (node : Node) (calls : List Call) (r : ReportState) →
    Loses calls (walked (met path (Present node)) ∷ calls) r r
loses_met path node calls r = loses (met path (Present node) ∷ []) (refl, tt) refl refl

pub loses_followed : (path : List ℕ) (node : Node) (answer : Bool) (calls : List Call)
    (r : ReportState) →
    Loses calls (walked (followed path answer) ∷ walked (met path (Present node)) ∷ calls) r r
loses_followed path node answer calls r =
    loses (followed path answer ∷ met path (Present node) ∷ []) (refl, (refl, tt)) refl refl

pub ruleset starts = (
  looks_absent,
  looks_unknown,
  looks_file,
  looks_directory,
  looks_in,
  loses_met,
  loses_followed,
)

-- 5. Something was met at a path of the input.

pub given_file : (path : List ℕ) (node : Node) (w v : Walk) (r : ReportState) →
    node.kind ≡ File → FindsFile path node.id w v → MeetsGiven path node w v r r
given_file path node w v r is f = record {
  messages = [];
  meets = record {
    files = _;
    directories = [];
    gains = f.gains;
    looks = is_file node f.file is f.has_path f.has_id tt f.marks;
  };
  told = is_silent refl;
}

given_left : (path : List ℕ) (node : Node) (w : Walk) (r : ReportState) →
    Leaves nowhere (given path) node.kind → MeetsGiven path node w w r r
given_left path node w r left = record {
  messages = [];
  meets = record {
    files = [];
    directories = [];
    gains = gains_none refl;
    looks = is_left node left refl;
  };
  told = is_silent refl;
}

pub given_directory : (path : List ℕ) (node : Node) (w : Walk) (r : ReportState) →
    node.kind ≡ Directory → MeetsGiven path node w w r r
given_directory path node w r is =
    given_left path node w r (subst (Leaves nowhere (given path)) (sym is) tt)

pub given_link : (path : List ℕ) (node : Node) (w : Walk) (r : ReportState) →
    node.kind ≡ Link → MeetsGiven path node w w r r
given_link path node w r is =
    given_left path node w r (subst (Leaves nowhere (given path)) (sym is) tt)

pub ruleset gives = (given_file, given_directory, given_link)

-- 6. A change is shown or not.

pub ruleset changes = (unwanted, unchanged, no_memory, change_shown)
