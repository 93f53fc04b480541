-- The messages of parts of a walk, one after another.
use Rattle.std.proofs.Common.{◌≡◌, ◌==◌, true≢false, ℕ, ◌+◌, ◌<◌, ◌^◌, List, [], ◌∷◌, ◌++◌, length, take, map, get_or, Bool, true, false, refl, sym, ap, ◌∙◌, subst, arith, append_assoc, append-nil, codes, Result, Ok, Err, IfOk}
use Rattle.std.proofs.lemmas.List.{get_or-map, length-map}
use Rattle.std.proofs.lemmas.Grind.{common_steps}
use Rattle.std.proofs.lemmas.List.Elements.{Contains-get_or}
use Rattle.std.specs.List.{Contains}
use Rattle.ud_tree.specs.declared.walk.Found.{Found}
use Rattle.ud_replace.specs.Calls.{Call}
use Rattle.ud_tree.specs.Reports.{ReportState, Says, ReportsOne, ReportsOf}
use Rattle.ud_tree.specs.Paths.{directory_len, fresh_end, fresh_name}
use Rattle.ud_tree.specs.Messages.{locked_line, fault_line, IsFailureOf, no_reason, with_reason}
use Rattle.ud_tree.specs.Streams.{Source, takes_all, takes_none}
use Rattle.ud_tree.specs.declared.arguments.Arguments.{Arguments}
use Rattle.ud_tree.specs.Scopes.{Scope, scope_in}
use Rattle.ud_tree.specs.Covering.{CoversPaths, misses_no_path, misses_no_input, IsIn}
use Rattle.ud_tree.specs.Summaries.{line_of}
use Rattle.ud_tree.specs.WalkMessages.{no_input, none_told, then_remark, ReportsWalk, input_message, bad_input, Stops, StopsWalk, TakesEach, TakesPaths}
use Rattle.ud_tree.proofs.ReportLemmas.{tells_none, tells_then, tells_same, says_tells, reports_same}

-- The line of a fault was written, from its parts.
pub fault_reported : {a b : ReportState} (name text : List ℕ) → ReportsOne (line_of (name ++ (codes ": " ++ (text ++ [])))) a b → ReportsOne (fault_line name text) a b
fault_reported name text h = reports_same (ap line_of (simp (append_assoc, append-nil))) h

-- The line of a fault of a name in a directory was written, from its parts.
pub fault_in_reported : {a b : ReportState} (directory name text : List ℕ) →
    ReportsOne (line_of (directory ++ (name ++ (codes ": " ++ (text ++ []))))) a b →
    ReportsOne (fault_line (directory ++ name) text) a b
fault_in_reported directory name text h = reports_same (ap line_of (simp (append_assoc, append-nil))) h

-- The line of a file that another run replaces was written, from its parts.
pub locked_reported : {a b : ReportState} (name directory end : List ℕ) → directory ≡ take (directory_len name) name → end ≡ fresh_end name →
    ReportsOne (line_of (name ++ (codes ": " ++ (codes "Another run is at it; if none is, remove " ++ (directory ++ (codes ".unifdef-tree." ++ (end ++ []))))))) a b → ReportsOne (locked_line name) a b
locked_reported name directory end is ends h = reports_same (ap line_of joins) h
  where
    joins : name ++ (codes ": " ++ (codes "Another run is at it; if none is, remove " ++ (directory ++ (codes ".unifdef-tree." ++ (end ++ []))))) ≡
        (name ++ codes ": ") ++ (codes "Another run is at it; if none is, remove " ++ fresh_name name)
    joins = rw (is, ends) (simp (append_assoc, append-nil))

-- The line of a fault with a reason was written, from its parts.
pub failure_reported : {a b : ReportState} (name text why : List ℕ) → ReportsOne (line_of (name ++ (codes ": " ++ (text ++ (codes ": " ++ (why ++ [])))))) a b → ReportsOf (IsFailureOf name text) a b
failure_reported name text why h = record {
  message = fault_line name (text ++ codes ": " ++ why);
  is_of = with_reason why refl;
  reports = reports_same (ap line_of (simp (append_assoc, append-nil))) h;
}

-- The line of a fault without a reason was written.
pub failure_alone : {a b : ReportState} (name text : List ℕ) → ReportsOne (fault_line name text) a b → ReportsOf (IsFailureOf name text) a b
failure_alone name text h = record { message = fault_line name text; is_of = no_reason refl; reports = h }

-- Faults are counted after others.
pub counted_both : (a b c m n : ℕ) → (a + m < 2 ^ 64 → b ≡ a + m) → (b + n < 2 ^ 64 → c ≡ b + n) → a + (m + n) < 2 ^ 64 → c ≡ a + (m + n)
counted_both a b c m n h k small = grind arith

-- Faults that were counted have messages.
pub some_told : (a b n : ℕ) → a ≡ 0 → (a + n < 2 ^ 64 → b ≡ a + n) → 0 < b → 0 < n
some_told a b n none h some = grind arith

-- A path of the command line has a fault, so nothing follows.
pub stops_bad : {from_input : Bool} (left : Source) {calls calls' : List Call} {r r' : ReportState} → r.faulty ≡ 0 → from_input ≡ false → 0 < r'.faulty → ReportsWalk calls calls' r r' →
    StopsWalk from_input left calls calls' r r'
stops_bad left none args bad h = grind (arith, common_steps, some_told)

-- Nothing was asked or written.
pub walk_none : (calls : List Call) (r : ReportState) → ReportsWalk calls calls r r
walk_none calls r = record {
  messages = [];
  walk = record { calls = []; are = refl; told = none_told };
  tells = tells_none r;
  counted = λ small. omega arith;
}

-- The input couldn't be read, and a line says so.
pub walk_unread : {r r' : ReportState} (calls : List Call) → ReportsOne input_message r r' →
    ReportsWalk calls calls r r'
walk_unread calls h = record {
  messages = input_message ∷ [];
  walk = record {
    calls = [];
    are = refl;
    told = then_remark input_message none_told (no_input refl);
  };
  tells = tells_same (sym (append-nil input_message)) h.tells;
  counted = h.counted;
}

-- So no file follows.
pub stops_unread : {left : Source} {r r' : ReportState} (calls : List Call) →
    left.failed ≡ true → ReportsOne input_message r r' → StopsWalk true left calls calls r r'
stops_unread calls failed h = record {
  messages = input_message ∷ [];
  told = [];
  walk = record {
    calls = [];
    are = refl;
    told = then_remark input_message none_told (no_input refl);
  };
  stops = bad_input refl failed refl refl;
  tells = tells_same (sym (append-nil (input_message ++ []) ∙ append-nil input_message)) h.tells;
}

-- The same, by what the arguments say of the input.
pub stops_by : {from_input : Bool} {left : Source} {calls calls' : List Call} {r r' : ReportState} → from_input ≡ true →
    StopsWalk true left calls calls' r r' → StopsWalk from_input left calls calls' r r'
stops_by {left = left} {calls = calls} {calls' = calls'} {r = r} {r' = r'} is h = subst (λ (b : Bool). StopsWalk b left calls calls' r r') (sym is) h

-- No file follows, and a line says why.
pub stops_told : {from_input : Bool} {left : Source} {calls calls' : List Call} {a b c : ReportState} {line : List ℕ} → ((ms : List (List ℕ)) → Stops from_input left ms line) →
    ReportsWalk calls calls' a b → Says b c line → StopsWalk from_input left calls calls' a c
stops_told {line = line} why h k = record { messages = h.messages; told = line; walk = h.walk; stops = why h.messages; tells = tells_then h.tells (says_tells k) }

-- A name of a list is among the names.
pub name_listed : {X : Type 0} (f : X → List ℕ) (xs : List X) (i : ℕ) (x : X) (name : List ℕ) → i < length xs → x ≡ get_or xs i x → name ≡ f x → Contains (map f xs) name
name_listed f xs i x name within is named =
    subst (λ (y : List ℕ). Contains (map f xs) y) (get_or-map f xs i x (f x) within ∙ ap f (sym is) ∙ sym named)
    (Contains-get_or (map f xs) i (f x) (subst (λ (n : ℕ). i < n) (sym (length-map xs f)) within))

-- A list that isn't empty has some files.
pub some_files : (from_input b : Bool) (n len : ℕ) → n ≡ len → b ≡ (len == 0) → b ≡ false → from_input ≡ false → 0 < n
some_files from_input b n len counts is test args = grind arith

-- Nothing is claimed of paths of the input.
pub some_unless : (from_input : Bool) (n : ℕ) → from_input ≡ true → from_input ≡ false → 0 < n
some_unless from_input n input args = absurd (true≢false (sym input ∙ args))

-- Each path of the input was given.
pub paths_given : (args : Arguments) {given left : Source} {calls calls' : List Call} {found : List Found}
    {told : Type 0} → args.from_input ≡ true → TakesEach given left calls calls' found told →
    TakesPaths args given left calls calls' IsIn found told
paths_given args input h = record { text = h.text; takes = takes_all input h.reads; misses = misses_no_input input h.covers }

-- The paths of the command line are covered, and nothing was read.
pub paths_covered : (args : Arguments) {given : Source} {scope : Scope} {calls calls' : List Call} {found : List Found} {told : Type 0} → args.from_input ≡ false →
    CoversPaths scope calls calls' IsIn found told → scope ≡ scope_in args → TakesPaths args given given calls calls' IsIn found told
paths_covered args {calls = calls} {calls' = calls'} {found = found} {told = told} none h are =
    record {
      text = [];
      takes = takes_none none refl;
      misses = misses_no_path none (subst (λ (s : Scope). CoversPaths s calls calls' IsIn found told) are h);
    }

-- Two facts of a result give a third.
pub if_ok_both : {T E : Type 0} {P Q R : T → Type 0} (r : Result T E) → ((x : T) → P x → Q x → R x) → IfOk r P → IfOk r Q → IfOk r R
if_ok_both (Ok x) f p q = f x p q
if_ok_both (Err e) f p q = tt
