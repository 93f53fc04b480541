-- The rules of a walk that are marked, one call after another.
use Rattle.std.proofs.Common.{◌≡◌, ◌⊎◌, inl, inr, ℕ, ◌+◌, ◌<◌, List, [], ◌∷◌, ◌++◌, length, map, take, drop, set, zero, suc, ◌≤◌, get_or, Bool, true, false, refl, sym, ap, ◌∙◌, subst, arith, true≢false, append_assoc, append-nil, length-set, replicate, ◌^◌, get_or-set_same, get_or-set_other}
use Rattle.std.proofs.lemmas.List.{get_or-map, get_or_default, length-map, length-replicate, map-append}
use Rattle.std.proofs.lemmas.Bool.{cases_lt}
use Rattle.std.proofs.lemmas.Grind.{common_steps}
use Rattle.std.specs.Prelude.{◌↔◌, if◌then◌else◌}
use Rattle.ud_replace.specs.declared.node.NodeKind.{NodeKind}
use Rattle.std.specs.List.{flat_map}
use Rattle.std.specs.Prelude.{codes}
use Rattle.ud_io.specs.Streams.{Stream, Sends}
use Rattle.ud_io.proofs.StreamLemmas.{sends_same, sends_then}
use Rattle.ud_replace.specs.Calls.{Call}
use Rattle.ud_tree.specs.declared.arguments.Arguments.{Arguments}
use Rattle.std.specs.Prelude.{string_bytes}
use Rattle.std.proofs.Common.{String, Global}
use Rattle.ud_tree.specs.declared.walk.Walk.{Walk}
use Rattle.ud_tree.specs.WalkSteps.{scope_of}
use Rattle.ud_tree.specs.Scopes.{Scope, scope_in}
use Rattle.ud_tree.specs.Summaries.{line_of}
use Rattle.ud_tree.proofs.SummaryLemmas.{flat_push}
use Rattle.ud_tree.specs.Unmatched.{quoted, rule_line, Applied, Applies, LeavesRules, MarksWalk, NeverApplied, Parts, parts_end, one_yes, one_no, UnmatchedIn, is_marked, rule_at, unmarked_in}

-- The first rules were tried, and marked if they apply.
pub record MarksFirst (n : ℕ) (kind : NodeKind) (below : List ℕ) (texts : List (List ℕ)) (marks marks' : List Bool) : Type 0 where
  pub count : length marks' ≡ length marks
  pub kept : (i : ℕ) → is_marked marks i ≡ true → is_marked marks' i ≡ true
  pub marked : (i : ℕ) → is_marked marks' i ≡ true → (is_marked marks i ≡ true) ⊎ Applies kind (rule_at texts i) below
  pub unmarked : (i : ℕ) → i < n → is_marked marks' i ≡ false → ¬ (Applies kind (rule_at texts i) below)

-- Arguments without marks count as marked.
unmarked_nil : (texts : List (List ℕ)) → unmarked_in texts [] ≡ []
unmarked_nil [] = refl
unmarked_nil (t ∷ ts) = refl

next_index : (i : ℕ) → suc i + 1 ≡ suc (i + 1)
next_index i = omega arith

drop_none : (n : ℕ) → drop {A = Bool} n [] ≡ []
drop_none zero = refl
drop_none (suc n) = refl

-- The next argument, unless it is marked, and those after it.
pub unmarked_next : (texts : List (List ℕ)) (marks : List Bool) (i : ℕ) → i < length texts →
    unmarked_in (drop i texts) (drop i marks) ≡ (if is_marked marks i then [] else rule_at texts i ∷ []) ++ unmarked_in (drop (i + 1) texts) (drop (i + 1) marks)
unmarked_next [] marks i within = absurd (omega (arith, within))
unmarked_next (t ∷ ts) [] zero within = sym (unmarked_nil ts)
unmarked_next (t ∷ ts) (true ∷ ms) zero within = refl
unmarked_next (t ∷ ts) (false ∷ ms) zero within = refl
unmarked_next (t ∷ ts) [] (suc i) within = rw (next_index i) (ap (unmarked_in (drop i ts)) (sym (drop_none i)) ∙ unmarked_next ts [] i (omega (arith, within)) ∙ ap (unmarked_in (drop (i + 1) ts)) (drop_none (i + 1)))
unmarked_next (t ∷ ts) (m ∷ ms) (suc i) within = rw (next_index i) (unmarked_next ts ms i (omega (arith, within)))

-- One argument more was passed, and is listed unless it is marked.
pub unmarked_step : {X : Type 0} (f : X → List ℕ) (rules more : List X) (texts : List (List ℕ)) (marks : List Bool) (i : ℕ) {all : List (List ℕ)} → i < length texts →
    map f more ≡ map f rules ++ map quoted (if is_marked marks i then [] else rule_at texts i ∷ []) →
    map f rules ++ map quoted (unmarked_in (drop i texts) (drop i marks)) ≡ all →
    map f more ++ map quoted (unmarked_in (drop (i + 1) texts) (drop (i + 1) marks)) ≡ all
unmarked_step f rules more texts marks i within is before =
    let next : List (List ℕ) = if is_marked marks i then [] else rule_at texts i ∷ [] in
    let later : List (List ℕ) = unmarked_in (drop (i + 1) texts) (drop (i + 1) marks) in
    ap (λ (x : List (List ℕ)). x ++ map quoted later) is ∙ append_assoc (map f rules) (map quoted next) (map quoted later)
    ∙ ap (λ (x : List (List ℕ)). map f rules ++ x) (sym (map-append quoted next later) ∙ ap (map quoted) (sym (unmarked_next texts marks i within))) ∙ before

-- Nothing was listed for a rule that is marked.
pub listed_same : {X : Type 0} (f : X → List ℕ) (rules more : List X) (texts : List (List ℕ)) (marks : List Bool) (i : ℕ) → more ≡ rules → is_marked marks i ≡ true →
    map f more ≡ map f rules ++ map quoted (if is_marked marks i then [] else rule_at texts i ∷ [])
listed_same f rules more texts marks i same marked = rw marked (ap (map f) same ∙ sym (append-nil (map f rules)))

-- An argument was listed whose rule isn't.
pub listed_more : {X : Type 0} (f : X → List ℕ) (rules more : List X) (texts : List (List ℕ)) (marks : List Bool) (i : ℕ) (x : X) → more ≡ rules ++ x ∷ [] → is_marked marks i ≡ false → f x ≡ quoted (rule_at texts i) →
    map f more ≡ map f rules ++ map quoted (if is_marked marks i then [] else rule_at texts i ∷ [])
listed_more f rules more texts marks i x grown unmarked is = rw unmarked (ap (map f) grown ∙ map-append f rules (x ∷ []) ∙ ap (λ (r : List ℕ). map f rules ++ r ∷ []) is)

-- Two indices are the same, or not.
index_cases : (i n : ℕ) → (i ≡ n) ⊎ (¬ (i ≡ n))
index_cases i n = by_less (cases_lt i n) (cases_lt n i)
  where
    by_less : (i < n) ⊎ (n ≤ i) → (n < i) ⊎ (i ≤ n) → (i ≡ n) ⊎ (¬ (i ≡ n))
    by_less (inl before) more = inr (λ e. omega (arith, before, e))
    by_less (inr more) (inl after) = inr (λ e. omega (arith, after, e))
    by_less (inr more) (inr less) = inl (omega arith)

-- The argument with an index, by its bytes.
pub rule_here : {X : Type 0} (f : X → List ℕ) (xs : List X) (i : ℕ) (x : X) (name : List ℕ) → i < length xs → x ≡ get_or xs i x → name ≡ f x → rule_at (map f xs) i ≡ name
rule_here f xs i x name within is named = grind (arith, common_steps, get_or-map)

-- A mark, by what a read of it gives.
pub mark_here : (marks : List Bool) (i : ℕ) (b : Bool) → i < length marks → b ≡ get_or marks i b → is_marked marks i ≡ b
mark_here marks i b within is = sym (is ∙ get_or_default marks i b true within)

-- The next rule is marked already, or there is none.
pub marks_skipped : {n : ℕ} {kind : NodeKind} {below : List ℕ} {texts : List (List ℕ)} {marks marks' : List Bool} → is_marked marks' n ≡ true → MarksFirst n kind below texts marks marks' →
    MarksFirst (n + 1) kind below texts marks marks'
marks_skipped {n = n} {kind = kind} {below = below} {texts = texts} {marks' = marks'} is h = record { count = h.count; kept = h.kept; marked = h.marked; unmarked = unmarked }
  where
    unmarked : (i : ℕ) → i < n + 1 → is_marked marks' i ≡ false → ¬ (Applies kind (rule_at texts i) below)
    unmarked i within other = by_case (cases_lt i n)
      where
        by_case : (i < n) ⊎ (n ≤ i) → ¬ (Applies kind (rule_at texts i) below)
        by_case (inl before) = h.unmarked i before other
        by_case (inr after) = let same : i ≡ n = omega arith in
            absurd (true≢false (sym is ∙ ap (is_marked marks') (sym same) ∙ other))

-- The next rule is tried.
pub marks_tried : {n : ℕ} {kind : NodeKind} {below : List ℕ} {texts : List (List ℕ)} {marks marks' : List Bool} (b : Bool) → n < length marks' → is_marked marks' n ≡ false →
    (b ≡ true) ↔ Applies kind (rule_at texts n) below → MarksFirst n kind below texts marks marks' → MarksFirst (n + 1) kind below texts marks (set marks' n b)
marks_tried {n = n} {kind = kind} {below = below} {texts = texts} {marks = marks} {marks' = marks'} b within other applies h =
    record { count = length-set marks' n b ∙ h.count; kept = λ i is. kept i is (index_cases i n); marked = λ i is. marked i is (index_cases i n); unmarked = λ i before is. unmarked i before is (index_cases i n) }
  where
    new : List Bool
    new = set marks' n b

    here : (i : ℕ) → i ≡ n → is_marked new i ≡ b
    here i same = rw same (get_or-set_same marks' n b true within)

    elsewhere : (i : ℕ) → ¬ (i ≡ n) → is_marked new i ≡ is_marked marks' i
    elsewhere i differs = get_or-set_other marks' n i b true differs

    kept : (i : ℕ) → is_marked marks i ≡ true → (i ≡ n) ⊎ (¬ (i ≡ n)) → is_marked new i ≡ true
    kept i is (inl same) = absurd (true≢false (sym (h.kept i is) ∙ ap (is_marked marks') same ∙ other))
    kept i is (inr differs) = elsewhere i differs ∙ h.kept i is

    marked : (i : ℕ) → is_marked new i ≡ true → (i ≡ n) ⊎ (¬ (i ≡ n)) → (is_marked marks i ≡ true) ⊎ Applies kind (rule_at texts i) below
    marked i is (inl same) = inr (subst (λ (j : ℕ). Applies kind (rule_at texts j) below) (sym same) (applies.0 (sym (here i same) ∙ is)))
    marked i is (inr differs) = h.marked i (sym (elsewhere i differs) ∙ is)

    unmarked : (i : ℕ) → i < n + 1 → is_marked new i ≡ false → (i ≡ n) ⊎ (¬ (i ≡ n)) → ¬ (Applies kind (rule_at texts i) below)
    unmarked i before is (inl same) a = true≢false (sym (applies.1 (subst (λ (j : ℕ). Applies kind (rule_at texts j) below) same a)) ∙ sym (here i same) ∙ is)
    unmarked i before is (inr differs) a = h.unmarked i (omega arith) (sym (elsewhere i differs) ∙ is) a

-- The line of one rule more was written.
pub rule_sent : {A : Type 0} {a b c : Stream} (f : A → List ℕ) (rules : List A) (i : ℕ) (x : A) (rule : List ℕ) → i < length rules → x ≡ get_or rules i x → rule ≡ f x →
    Sends a b (flat_map rule_line (map f (take i rules))) → Sends b c (line_of (codes "-g " ++ (rule ++ codes " matched nothing"))) → Sends a c (flat_map rule_line (map f (take (i + 1) rules)))
rule_sent f rules i x rule within is named h k =
    sends_same (ap (λ n. flat_map rule_line (map f (take i rules)) ++ rule_line n) named ∙ flat_push f rule_line rules i x within is) (sends_then h k)

-- Each argument is marked, or listed.
parts_marked : (P Q : List ℕ → Type 0) (texts : List (List ℕ)) (marks : List Bool) → length marks ≡ length texts → ((i : ℕ) → i < length texts → is_marked marks i ≡ true → P (rule_at texts i)) →
    ((i : ℕ) → i < length texts → is_marked marks i ≡ false → Q (rule_at texts i)) → Parts P Q texts (unmarked_in texts marks)
parts_marked P Q [] marks same h k = parts_end
parts_marked P Q (t ∷ ts) [] same h k = absurd (omega (arith, same))
parts_marked P Q (t ∷ ts) (true ∷ ms) same h k = one_yes t (h 0 (omega arith) refl)
    (parts_marked P Q ts ms (omega (arith, same)) (λ i within is. h (suc i) (omega (arith, within)) is) (λ i within is. k (suc i) (omega (arith, within)) is))
parts_marked P Q (t ∷ ts) (false ∷ ms) same h k = one_no t (k 0 (omega arith) refl)
    (parts_marked P Q ts ms (omega (arith, same)) (λ i within is. h (suc i) (omega (arith, within)) is) (λ i within is. k (suc i) (omega (arith, within)) is))

-- No rule is marked at first.
none_marked : (n i : ℕ) → i < n → is_marked (replicate n false) i ≡ false
none_marked zero i within = absurd (omega (arith, within))
none_marked (suc n) zero within = refl
none_marked (suc n) (suc i) within = none_marked n i (omega (arith, within))

-- The arguments that a walk from no marks hasn't marked apply to nothing that it met.
pub unmatched_walked : {scope : Scope} {old new : List Call} {marks marks' : List Bool} → MarksWalk scope old new marks marks' → marks ≡ replicate (length scope.patterns) false →
    UnmatchedIn scope old new (unmarked_in scope.patterns marks')
unmatched_walked {scope = scope} {marks = marks} {marks' = marks'} h none = record {
  calls = h.calls;
  are = h.are;
  parts = parts_marked (Applied scope h.calls) (NeverApplied scope h.calls) scope.patterns marks' (h.rules.count ∙ ap length none ∙ length-replicate (length scope.patterns) false)
      (λ i within is. marked i within (h.rules.marked i is)) h.rules.unmarked;
}
  where
    marked : (i : ℕ) → i < length scope.patterns → (is_marked marks i ≡ true) ⊎ Applied scope h.calls (rule_at scope.patterns i) → Applied scope h.calls (rule_at scope.patterns i)
    marked i within (inr e) = e
    marked i within (inl was) = absurd (true≢false (sym was ∙ ap (λ (ms : List Bool). is_marked ms i) none ∙ none_marked (length scope.patterns) i within))

-- The last lines have these arguments.
pub leaves_rules : {args : Arguments} {old new : List Call} {scope : Scope} {marks marks' : List Bool} {rules : List (List ℕ)} (told faults : ℕ) → (told < 2 ^ 64 → faults ≡ told) →
    (0 < faults → rules ≡ []) → (args.from_input ≡ true → rules ≡ []) →
    (faults ≡ 0 → args.from_input ≡ false → rules ≡ map quoted (unmarked_in (scope_in args).patterns marks')) →
    (args.from_input ≡ false → MarksWalk scope old new marks marks') → scope ≡ scope_in args → marks ≡ replicate (length scope.patterns) false → LeavesRules args old new told rules
leaves_rules {args = args} {old = old} {new = new} {marks = marks} {marks' = marks'} told faults same faulty input each walk is none = record {
  faulty = λ some few. faulty (omega (arith, some, same few));
  input = input;
  each = λ zero paths. (
    unmarked_in (scope_in args).patterns marks',
    subst (λ (s : Scope). UnmatchedIn s old new (unmarked_in s.patterns marks')) is (unmatched_walked (walk paths) none),
    each (same (omega (arith, zero)) ∙ zero) paths,
  );
}

-- The number of messages of a walk from no fault.
pub counted_from : (old new n : ℕ) → old ≡ 0 → (old + n < 2 ^ 64 → new ≡ old + n) → n < 2 ^ 64 → new ≡ n
counted_from old new n none h few = let is : new ≡ old + n = h (omega arith) in omega arith

-- The scope of a walk by the arguments.
pub scope_same : (args : Arguments) (w : Walk) → w.paths.now ≡ args.paths.items → w.patterns.now ≡ args.patterns.items → scope_of w ≡ scope_in args
scope_same args w paths patterns = rw (paths, patterns) refl

-- A walk begins with a mark for each pattern.
pub unmarked_first : (w : Walk) {ps : List (String Global)} → w.patterns.now ≡ ps → w.marks.items ≡ replicate (length ps) false → w.marks.items ≡ replicate (length (scope_of w).patterns) false
unmarked_first w are none = none ∙ ap (λ (n : ℕ). replicate n false) (ap length (sym are) ∙ sym (length-map w.patterns.now string_bytes))
