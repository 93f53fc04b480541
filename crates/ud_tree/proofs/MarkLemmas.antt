-- Calls of a walk that mark rules, one after another.
use Rattle.std.proofs.Common.{◌≡◌, ◌⊎◌, inl, inr, ℕ, ◌<◌, List, [], ◌∷◌, ◌++◌, length, Bool, true, false, refl, sym, ap, ◌∙◌, subst, arith, true≢false}
use Rattle.std.proofs.lemmas.List.Elements.{Contains-append_left, Contains-append_right, Contains-append_cases}
use Rattle.std.specs.List.{Contains}
use Rattle.ud_replace.specs.declared.node.Lookup.TheVariants.{Present}
use Rattle.ud_replace.specs.declared.node.Node.{Node}
use Rattle.ud_replace.specs.Calls.{WalkCall, met}
use Rattle.ud_tree.specs.Scopes.{IsBelow, Scope}
use Rattle.ud_tree.specs.Unmatched.{Applied, Applies, MarksCalls, MarksNode, NeverApplied, is_marked, rule_at}
use Rattle.ud_tree.proofs.CoverLemmas.{only_one}

-- Nothing was asked.
pub marks_none : (scope : Scope) {marks marks' : List Bool} → marks' ≡ marks → MarksCalls scope [] marks marks'
marks_none scope same = record {
  count = ap length same;
  kept = λ i is. ap (λ (ms : List Bool). is_marked ms i) same ∙ is;
  marked = λ i is. inl (sym (ap (λ (ms : List Bool). is_marked ms i) same) ∙ is);
  unmarked = λ i within is path node there. absurd (omega (arith, there.1));
}

-- A call met nothing.
pub marks_other : (scope : Scope) (w : WalkCall) {marks marks' : List Bool} → ((path : List ℕ) (node : Node) → ¬ (w ≡ met path (Present node))) → marks' ≡ marks → MarksCalls scope (w ∷ []) marks marks'
marks_other scope w other same = record {
  count = ap length same;
  kept = λ i is. ap (λ (ms : List Bool). is_marked ms i) same ∙ is;
  marked = λ i is. inl (sym (ap (λ (ms : List Bool). is_marked ms i) same) ∙ is);
  unmarked = λ i within is path node there. absurd (other path node (only_one w (met path (Present node)) there));
}

-- A path of the command line was looked at.
pub marks_named : (scope : Scope) (path : List ℕ) (node : Node) {marks marks' : List Bool} → Contains scope.paths path → marks' ≡ marks → MarksCalls scope (met path (Present node) ∷ []) marks marks'
marks_named scope path node named same = record {
  count = ap length same;
  kept = λ i is. ap (λ (ms : List Bool). is_marked ms i) same ∙ is;
  marked = λ i is. inl (sym (ap (λ (ms : List Bool). is_marked ms i) same) ∙ is);
  unmarked = λ i within is p n there. let e : met path (Present node) ≡ met p (Present n) = only_one (met path (Present node)) (met p (Present n)) there in
      let at : path ≡ p = cc in
      inl (subst (Contains scope.paths) at named);
}

-- A name in a directory was looked at.
pub marks_met : (scope : Scope) (path : List ℕ) (node : Node) {marks marks' : List Bool} → MarksNode scope path node.kind marks marks' → MarksCalls scope (met path (Present node) ∷ []) marks marks'
marks_met scope path node {marks = marks} h = record {
  count = h.rules.count;
  kept = h.rules.kept;
  marked = λ i is. by_case i (h.rules.marked i is);
  unmarked = λ i within is p n there. let e : met path (Present node) ≡ met p (Present n) = only_one (met path (Present node)) (met p (Present n)) there in
      let at : path ≡ p = cc in
      let seen : node ≡ n = cc in
      inr (h.below, subst (λ (q : List ℕ). IsBelow scope.paths q h.below) at h.is_below, λ a. h.rules.unmarked i within is (subst (λ (m : Node). Applies m.kind (rule_at scope.patterns i) h.below) (sym seen) a));
}
  where
    by_case : (i : ℕ) → (is_marked marks i ≡ true) ⊎ Applies node.kind (rule_at scope.patterns i) h.below → (is_marked marks i ≡ true) ⊎ Applied scope (met path (Present node) ∷ []) (rule_at scope.patterns i)
    by_case i (inl before) = inl before
    by_case i (inr a) = inr (record { path = path; node = node; below = h.below; seen = (0, omega arith, refl); is_below = h.is_below; applies = a })

bool_cases : (b : Bool) → (b ≡ true) ⊎ (b ≡ false)
bool_cases true = inl refl
bool_cases false = inr refl

-- One part of a walk after another.
pub marks_then : {scope : Scope} (xs ys : List WalkCall) {a b c : List Bool} → MarksCalls scope xs a b → MarksCalls scope ys b c → MarksCalls scope (ys ++ xs) a c
marks_then {scope = scope} xs ys {a = a} {b = b} {c = c} h k = record {
  count = k.count ∙ h.count;
  kept = λ i is. k.kept i (h.kept i is);
  marked = λ i is. now i (k.marked i is);
  unmarked = λ i within is. never i within is (bool_cases (is_marked b i));
}
  where
    applied_in : (i : ℕ) (zs : List WalkCall) → ((w : WalkCall) → Contains zs w → Contains (ys ++ xs) w) → Applied scope zs (rule_at scope.patterns i) → Applied scope (ys ++ xs) (rule_at scope.patterns i)
    applied_in i zs within e = record { path = e.path; node = e.node; below = e.below; seen = within (met e.path (Present e.node)) e.seen; is_below = e.is_below; applies = e.applies }

    before : (i : ℕ) → (is_marked a i ≡ true) ⊎ Applied scope xs (rule_at scope.patterns i) → (is_marked a i ≡ true) ⊎ Applied scope (ys ++ xs) (rule_at scope.patterns i)
    before i (inl is) = inl is
    before i (inr e) = inr (applied_in i xs (λ w there. Contains-append_right ys xs w there) e)

    now : (i : ℕ) → (is_marked b i ≡ true) ⊎ Applied scope ys (rule_at scope.patterns i) → (is_marked a i ≡ true) ⊎ Applied scope (ys ++ xs) (rule_at scope.patterns i)
    now i (inl is) = before i (h.marked i is)
    now i (inr e) = inr (applied_in i ys (λ w there. Contains-append_left ys xs w there) e)

    either : (i : ℕ) → i < length scope.patterns → is_marked c i ≡ false → is_marked b i ≡ false → (path : List ℕ) (node : Node) → Contains ys (met path (Present node)) ⊎ Contains xs (met path (Present node)) →
        Contains scope.paths path ⊎ ((below : List ℕ) × IsBelow scope.paths path below × ¬ (Applies node.kind (rule_at scope.patterns i) below))
    either i within is was path node (inl later) = k.unmarked i within is path node later
    either i within is was path node (inr earlier) = h.unmarked i within was path node earlier

    never : (i : ℕ) → i < length scope.patterns → is_marked c i ≡ false → (is_marked b i ≡ true) ⊎ (is_marked b i ≡ false) → NeverApplied scope (ys ++ xs) (rule_at scope.patterns i)
    never i within is (inl was) = absurd (true≢false (sym (k.kept i was) ∙ is))
    never i within is (inr was) = λ path node there. either i within is was path node (Contains-append_cases ys xs (met path (Present node)) there)
