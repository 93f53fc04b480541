-- Symbols: the text to which a name resolves depends on the entries of names, and not on how long
-- the table is.
--
-- A path that ends needn't come to a name twice. So after its first name it goes over the arguments
-- that name another, and these are fewer.
use Rattle.std.proofs.Common.{◌≡◌, ℕ, zero, suc, ◌≤◌, ◌<◌, List, [], ◌∷◌, length, Bool, true, false, if◌then◌else◌, Option, Some, None, bytes_eq, refl, sym, ◌∙◌, ap, subst, ◌⊎◌, inl, inr, arith, rules}
use Rattle.std.proofs.lemmas.Slice.Eq.{bytes_eq-Decides}
use Rattle.std.proofs.lemmas.Option.{none-some}
use Rattle.ud_model.specs.text.Bytes.{is_identifier}
use Rattle.ud_model.specs.conditions.Table.{Argument, Entry, entry_from, entry_in}
use Rattle.ud_model.specs.conditions.Symbols.{text_in, defined_text, ResolvesTo, at_text, by_name, on_text, resolve_within, resolve}

-- The tables have the same entry for every name.
abbrev pub SaySame : List Argument → List Argument → Type 0
SaySame t u = (n : List ℕ) → entry_in t n ≡ entry_in u n

-- A step: the text of a name is the end, or a name from which the path goes on.
pub record Goes (t : List Argument) (k : ℕ) (n v : List ℕ) : Type 0 where
  pub text : List ℕ
  pub sets : defined_text t n ≡ Some text
  pub on : ((is_identifier text ≡ false) × (text ≡ v)) ⊎ ((is_identifier text ≡ true) × (resolve_within k t text ≡ Some v))

goes_on : (t : List Argument) (k : ℕ) (n v : List ℕ) (o : Option (List ℕ)) → defined_text t n ≡ o → on_text (λ w. resolve_within k t w) o ≡ Some v → Goes t k n v
goes_on t k n v o d e = grind arith

-- The first step of a path that ends.
pub goes : (t : List Argument) (k : ℕ) (n v : List ℕ) → resolve_within (suc k) t n ≡ Some v → Goes t k n v
goes t k n v e = goes_on t k n v (defined_text t n) refl e

-- The text is the end.
pub ends_here : (t : List Argument) (k : ℕ) (n w : List ℕ) → defined_text t n ≡ Some w → is_identifier w ≡ false → resolve_within (suc k) t n ≡ Some w
ends_here t k n w d e = grind (arith, d)

-- The path goes on from the text.
pub ends_after : (t : List Argument) (k : ℕ) (n w : List ℕ) → defined_text t n ≡ Some w → is_identifier w ≡ true → resolve_within (suc k) t n ≡ resolve_within k t w
ends_after t k n w d e = grind (arith, d)

-- The table `u` has each text that the table `t` has for a name.
abbrev pub Follows : List Argument → List Argument → Type 0
Follows t u = (n w : List ℕ) → defined_text t n ≡ Some w → defined_text u n ≡ Some w

-- A step is taken over a table that follows, if the path after it is.
step_follows : (j k : ℕ) (t u : List Argument) → Follows t u → (n v : List ℕ) → Goes t j n v →
    ((w : List ℕ) → resolve_within j t w ≡ Some v → resolve_within k u w ≡ Some v) → resolve_within (suc k) u n ≡ Some v
step_follows j k t u f n v g further = search (rules, ends_here, ends_after)

-- More steps, over a table that follows, come to the same end.
pub ends_more : (j k : ℕ) (t u : List Argument) → Follows t u → (n v : List ℕ) → j ≤ k → resolve_within j t n ≡ Some v → resolve_within k u n ≡ Some v
ends_more (suc j) (suc k) t u f n v l e = step_follows j k t u f n v (goes t j n v e) (λ w h. ends_more j k t u f w v (omega arith) h)
ends_more j k t u h n v g k' = grind (arith, none-some)

-- The arguments that name another.
abbrev pub without : List ℕ → List Argument → List Argument
without n [] = []
without n (a ∷ t) = if bytes_eq a.name n then without n t else a ∷ without n t

without_other_by : (n m : List ℕ) → bytes_eq n m ≡ false → (a : Argument) (t : List Argument) (e : Option Entry) →
    ((f : Option Entry) → entry_from f (without n t) m ≡ entry_from f t m) → (b : Bool) → bytes_eq a.name n ≡ b →
    entry_from e (if b then without n t else a ∷ without n t) m ≡ entry_from (if bytes_eq a.name m then Some a.entry else e) t m
without_other_by n m d a t e before b h = grind (arith, bytes_eq-Decides)

-- These arguments have the entry of each other name.
without_other : (n m : List ℕ) → bytes_eq n m ≡ false → (t : List Argument) (e : Option Entry) → entry_from e (without n t) m ≡ entry_from e t m
without_other n m d [] e = refl
without_other n m d (a ∷ t) e = without_other_by n m d a t e (λ f. without_other n m d t f) (bytes_eq a.name n) refl

-- They have no entry for the name.
without_none : (n : List ℕ) (t : List Argument) → entry_in (without n t) n ≡ None
without_none n [] = refl
without_none n (a ∷ t) = grind (arith, without_none n t)

-- They are no more than all.
without_most : (n : List ℕ) (t : List Argument) → length (without n t) ≤ length t
without_most n [] = omega arith
without_most n (a ∷ t) = grind (arith, without_most n t)

fewer_by : (n : List ℕ) (a : Argument) (t : List Argument) (e : Option Entry) (x : Entry) → length (without n t) ≤ length t →
    ((f : Option Entry) → entry_from f t n ≡ Some x → (f ≡ Some x) ⊎ (length (without n t) < length t)) →
    (b : Bool) → entry_from (if b then Some a.entry else e) t n ≡ Some x →
    (e ≡ Some x) ⊎ (length (if b then without n t else a ∷ without n t) < suc (length t))
fewer_by n a t e x l before b h = grind arith

-- They are fewer if the name is listed.
without_fewer : (n : List ℕ) (t : List Argument) (e : Option Entry) (x : Entry) → entry_from e t n ≡ Some x →
    (e ≡ Some x) ⊎ (length (without n t) < length t)
without_fewer n [] e x h = inl h
without_fewer n (a ∷ t) e x h = fewer_by n a t e x (without_most n t) (λ f. without_fewer n t f x) (bytes_eq a.name n) h

fewer : (n w : List ℕ) (t : List Argument) → defined_text t n ≡ Some w → length (without n t) < length t
fewer n w t d = grind (arith, without_fewer)

-- A path of so many steps that ends avoids a name, or its rest begins there.
abbrev pub Splits : ℕ → List Argument → List ℕ → List ℕ → List ℕ → Type 0
Splits k t n w v = (resolve_within k (without n t) w ≡ Some v) ⊎ ((j : ℕ) × (j ≤ k) × (resolve_within j t n ≡ Some v))

split_by : (k : ℕ) (t : List Argument) (n w v : List ℕ) (b : Bool) → bytes_eq n w ≡ b → resolve_within (suc k) t w ≡ Some v →
    ((x : List ℕ) → resolve_within k t x ≡ Some v → Splits k t n x v) → Splits (suc k) t n w v
split_by k t n w v true q e further = inr (suc k, omega arith, subst (λ m. resolve_within (suc k) t m ≡ Some v) (sym ((bytes_eq-Decides n w).0 q)) e)
split_by k t n w v false q e further = grind (arith, goes, without_other)

split : (k : ℕ) (t : List Argument) (n w v : List ℕ) → resolve_within k t w ≡ Some v → Splits k t n w v
split zero t n w v e = absurd (none-some v e)
split (suc k) t n w v e = split_by k t n w v (bytes_eq n w) refl e (λ x h. split k t n x v h)

-- A path that ends does so in as many steps as there are arguments.
abbrev pub Soon : List Argument → Type 0
Soon t = (k : ℕ) (n v : List ℕ) → resolve_within k t n ≡ Some v → resolve_within (length t) t n ≡ Some v

-- The path ends in at most so many steps.
abbrev pub SoonWithin : ℕ → List Argument → Type 0
SoonWithin most t = (k : ℕ) (n v : List ℕ) → k ≤ most → resolve_within k t n ≡ Some v → resolve_within (length t) t n ≡ Some v

same_follows : (t : List Argument) → Follows t t
same_follows t n w d = d

-- One step, and then a path over fewer arguments.
soon_after : (t : List Argument) (n w v : List ℕ) → defined_text t n ≡ Some w → is_identifier w ≡ true → resolve_within (length (without n t)) (without n t) w ≡ Some v →
    resolve_within (length t) t n ≡ Some v
soon_after t n w v d i e = grind (arith, fewer, ends_more, bytes_eq, bytes_eq-Decides, without_none, without_other, ends_after)

soon_step : (most : ℕ) (t : List Argument) → ((n w : List ℕ) → defined_text t n ≡ Some w → Soon (without n t)) → SoonWithin most t →
    (k : ℕ) (n v : List ℕ) → k ≤ most → Goes t k n v → resolve_within (length t) t n ≡ Some v
soon_step most t smaller within k n v l g = by g.on
  where
    by : ((is_identifier g.text ≡ false) × (g.text ≡ v)) ⊎ ((is_identifier g.text ≡ true) × (resolve_within k t g.text ≡ Some v)) → resolve_within (length t) t n ≡ Some v
    by (inl p) = let q : length (without n t) < length t = fewer n g.text t g.sets in
        ends_more 1 (length t) t t (same_follows t) n v (omega arith) (ends_here t 0 n g.text g.sets p.0 ∙ ap Some p.1)
    by (inr p) = grind (arith, soon_after, smaller, within, l, g.sets, p.0, split k t n g.text v p.1)

soon_within : (t : List Argument) → ((n w : List ℕ) → defined_text t n ≡ Some w → Soon (without n t)) → (most : ℕ) → SoonWithin most t
soon_within t smaller most zero n v l e = absurd (none-some v e)
soon_within t smaller zero (suc k) n v l e = absurd (omega arith)
soon_within t smaller (suc most) (suc k) n v l e = soon_step most t smaller (soon_within t smaller most) k n v (omega arith) (goes t k n v e)

soon_below : (most : ℕ) (t : List Argument) → length t ≤ most → Soon t
soon_below zero t l k n v e =
    soon_within t (λ m w d. let q : length (without m t) < length t = fewer m w t d in absurd (omega arith)) k k n v (omega arith) e
soon_below (suc most) t l k n v e =
    soon_within t (λ m w d. let q : length (without m t) < length t = fewer m w t d in soon_below most (without m t) (omega arith)) k k n v (omega arith) e

-- A path that ends does so in as many steps as there are arguments.
pub ends_soon : (t : List Argument) → Soon t
ends_soon t = soon_below (length t) t (omega arith)

same_follows_same : (t u : List Argument) → SaySame t u → Follows t u
same_follows_same t u f n w d = ap text_in (sym (f n)) ∙ d

ends_over : (t u : List Argument) → SaySame t u → (n v : List ℕ) → resolve t n ≡ Some v → resolve u n ≡ Some v
unfolding resolve
ends_over t u f n v e = ends_soon u (length t) n v (ends_more (length t) (length t) t u (same_follows_same t u f) n v (omega arith) e)

pub same_by : {A : Type 0} (o p : Option A) → ((x : A) → o ≡ Some x → p ≡ Some x) → ((x : A) → p ≡ Some x → o ≡ Some x) → o ≡ p
same_by h p f g = grind arith

-- Tables with the same entry for every name resolve a name to the same text.
pub end_same : (t u : List Argument) → SaySame t u → (n : List ℕ) → resolve t n ≡ resolve u n
end_same t u f n = same_by (resolve t n) (resolve u n) (ends_over t u f n) (ends_over u t (λ m. sym (f m)) n)

-- A path that ends has a number of steps.
steps : (t : List Argument) (n v : List ℕ) → ResolvesTo t n v → (k : ℕ) × (resolve_within k t n ≡ Some v)
steps t _ _ (at_text n v d i) = (1, ends_here t 0 n v d i)
steps t _ _ (by_name n m v d i e) = let s : (k : ℕ) × (resolve_within k t m ≡ Some v) = steps t m v e in (suc s.0, ends_after t s.0 n m d i ∙ s.1)

-- The computed text is the one to which a name resolves.
pub end_found : (t : List Argument) (n v : List ℕ) → ResolvesTo t n v → resolve t n ≡ Some v
unfolding resolve
end_found t n v h = let s : (k : ℕ) × (resolve_within k t n ≡ Some v) = steps t n v h in ends_soon t s.0 n v s.1

ends_by : (t : List Argument) (k : ℕ) (n v : List ℕ) → ((w : List ℕ) → resolve_within k t w ≡ Some v → ResolvesTo t w v) → Goes t k n v → ResolvesTo t n v
ends_by t k n v further g = by g.on
  where
    by : ((is_identifier g.text ≡ false) × (g.text ≡ v)) ⊎ ((is_identifier g.text ≡ true) × (resolve_within k t g.text ≡ Some v)) → ResolvesTo t n v
    by (inl p) = subst (ResolvesTo t n) p.1 (at_text n g.text g.sets p.0)
    by (inr p) = by_name n g.text v g.sets p.0 (further g.text p.1)

ends_at : (t : List Argument) (k : ℕ) (n v : List ℕ) → resolve_within k t n ≡ Some v → ResolvesTo t n v
ends_at t zero n v e = absurd (none-some v e)
ends_at t (suc k) n v e = ends_by t k n v (λ w h. ends_at t k w v h) (goes t k n v e)

-- A name resolves to the computed text.
pub end_is : (t : List Argument) (n v : List ℕ) → resolve t n ≡ Some v → ResolvesTo t n v
unfolding resolve
end_is t n v e = ends_at t (length t) n v e
