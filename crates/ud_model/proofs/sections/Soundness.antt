-- Soundness: the lines decide the items, the tree and the fault, so a text has one outcome at most.
use Rattle.std.proofs.Common.{◌≡◌, ℕ, List, [], ◌∷◌, ◌++◌, map, Option, Some, refl, sym, ◌∙◌, ap, ap₂, append_assoc, append-nil, subst, ◌⊎◌, inl, inr, arith, rules}
use Rattle.std.proofs.lemmas.List.{same_from_push, map-append}
use Rattle.ud_model.specs.text.Lines.{Line, lines_of}
use Rattle.ud_model.specs.text.Scans.{Reading}
use Rattle.ud_model.specs.sections.Directives.{content_of}
use Rattle.ud_model.specs.sections.Tree.{Item, Tree, lines}
use Rattle.ud_model.specs.sections.Items.{Options, reading_of, line_of, item_of, next_item}
use Rattle.ud_model.specs.sections.Faults.{Fault, Case, past_last, too_long, cut, out_of_place, too_deep, obfuscated_case, earlier, cases, Holds, NoneHolds, FaultOf, AreFaultless, no_lines, one_more, end_fault}
use Rattle.ud_model.specs.laws.Rereading.{AreRead, no_items, one_item, IsTreeOf}
use Rattle.ud_model.specs.answer.Outcomes.{Outcome, FirstFaultAt, HasNoFault, ReadsAs, HasOutcome, ran_as, lines_so_far, line_so_far, RestBreaks, ReadsSoFar, HasOutcomeSoFar, came_as}
use Rattle.ud_model.specs.answer.Outcomes.ReadsAs.{stops, ends}
use Rattle.ud_model.specs.answer.Outcomes.ReadsSoFar.{stops as stops_so_far, breaks, goes_on}
use Rattle.ud_model.proofs.text.Pushes.{ByPush, none, push, by_push, push_not_nil}
use Rattle.ud_model.proofs.sections.Unique.{unique}
use Rattle.ud_model.proofs.sections.FaultStays.{reading_of-item_by, line_of-next_item}

-- An item is of the line that was read.
pub reading_of-item_of : (o : Options) (r : Reading) → reading_of (item_of o r) ≡ r
reading_of-item_of o r = reading_of-item_by o r (content_of r.scan)

-- Faultless lines were read.
pub sound_read : {o : Options} {xs : List (Item Reading)} {t : Tree Reading} → AreFaultless o xs t → AreRead o xs t
sound_read no_lines = no_items
sound_read (one_more xs t s l u e n) = one_item xs t (sound_read s) l u e

-- Lines that were read are those of their tree.
pub read_lines : {o : Options} {xs : List (Item Reading)} {t : Tree Reading} → AreRead o xs t → lines t ≡ xs
read_lines h = grind arith

module _ (o : Options) where
  -- The lines of items with one more.
  pub lines_with_next : (xs : List (Item Reading)) (t : Tree Reading) (l : Line) → map line_of (xs ++ next_item o xs t l ∷ []) ≡ map line_of xs ++ l ∷ []
  lines_with_next xs t l = search (rules, map-append, line_of-next_item)

  read_once : {xs ys : List (Item Reading)} {t u : Tree Reading} → AreRead o xs t → AreRead o ys u → xs ≡ ys → t ≡ u
  read_once {t = t} {u = u} a b e = unique t u (read_lines a ∙ e ∙ sym (read_lines b))

  -- Items that are read of the same lines are the same.
  pub read_same : (xs ys : List (Item Reading)) (t u : Tree Reading) → AreRead o xs t → AreRead o ys u → map line_of xs ≡ map line_of ys → xs ≡ ys
  read_same _ _ _ _ no_items no_items e = refl
  read_same _ _ _ _ no_items (one_item ys u b k v d) e = absurd (push_not_nil (map line_of ys) k (sym (lines_with_next ys u k) ∙ sym e))
  read_same _ _ _ _ (one_item xs t a l w c) no_items e = absurd (push_not_nil (map line_of xs) l (sym (lines_with_next xs t l) ∙ e))
  read_same _ _ _ _ (one_item xs t a l w c) (one_item ys u b k v d) e =
      let s = same_from_push (map line_of xs) (map line_of ys) l k (sym (lines_with_next xs t l) ∙ e ∙ lines_with_next ys u k) in
      let q : xs ≡ ys = read_same xs ys t u a b s.0 in
      let p : t ≡ u = read_once a b q in
      rw (q, p, s.1)

  -- A text has one tree at most.
  pub one_tree_of : (input : List ℕ) (t u : Tree Reading) → IsTreeOf o input t → IsTreeOf o input u → t ≡ u
  one_tree_of input t u a b = read_once a.read b.read (read_same a.items b.items t u a.read b.read (sym a.are ∙ b.are))

-- Faultless lines are the lines of their tree.
pub sound_lines : {o : Options} {xs : List (Item Reading)} {t : Tree Reading} → AreFaultless o xs t → lines t ≡ xs
sound_lines h = grind arith

-- Faultless lines have one tree.
pub sound_once : {o : Options} {xs : List (Item Reading)} {t u : Tree Reading} → AreFaultless o xs t → AreFaultless o xs u → t ≡ u
sound_once {t = t} {u = u} a b = unique t u (sound_lines a ∙ sym (sound_lines b))

-- The cases from this one on.
case_in_order : (c : Case) → (later : List Case) × (earlier c ++ c ∷ later ≡ cases)
case_in_order past_last = (too_long ∷ cut ∷ out_of_place ∷ too_deep ∷ obfuscated_case ∷ [], refl)
case_in_order too_long = (cut ∷ out_of_place ∷ too_deep ∷ obfuscated_case ∷ [], refl)
case_in_order cut = (out_of_place ∷ too_deep ∷ obfuscated_case ∷ [], refl)
case_in_order out_of_place = (too_deep ∷ obfuscated_case ∷ [], refl)
case_in_order too_deep = (obfuscated_case ∷ [], refl)
case_in_order obfuscated_case = ([], refl)

module _ (xs : List (Item Reading)) (x : Item Reading) where
  one_case : (cs ds : List Case) (c d : Case) (ws vs : List Case) → cs ++ c ∷ ws ≡ ds ++ d ∷ vs →
      Holds xs x c → NoneHolds xs x cs → Holds xs x d → NoneHolds xs x ds → c ≡ d
  one_case [] [] c d ws vs e h n k m = cc
  one_case [] (b ∷ ds) c d ws vs e h n k m = let q : c ≡ b = cc in absurd (m.0 (subst (Holds xs x) q h))
  one_case (b ∷ cs) [] c d ws vs e h n k m = let q : d ≡ b = cc in absurd (n.0 (subst (Holds xs x) q k))
  one_case (a ∷ cs) (b ∷ ds) c d ws vs e h n k m = let q : cs ++ c ∷ ws ≡ ds ++ d ∷ vs = cc in cc (one_case cs ds c d ws vs q h n.1 k m.1)

-- A line has one fault at most.
pub one_fault : (xs : List (Item Reading)) (x : Item Reading) (f g : Fault) → FaultOf xs x f → FaultOf xs x g → f ≡ g
one_fault xs x f g a b =
    let c : (later : List Case) × (earlier a.which ++ a.which ∷ later ≡ cases) = case_in_order a.which in
    let d : (later : List Case) × (earlier b.which ++ b.which ∷ later ≡ cases) = case_in_order b.which in
    let w = one_case xs x (earlier a.which) (earlier b.which) a.which b.which c.0 d.0 (c.1 ∙ sym d.1) a.holds a.first b.holds b.first in
    cc (a.named, w, b.named)

-- A faultless line has no fault.
pub sound_or_faulty : (xs : List (Item Reading)) (x : Item Reading) (f : Fault) → NoneHolds xs x cases → FaultOf xs x f → ⊥
sound_or_faulty xs x f n a = grind arith

module _ (o : Options) where
  same_next : (xs ys : List (Item Reading)) (t u : Tree Reading) (l k : Line) → AreFaultless o xs t → AreFaultless o ys u → xs ≡ ys → l ≡ k →
      next_item o xs t l ≡ next_item o ys u k
  same_next xs ys t u l k a b e f = let q : t ≡ u = sound_once (subst (λ zs. AreFaultless o zs t) e a) b in rw (e, q, f)

  -- Faultless items of the same lines are the same.
  pub sound_same : (xs ys : List (Item Reading)) (t u : Tree Reading) → AreFaultless o xs t → AreFaultless o ys u → map line_of xs ≡ map line_of ys → xs ≡ ys
  sound_same xs ys t u a b e = read_same o xs ys t u (sound_read a) (sound_read b) e

  -- Faultless items whose lines begin with these have faultless items of these lines first.
  pub sound_front : (ls : List Line) {more : List Line} → ByPush more → (ys : List (Item Reading)) (u : Tree Reading) → AreFaultless o ys u →
      map line_of ys ≡ ls ++ more → (xs : List (Item Reading)) × (t : Tree Reading) × AreFaultless o xs t × (map line_of xs ≡ ls)
  sound_front ls none ys u b e = (ys, u, b, e ∙ append-nil ls)
  sound_front ls (push {xs = ms} l p) _ _ no_lines e = absurd (push_not_nil (ls ++ ms) l (append_assoc ls ms (l ∷ []) ∙ sym e))
  sound_front ls (push {xs = ms} l p) _ _ (one_more ys u b k v d m) e =
      let s : (map line_of ys ≡ ls ++ ms) × (k ≡ l) =
      same_from_push (map line_of ys) (ls ++ ms) k l (sym (lines_with_next o ys u k) ∙ e ∙ sym (append_assoc ls ms (l ∷ []))) in
      sound_front ls p ys u b s.0

  -- The line after faultless items isn't faulty if more faultless items have it too.
  clear_next : (xs ys : List (Item Reading)) (t u : Tree Reading) (l : Line) → AreFaultless o xs t → AreFaultless o ys u →
      map line_of ys ≡ map line_of xs ++ l ∷ [] → NoneHolds xs (next_item o xs t l) cases
  clear_next xs _ t _ l a no_lines e = absurd (push_not_nil (map line_of xs) l (sym e))
  clear_next xs _ t _ l a (one_more ys u b k v d m) e = grind (arith, same_from_push, lines_with_next, sound_same, same_next)

  pub faulty_inside : (xs ys : List (Item Reading)) (t u : Tree Reading) (l : Line) (later : List Line) (f : Fault) → AreFaultless o xs t →
      FaultOf xs (next_item o xs t l) f → AreFaultless o ys u → map line_of ys ≡ map line_of xs ++ l ∷ later → ⊥
  faulty_inside xs ys t u l later f a g b e =
      let s : (zs : List (Item Reading)) × (v : Tree Reading) × AreFaultless o zs v × (map line_of zs ≡ map line_of xs ++ l ∷ []) =
      sound_front (map line_of xs ++ l ∷ []) (by_push later) ys u b (e ∙ sym (append_assoc (map line_of xs) (l ∷ []) later)) in
      sound_or_faulty xs (next_item o xs t l) f (clear_next xs s.0 t s.1 l a s.2 s.3) g

-- If a list is split at two of its elements, these are the same, or one comes before the other.
compare_fronts : (ks ms : List Line) (a b : Line) (ws vs : List Line) → ks ++ a ∷ ws ≡ ms ++ b ∷ vs →
    ((ks ≡ ms) × (a ≡ b)) ⊎ (((mid : List Line) × (ms ≡ ks ++ a ∷ mid)) ⊎ ((mid : List Line) × (ks ≡ ms ++ b ∷ mid)))
compare_fronts [] [] a b ws vs e = inl (refl, cc)
compare_fronts [] (c ∷ ms) a b ws vs e = inr (inl (ms, cc))
compare_fronts (c ∷ ks) [] a b ws vs e = inr (inr (ks, cc))
compare_fronts (c ∷ ks) (d ∷ ms) a b ws vs e = grind (arith, compare_fronts ks ms a b ws vs (cc))

module _ (o : Options) (ls : List Line) where
  -- A text stops at one line, with one fault.
  pub one_stop : (xs ys : List (Item Reading)) (t u : Tree Reading) (f g : Fault) → FirstFaultAt o ls xs t f → FirstFaultAt o ls ys u g →
      (xs ≡ ys) × (t ≡ u) × (f ≡ g)
  one_stop xs ys t u f g a b = go (compare_fronts (map line_of xs) (map line_of ys) a.faulty b.faulty a.later b.later (sym a.are ∙ b.are))
    where
      go : ((map line_of xs ≡ map line_of ys) × (a.faulty ≡ b.faulty))
          ⊎ (((mid : List Line) × (map line_of ys ≡ map line_of xs ++ a.faulty ∷ mid)) ⊎ ((mid : List Line) × (map line_of xs ≡ map line_of ys ++ b.faulty ∷ mid)))
          → (xs ≡ ys) × (t ≡ u) × (f ≡ g)
      go (inl s) = let q : xs ≡ ys = sound_same o xs ys t u a.sound b.sound s.0 in
          let r = same_next o xs ys t u a.faulty b.faulty a.sound b.sound q s.1 in (
            q,
            sound_once (subst (λ zs. AreFaultless o zs t) q a.sound) b.sound,
            one_fault ys (next_item o ys u b.faulty) f g
                (subst (λ zs. FaultOf zs (next_item o ys u b.faulty) f) q (subst (λ y. FaultOf xs y f) r a.fault)) b.fault,
          )
      go (inr (inl s)) = absurd (faulty_inside o xs ys t u a.faulty s.0 f a.sound a.fault b.sound s.1)
      go (inr (inr s)) = absurd (faulty_inside o ys xs u t b.faulty s.0 g b.sound b.fault a.sound s.1)

  -- A text without a faulty line has one list of items with one tree.
  pub one_way_through : (xs ys : List (Item Reading)) (t u : Tree Reading) → HasNoFault o ls xs t → HasNoFault o ls ys u → (xs ≡ ys) × (t ≡ u)
  one_way_through xs ys t u a b = grind (arith, sound_same, sound_once)

  -- A text with a faulty line isn't one without.
  pub stops_or_goes : (xs ys : List (Item Reading)) (t u : Tree Reading) (f : Fault) → FirstFaultAt o ls xs t f → HasNoFault o ls ys u → ⊥
  stops_or_goes xs ys t u f a b = faulty_inside o xs ys t u a.faulty a.later f a.sound a.fault b.sound (sym b.are ∙ a.are)

-- A text is read in one way at most.
pub reads_once : {o : Options} {input : List ℕ} {xs ys : List (Item Reading)} {t u : Tree Reading} {f g : Option Fault} → ReadsAs o input xs t f → ReadsAs o input ys u g →
    (xs ≡ ys) × (t ≡ u) × (f ≡ g)
reads_once {o = o} {input = input} (stops xs t f a) (stops ys u g b) =
    let w : (xs ≡ ys) × (t ≡ u) × (f ≡ g) = one_stop o (lines_of input) xs ys t u f g a b in (w.0, w.1, ap (λ h. Some h) w.2)
reads_once {o = o} {input = input} (stops xs t f a) (ends ys u b) = absurd (stops_or_goes o (lines_of input) xs ys t u f a b)
reads_once {o = o} {input = input} (ends xs t a) (stops ys u g b) = absurd (stops_or_goes o (lines_of input) ys xs u t g b a)
reads_once {o = o} {input = input} (ends xs t a) (ends ys u b) =
    let w : (xs ≡ ys) × (t ≡ u) = one_way_through o (lines_of input) xs ys t u a b in (w.0, w.1, ap₂ end_fault w.0 w.1)

-- A text has one outcome at most.
pub one_run : {o : Options} {input : List ℕ} {r s : Outcome} → HasOutcome o input r → HasOutcome o input s → r ≡ s
one_run {o = o} (ran_as {xs = xs} {t = t} {f = f} a) (ran_as {xs = ys} {t = u} {f = g} b) = grind (arith, reads_once)

same_break : {o : Options} {given : List ℕ} {xs ys : List (Item Reading)} {t u : Tree Reading} {f : Fault} → xs ≡ ys → t ≡ u →
    RestBreaks o given xs t f → RestBreaks o given ys u f
same_break {o = o} {given = given} {ys = ys} {t = t} {f = f} p q c = grind arith

-- A text that goes on is read in one way at most so far.
pub reads_so_far_once : {o : Options} {given : List ℕ} {xs ys : List (Item Reading)} {t u : Tree Reading} {f g : Option Fault} →
    ReadsSoFar o given xs t f → ReadsSoFar o given ys u g → (xs ≡ ys) × (t ≡ u) × (f ≡ g)
reads_so_far_once {o = o} {given = given} (stops_so_far xs t f a) (stops_so_far ys u g b) =
    let w : (xs ≡ ys) × (t ≡ u) × (f ≡ g) = one_stop o (lines_so_far given) xs ys t u f g a b in (w.0, w.1, ap (λ h. Some h) w.2)
reads_so_far_once {o = o} {given = given} (stops_so_far xs t f a) (breaks ys u g b c) = absurd (stops_or_goes o (lines_so_far given) xs ys t u f a b)
reads_so_far_once {o = o} {given = given} (stops_so_far xs t f a) (goes_on ys u b c) = absurd (stops_or_goes o (lines_so_far given) xs ys t u f a b)
reads_so_far_once {o = o} {given = given} (breaks xs t f a c) (stops_so_far ys u g b) = absurd (stops_or_goes o (lines_so_far given) ys xs u t g b a)
reads_so_far_once {o = o} {given = given} (goes_on xs t a c) (stops_so_far ys u g b) = absurd (stops_or_goes o (lines_so_far given) ys xs u t g b a)
reads_so_far_once {o = o} {given = given} (breaks xs t f a c) (breaks ys u g b d) =
    let w : (xs ≡ ys) × (t ≡ u) = one_way_through o (lines_so_far given) xs ys t u a b in
    (w.0, w.1, ap (λ h. Some h) (one_fault ys (next_item o ys u (line_so_far given)) f g (same_break w.0 w.1 c).fault d.fault))
reads_so_far_once {o = o} {given = given} (breaks xs t f a c) (goes_on ys u b d) =
    let w : (xs ≡ ys) × (t ≡ u) = one_way_through o (lines_so_far given) xs ys t u a b in
    absurd (d f (same_break w.0 w.1 c))
reads_so_far_once {o = o} {given = given} (goes_on xs t a c) (breaks ys u g b d) =
    let w : (ys ≡ xs) × (u ≡ t) = one_way_through o (lines_so_far given) ys xs u t b a in
    absurd (c g (same_break w.0 w.1 d))
reads_so_far_once {o = o} {given = given} (goes_on xs t a c) (goes_on ys u b d) =
    let w : (xs ≡ ys) × (t ≡ u) = one_way_through o (lines_so_far given) xs ys t u a b in (w.0, w.1, refl)

-- A text that goes on has one outcome at most so far.
pub one_run_so_far : {o : Options} {given : List ℕ} {r s : Outcome} → HasOutcomeSoFar o given r → HasOutcomeSoFar o given s → r ≡ s
one_run_so_far {o = o} (came_as {xs = xs} {t = t} {f = f} a) (came_as {xs = ys} {t = u} {f = g} b) = grind (arith, reads_so_far_once)
