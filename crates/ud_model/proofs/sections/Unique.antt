-- Unique: a list of lines has one tree or none, and each prefix of a list with a tree has a tree.
use Rattle.std.proofs.Common.{◌≡◌, List, [], ◌∷◌, ◌++◌, refl, sym, ◌∙◌, ap, subst, ◌⊎◌, inl, inr, length, append_assoc, append-nil, length-append, arith}
use Rattle.std.proofs.lemmas.List.{same_from_push}
use Rattle.ud_model.specs.sections.Tree.{Item, Tree, closed, nothing, lines}
use Rattle.ud_model.proofs.text.Pushes.{ByPush, none, push, by_push, push_not_nil}
use Rattle.ud_model.proofs.sections.Growth.{Adds, lines-add, adds-once, undo}

module _ {L : Type 0} where
  -- A tree that has grown has a line.
  grown_not_nil : {t u : Tree L} {x : Item L} → Adds t x u → lines u ≡ [] → ⊥
  grown_not_nil {t = t} {x = x} a e = push_not_nil (lines t) x (sym (lines-add a) ∙ e)

  same_grown : {t u v w : Tree L} {x y : Item L} → Adds t x v → Adds u y w → t ≡ u → x ≡ y → v ≡ w
  same_grown {w = w} {x = x} {y = y} a b e f = adds-once a (rw (e, f) b)

  last_lines : {t u : Tree L} {x y : Item L} (xs : List (Item L)) → Adds t x u → lines u ≡ xs ++ y ∷ [] → (lines t ≡ xs) × (x ≡ y)
  last_lines {t = t} {x = x} {y = y} xs a e = same_from_push (lines t) xs x y (sym (lines-add a) ∙ e)

  is_empty : (t : Tree L) → lines t ≡ [] → t ≡ closed nothing
  is_empty t e = go (undo t)
    where
      go : (t ≡ closed nothing) ⊎ ((u : Tree L) × (x : Item L) × Adds u x t) → t ≡ closed nothing
      go h = grind (arith, grown_not_nil)

  -- The tree before the last line.
  pub tree_before : (xs : List (Item L)) (x : Item L) (u : Tree L) → lines u ≡ xs ++ x ∷ [] → (t : Tree L) × (lines t ≡ xs) × Adds t x u
  tree_before xs x u e = go (undo u)
    where
      go : (u ≡ closed nothing) ⊎ ((t : Tree L) × (y : Item L) × Adds t y u) → (t : Tree L) × (lines t ≡ xs) × Adds t x u
      go (inl p) = absurd (push_not_nil xs x (sym e ∙ ap lines p))
      go (inr (t, y, a)) = let s : (lines t ≡ xs) × (y ≡ x) = last_lines xs a e in (t, s.0, subst (λ z. Adds t z u) s.1 a)

  unique_by : {xs : List (Item L)} → ByPush xs → (t u : Tree L) → lines t ≡ xs → lines u ≡ xs → t ≡ u
  unique_by none t u d e = is_empty t d ∙ sym (is_empty u e)
  unique_by (push {xs = xs} x p) t u d e =
      let a : (v : Tree L) × (lines v ≡ xs) × Adds v x t = tree_before xs x t d in
      let b : (v : Tree L) × (lines v ≡ xs) × Adds v x u = tree_before xs x u e in
      same_grown a.2 b.2 (unique_by p a.0 b.0 a.1 b.1) refl

  -- A list of lines has one tree at most.
  pub unique : (t u : Tree L) → lines t ≡ lines u → t ≡ u
  unique t u e = unique_by (by_push (lines u)) t u e refl

  -- A tree with one line more has grown by it.
  pub grows : (t u : Tree L) (x : Item L) → lines u ≡ lines t ++ x ∷ [] → Adds t x u
  grows t u x e = let a : (v : Tree L) × (lines v ≡ lines t) × Adds v x u = tree_before (lines t) x u e in grind (arith, unique a.0 t a.1, a.2)

-- A list with one element more for each line is as long as the lines, and stays in longer texts.
module _ {L A : Type 0} (f : Tree L → List A)
    (add : (t u : Tree L) (x : Item L) → Adds t x u → (k : A) × (f u ≡ f t ++ k ∷ [])) where
  pub length_by : {xs : List (Item L)} → ByPush xs → f (closed nothing) ≡ [] →
      (t : Tree L) → lines t ≡ xs → length (f t) ≡ length xs
  length_by none z t e = rw (unique t (closed nothing) e, z)
  length_by (push {xs = xs} x p) z t e =
      let b : (v : Tree L) × (lines v ≡ xs) × Adds v x t = tree_before xs x t e in
      let m : (k : A) × (f t ≡ f b.0 ++ k ∷ []) = add b.0 t x b.2 in
      rw (m.1, length-append (f b.0) (m.0 ∷ []), length-append xs (x ∷ []), length_by p z b.0 b.1)

  pub stay_by : {more : List (Item L)} → ByPush more → (t u : Tree L) → lines u ≡ lines t ++ more →
      (rest : List A) × (f u ≡ f t ++ rest)
  stay_by none t u e = ([], rw (unique u t (e ∙ append-nil (lines t))) (sym (append-nil (f t))))
  stay_by (push {xs = ys} y p) t u e =
      let b : (v : Tree L) × (lines v ≡ lines t ++ ys) × Adds v y u = grind (arith, tree_before, append_assoc) in
      let m : (k : A) × (f u ≡ f b.0 ++ k ∷ []) = add b.0 u y b.2 in
      let r : (rest : List A) × (f b.0 ≡ f t ++ rest) = stay_by p t b.0 b.1 in
      (r.0 ++ m.0 ∷ [], rw (m.1, r.1) (append_assoc (f t) r.0 (m.0 ∷ [])))
