-- Each: a property of each element of a list, part by part, and of the elements of two lists, pair
-- by pair.
use Rattle.std.proofs.Common.{◌≡◌, List, [], ◌∷◌, ◌++◌, length, arith}

module _ {A : Type 0} (P : A → Type 0) where
  -- Each element has the property.
  abbrev pub Each : List A → Type 0
  Each [] = Unit {0}
  Each (x ∷ xs) = P x × Each xs

  -- Each element of both parts has the property.
  pub each_parts : (xs ys : List A) → Each (xs ++ ys) → Each xs × Each ys
  each_parts [] ys h = (tt, h)
  each_parts (x ∷ xs) ys h = let r : Each xs × Each ys = each_parts xs ys h.1 in ((h.0, r.0), r.1)

  -- If each element of both parts has the property, each of all has it.
  pub each_both : (xs ys : List A) → Each xs → Each ys → Each (xs ++ ys)
  each_both [] ys a b = b
  each_both (x ∷ xs) ys a b = (a.0, each_both xs ys a.1 b)

module _ {A B : Type 0} (P : A → B → Type 0) where
  -- The elements of two lists go together in pairs.
  abbrev pub Pairwise : List A → List B → Type 0
  Pairwise [] ys = Unit {0}
  Pairwise (x ∷ xs) [] = ⊥
  Pairwise (x ∷ xs) (y ∷ ys) = P x y × Pairwise xs ys

  -- They do if both parts do.
  pub pairwise_both : (xs : List A) (ys : List B) (later : List A) (more : List B) → length xs ≡ length ys → Pairwise xs ys → Pairwise later more → Pairwise (xs ++ later) (ys ++ more)
  pairwise_both [] [] later more l p q = q
  pairwise_both [] (y ∷ ys) later more l p q = absurd (omega arith)
  pairwise_both (x ∷ xs) [] later more l p q = absurd p
  pairwise_both (x ∷ xs) (y ∷ ys) later more l p q = (p.0, pairwise_both xs ys later more (omega arith) p.1 q)

  -- Both parts do if all do.
  pub pairwise_parts : (xs : List A) (ys : List B) (later : List A) (more : List B) → length xs ≡ length ys → Pairwise (xs ++ later) (ys ++ more) → Pairwise xs ys × Pairwise later more
  pairwise_parts [] [] later more l p = (tt, p)
  pairwise_parts (x ∷ xs) (y ∷ ys) later more l p = let r : Pairwise xs ys × Pairwise later more = pairwise_parts xs ys later more (omega arith) p.1 in ((p.0, r.0), r.1)
  pairwise_parts xs ys later more l p = absurd (omega arith)

module _ {A B : Type 0} (P : A → B → Type 0) where
  -- The lists have the same length, and their elements go together in pairs.
  pub data Pairs : List A → List B → Type 0 where
    no_pair : Pairs [] []
    pair : {x : A} {y : B} {xs : List A} {ys : List B} → P x y → Pairs xs ys → Pairs (x ∷ xs) (y ∷ ys)

  -- They do if both parts do.
  pub pairs_both : {xs : List A} {ys : List B} {later : List A} {more : List B} → Pairs xs ys → Pairs later more → Pairs (xs ++ later) (ys ++ more)
  pairs_both no_pair q = q
  pairs_both (pair i p) q = pair i (pairs_both p q)
