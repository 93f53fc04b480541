-- Pushes: lists from their last element, for inductions over the lines so far.
use Rattle.std.proofs.Common.{◌≡◌, List, [], ◌∷◌, ◌++◌, append_assoc, append-nil, subst}

-- A list that begins empty, with one element after another pushed to its end.
pub data ByPush {A : Type 0} : List A → Type 0 where
  none : ByPush []
  push : {xs : List A} (x : A) → ByPush xs → ByPush (xs ++ x ∷ [])

module _ {A : Type 0} where
  push_all : (ys xs : List A) → ByPush xs → ByPush (xs ++ ys)
  push_all [] xs p = rw append-nil p
  push_all (y ∷ ys) xs p = subst ByPush (append_assoc xs (y ∷ []) ys) (push_all ys (xs ++ y ∷ []) (push y p))

  -- Each list is made by pushes.
  pub by_push : (xs : List A) → ByPush xs
  by_push xs = push_all xs [] none

  -- A list with an element isn't empty.
  pub push_not_nil : (xs : List A) (x : A) → xs ++ x ∷ [] ≡ [] → ⊥
  push_not_nil [] x e = cc
  push_not_nil (y ∷ xs) x e = cc
