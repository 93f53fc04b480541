-- Sublists: lists without some of their members.
use Rattle.std.specs.Prelude.{List, [], ◌∷◌}

-- `IsSublist xs ys`: `xs` is `ys` without some of its members.
pub data IsSublist {A : Type 0} : List A → List A → Type 0 where
  nothing : IsSublist [] []
  without : {xs ys : List A} {y : A} → IsSublist xs ys → IsSublist xs (y ∷ ys)
  with_same : {xs ys : List A} {y : A} → IsSublist xs ys → IsSublist (y ∷ xs) (y ∷ ys)
