-- Prefixes: lists that begin with another list.
--
-- Example: `[1]` is a prefix of `[1, 2]`, and so are `[]` and `[1, 2]`.
use Rattle.std.specs.Prelude.{◌≡◌, List, ◌++◌}

-- `IsPrefix xs ys`: `ys` is `xs` and then perhaps more.
abbrev pub IsPrefix : {A : Type 0} → List A → List A → Type 0
IsPrefix {A = A} xs ys = (rest : List A) × (ys ≡ xs ++ rest)
