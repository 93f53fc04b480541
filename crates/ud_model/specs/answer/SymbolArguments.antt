-- SymbolArguments: the name and the value of a symbol in an option-argument.
-- unifdef(1), `-D`, `-U`, `-i`.
use Rattle.std.specs.Prelude.{ℕ, List, [], ◌∷◌, Bool, not, ◌&&◌, ◌==◌, Option, Some, None, bytes_eq}
use Rattle.std.specs.Prelude.{codes, if◌then◌else◌}
use Rattle.ud_model.specs.text.Bytes.{equals_sign, is_identifier}

-- `name_before_equals a`: the bytes of `a` before its first `=`, or all if there is none.
abbrev pub name_before_equals : List ℕ → List ℕ
name_before_equals [] = []
name_before_equals (b ∷ bs) = if b == equals_sign then [] else b ∷ name_before_equals bs

-- `value_after_equals a`: the bytes of `a` after its first `=`, if any.
abbrev pub value_after_equals : List ℕ → Option (List ℕ)
value_after_equals [] = None
value_after_equals (b ∷ bs) = if b == equals_sign then Some bs else value_after_equals bs

-- `is_name name`: `name` is an identifier other than `defined`, so it may name a symbol.
abbrev pub is_name : List ℕ → Bool
is_name name = is_identifier name && not (bytes_eq name (codes "defined"))

-- `value_or_one value`: the value of a defined symbol, which is `1` if none is given.
abbrev pub value_or_one : Option (List ℕ) → List ℕ
value_or_one None = codes "1"
value_or_one (Some value) = value
