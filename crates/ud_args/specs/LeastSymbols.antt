-- LeastSymbols: the option `-D` with the least value of a symbol (unifdef-tree(1)).
--
-- Example: `-D'V>=5'` says that V is 5 or more. `-D'V>5'` and `-D'V==5'` are faults.
use Rattle.std.specs.Prelude.{ℕ, List, ◌∷◌, ◌++◌, drop, Bool, not, ◌&&◌, ◌||◌, is_some, codes}
use Rattle.std.specs.Prelude.{Some, if◌then◌else◌, ◌≡◌, true, false}
use Rattle.ud_model.specs.conditions.Table.{Argument}
use Rattle.ud_model.specs.text.Bytes.{equals_sign, leading_word, skip_word, starts_with_byte}
use Rattle.ud_model.specs.conditions.Values.{text_value, text_has_u}
use Rattle.ud_model.specs.answer.SymbolArguments.{is_name}
use Rattle.ud_model.specs.answer.CommandLine.{has_letter}
use Rattle.ud_cond.specs.CondViews.{argument_for}
use Rattle.ud_args.specs.declared.least.LeastSymbol.{LeastSymbol}

-- `is_number w`: as the value of a symbol, `w` is a known number.
abbrev pub is_number : List ℕ → Bool
is_number w = is_some (text_value (text_has_u w) w)

-- `has_least a`: the argument `a` is a name, `>=` and a number.
abbrev pub has_least : List ℕ → Bool
has_least a = is_name (leading_word a) && starts_with_byte 62 (skip_word a) &&
    starts_with_byte 61 (drop 1 (skip_word a)) && is_number (drop 2 (skip_word a))

-- `is_least c a`: the option `c` with the argument `a` gives the least value of a symbol.
abbrev pub is_least : ℕ → List ℕ → Bool
is_least c a = has_letter (codes "D") c && has_least a

-- `least_definition a`: the argument of `-D` in terms of unifdef(1), where a byte 255 before the
-- value of a symbol says that it is the least one.
abbrev pub least_definition : List ℕ → List ℕ
least_definition a = leading_word a ++ equals_sign ∷ 255 ∷ drop 2 (skip_word a)

-- `definition_for c a`: the argument of the option `c` in terms of unifdef(1).
abbrev pub definition_for : ℕ → List ℕ → List ℕ
definition_for c a = if is_least c a then least_definition a else a

-- `has_relation a`: `a` begins with `<`, `>`, `!=` or `==`.
abbrev pub has_relation : List ℕ → Bool
has_relation a = starts_with_byte 60 a || starts_with_byte 62 a ||
    ((starts_with_byte 33 a || starts_with_byte 61 a) && starts_with_byte 61 (drop 1 a))

-- `is_other_relation c a`: the option `c` is `-D`, and its argument has a relation after the name,
-- but gives no least value.
abbrev pub is_other_relation : ℕ → List ℕ → Bool
is_other_relation c a = has_letter (codes "D") c && is_name (leading_word a) &&
    has_relation (skip_word a) && not (has_least a)

-- `least_argument l`: the symbol `l`, as one of the definitions.
abbrev pub least_argument : LeastSymbol → Argument
least_argument l = argument_for l.name.now (Some (255 ∷ l.number.now)) false

-- `IsLeastOf c a l`: the option `c` with the argument `a` gives the least value of the symbol
-- `l`.
pub record IsLeastOf (c : ℕ) (a : List ℕ) (l : LeastSymbol) : Type 0 where
  pub is : is_least c a ≡ true
  pub name : l.name.now ≡ leading_word a
  pub number : l.number.now ≡ drop 2 (skip_word a)
