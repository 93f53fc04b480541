-- PatternFaults: the arguments of `-g` that are faults.
--
--   sign_of text             the `!` or `+` of an argument
--   is_dotted text           a text begins with `/` or `./`
--   bare pattern             a pattern without these
--   has_double_star pattern  a pattern has `**`
--   pattern_fault text       the fault of an argument
--   first_bad texts        the first argument with a fault, and its fault
--
-- Example: `!/third`, `./third`, `**/third`, `third/` and `!` are faults, and `!third/` is none.
use Rattle.std.specs.Prelude.{ℕ, List, [], ◌∷◌, Bool, false, ◌==◌, ◌&&◌, ◌||◌, codes, nat_eq}
use Rattle.std.specs.Prelude.{length, Option, Some, None, if◌then◌else◌}
use Rattle.std.specs.List.{starts_with}
use Rattle.ud_tree.specs.Choices.{after_sign, chosen_by, effect_of, ends_in_slash}
use Rattle.ud_tree.specs.declared.patterns.faults.PatternFault.{PatternFault}
use Rattle.ud_tree.specs.declared.patterns.faults.PatternFault.TheVariants.{Empty, Anchored}
use Rattle.ud_tree.specs.declared.patterns.faults.PatternFault.TheVariants.{DoubleStar, SlashAtEnd}

-- `sign_of text`: the `!` or `+` that the argument begins with; nothing if there is none.
abbrev pub sign_of : List ℕ → List ℕ
sign_of [] = []
sign_of (b ∷ rest) = if b == 33 || b == 43 then b ∷ [] else []

-- `is_dotted text`: the text begins with `/` or `./`.
abbrev pub is_dotted : List ℕ → Bool
is_dotted [] = false
is_dotted (b ∷ rest) = b == 47 || (b == 46 && starts_with nat_eq rest (codes "/"))

-- `bare pattern`: the pattern without each `/` and `./` that it begins with.
abbrev pub bare : List ℕ → List ℕ
bare [] = []
bare (b ∷ rest) = if is_dotted (b ∷ rest) then bare rest else b ∷ rest

-- `has_double_star pattern`: the pattern has `**`.
abbrev pub has_double_star : List ℕ → Bool
has_double_star [] = false
has_double_star (b ∷ rest) =
    (b == 42 && starts_with nat_eq rest (codes "*")) || has_double_star rest

-- `pattern_fault text`: the fault of the argument of `-g`. Nothing of its pattern is left without
-- slashes, its pattern begins with `/` or `./`, it has `**`, or it chooses files and ends in a
-- slash.
abbrev pub pattern_fault : List ℕ → Option PatternFault
pattern_fault text =
    if length (bare (after_sign text)) == 0 then Some Empty
    else if is_dotted (after_sign text) then Some Anchored
    else if has_double_star (after_sign text) then Some DoubleStar
    else if ends_in_slash (after_sign text) && chosen_by (effect_of text) then Some SlashAtEnd
    else None

-- `BadPattern`: an argument of `-g`, and its fault.
pub record BadPattern : Type 0 where
  pub text : List ℕ
  pub fault : PatternFault

-- `bad_or text fault later`: the argument with its fault, if it has one, else `later`.
abbrev pub bad_or : List ℕ → Option PatternFault → Option BadPattern → Option BadPattern
bad_or text (Some fault) later = Some (record { text = text; fault = fault })
bad_or text None later = later

-- `first_bad texts`: the first of the arguments that has a fault, and its fault.
abbrev pub first_bad : List (List ℕ) → Option BadPattern
first_bad [] = None
first_bad (text ∷ texts) = bad_or text (pattern_fault text) (first_bad texts)
