-- Residual again: the text of a residual stays as it is.
use Rattle.std.proofs.Common.{◌≡◌, Bool, true, List, [], ◌∷◌, length, map, Some, refl, sym, ◌∙◌, ap}
use Rattle.std.proofs.Common.{arith, ◌≤◌, false}
use Rattle.ud_model.specs.text.Lexemes.{Cell, shown}
use Rattle.ud_model.specs.conditions.Table.{Argument}
use Rattle.ud_model.specs.conditions.Tokens.{NextToken, next_token}
use Rattle.ud_model.specs.conditions.Expressions.{Expression, spelling}
use Rattle.ud_model.specs.conditions.Parsing.{expression_of}
use Rattle.ud_model.specs.conditions.Conditions.{Rules}
use Rattle.ud_model.specs.aids.Residuals.{keeps, chosen}
use Rattle.ud_simplified.specs.ResidualTexts.{left_by, left_from, simplified_cells}
use Rattle.std.proofs.lemmas.List.{take-append-drop}
use Rattle.ud_model.proofs.conditions.KeptTokens.{SameLength, choose, kept_are}
use Rattle.ud_simplified.proofs.ResidualRead.{rest_of}
use Rattle.ud_laws.proofs.conditions.ResidualOperands.{again}

-- The text of a residual stays as it is.

-- 1. The flags of a residual.

-- Each flag is true.
abbrev pub AreTrue : List Bool → Type 0
AreTrue [] = Unit {0}
AreTrue (f ∷ flags) = (f ≡ true) × AreTrue flags

chosen_fewer : {A : Type 0} (flags : List Bool) (xs : List A) → length (chosen flags xs) ≤ length xs
chosen_fewer (true ∷ flags) (x ∷ xs) = let h = chosen_fewer flags xs in omega (arith, h)
chosen_fewer (false ∷ flags) (x ∷ xs) = let h = chosen_fewer flags xs in omega (arith, h)
chosen_fewer h xs = omega arith

-- If all members are chosen, each flag is true.
all_true : {A : Type 0} (flags : List Bool) (xs : List A) → SameLength flags xs → chosen flags xs ≡ xs → AreTrue flags
all_true [] xs h e = tt
all_true (true ∷ flags) (x ∷ xs) h e = let t : chosen flags xs ≡ xs = cc in (refl, all_true flags xs h t)
all_true (false ∷ flags) (x ∷ xs) h e =
    let a : length (chosen flags xs) ≤ length xs = chosen_fewer flags xs in
    let b : length (chosen flags xs) ≡ length (x ∷ xs) = ap length e in
    absurd (omega (arith, a, b))
all_true (f ∷ flags) [] h e = absurd h

-- 2. A text all of whose tokens stay.

token_stays : (operand : Bool) (further : Bool → List Cell → List Cell) → ((o : Bool) (c : List Cell) → further o c ≡ c) → (cells : List Cell) (x : NextToken) →
    left_by true operand true further cells x ≡ cells
token_stays operand further h cells x = grind (arith, take-append-drop)

all_stay : (operand : Bool) (flags : List Bool) → AreTrue flags → (cells : List Cell) → left_from true operand flags cells ≡ cells
all_stay operand (true ∷ flags) h cells = token_stays operand (λ o c. left_from true o flags c) (λ o c. all_stay o flags h.1 c) cells (next_token (map shown cells))
all_stay operand flags h cells = grind arith

-- 3. The text of a residual.

module _ (table : List Argument) (rules : Rules) where
  -- If an expression is its own residual, each of its tokens stays.
  pub fixed_true : (e : Expression) → rest_of table rules e ≡ e → AreTrue (keeps table rules e)
  fixed_true e p = all_true (keeps table rules e) (spelling e) (choose table rules e).long (sym (kept_are table rules e) ∙ ap spelling p)

  flags_true : (e : Expression) → AreTrue (keeps table rules (rest_of table rules e))
  flags_true e = fixed_true (rest_of table rules e) (ap (λ x. x.tree) (again table rules e))

  -- The text of a residual stays.
  pub residual_stays : (e : Expression) (cells : List Cell) → expression_of (map shown cells) ≡ Some (rest_of table rules e) → simplified_cells table rules cells ≡ cells
  unfolding simplified_cells
  residual_stays e cells p = grind (arith, all_stay, flags_true)
