-- Cells: parts of a condition's text, and the rest of them.
use Rattle.std.proofs.Common.{◌≡◌, ℕ, ◌-◌, List, [], ◌∷◌, ◌++◌, length, map, take, drop, Bool, not, ◌||◌, if◌then◌else◌, refl, arith}
use Rattle.std.specs.Prelude.{Result, IfOk}
use Rattle.std.proofs.lemmas.Grind.{common_steps}
use Rattle.ud_model.specs.text.Bytes.{are_white, skip_white}
use Rattle.ud_model.specs.text.Lexemes.{Cell, shown}
use Rattle.ud_model.specs.conditions.Tokens.{Token, at_end, found, next_token}
use Rattle.ud_simplified.specs.ResidualTexts.{left_from, ends_operand}
use Rattle.ud_passes.specs.pruning.Cells.{AreCells, SameLeft, byte_of}

-- 1. Parts of the cells.

pub cells_same : (cells : List Cell) {bytes masked more longer : List ℕ} → bytes ≡ more → masked ≡ longer → AreCells cells bytes masked → AreCells cells more longer
cells_same cells e f a = grind arith

-- The cells are as many as the bytes that show them.
pub cells_count : (cells : List Cell) (bytes masked : List ℕ) → AreCells cells bytes masked → length masked ≡ length cells
cells_count cells bytes masked a = grind (arith, common_steps)

-- 2. The rest of a token and the white space before it.

module _ (prev operand f : Bool) (flags : List Bool) (cells : List Cell) where
  -- The first token stays or goes, and so does the white space before it.
  pub found_left : (t : Token) (rest : List ℕ) (gap size : ℕ) → next_token (map shown cells) ≡ found t rest →
      length cells - length (skip_white (map shown cells)) ≡ gap → length (drop gap cells) - length rest ≡ size →
      left_from prev operand (f ∷ flags) cells ≡
      (if (if operand then f else prev) || not (are_white (map byte_of (take gap cells))) then take gap cells else []) ++
      ((if f then take size (drop gap cells) else []) ++ left_from f (ends_operand t) flags (drop size (drop gap cells)))
  found_left t rest gap size e g s = grind arith

  -- A text without a token stays.
  pub end_left : next_token (map shown cells) ≡ at_end → left_from prev operand (f ∷ flags) cells ≡ cells
  end_left e = grind arith

no_token : next_token [] ≡ at_end
unfolding next_token
no_token = refl

-- Nothing is left of nothing.
pub none_left : (prev operand : Bool) (flags : List Bool) → left_from prev operand flags [] ≡ []
none_left prev operand [] = refl
none_left prev operand (f ∷ flags) = grind (arith, no_token)

-- 3. The text so far.

-- A text was appended, after which nothing is left.
pub all_appended : (b s : List ℕ) (cells : List Cell) (bytes masked : List ℕ) {c t : List ℕ} → AreCells cells bytes masked → c ≡ b ++ bytes → t ≡ s ++ masked → SameLeft b s cells c t []
all_appended b s cells bytes masked a e f = grind (arith, common_steps)

pub same_on : (b s : List ℕ) {xs ys : List Cell} {c t : List ℕ} {zs ws : List Cell} → xs ≡ ys → zs ≡ ws → SameLeft b s ys c t ws → SameLeft b s xs c t zs
same_on b s e f h = grind arith

pub if_ok : {A E : Type 0} {R Q : A → Type 0} (r : Result A E) → IfOk r R → ((p : A) → R p → Q p) → IfOk r Q
if_ok r x f = grind arith
