-- Residual read: a simplified text is read as the residual of its tree, and cells are only removed.
use Rattle.std.proofs.Common.{◌≡◌, ℕ, zero, suc, ◌-◌, Bool, true, not, ◌&&◌, ◌||◌, if◌then◌else◌}
use Rattle.std.proofs.Common.{List, [], ◌∷◌, ◌++◌, length, map, take, drop, Option, Some, None}
use Rattle.std.proofs.Common.{refl, sym, ap, subst, ◌⊎◌, arith, rules}
use Rattle.std.proofs.lemmas.Slice.Eq.{bytes_eq-Decides}
use Rattle.std.proofs.lemmas.Bool.{and_parts}
use Rattle.ud_model.specs.text.Bytes.{skip_white, are_white}
use Rattle.ud_model.specs.text.Lexemes.{Cell, shown}
use Rattle.ud_model.specs.conditions.Table.{Argument}
use Rattle.ud_model.specs.conditions.Tokens.{Token, NextToken, found, next_token}
use Rattle.ud_model.specs.conditions.Expressions.{Expression, spelling, IsWritten}
use Rattle.ud_model.specs.conditions.Parsing.{tokens_of, expression_of}
use Rattle.ud_model.specs.conditions.Conditions.{Rules}
use Rattle.ud_model.specs.aids.Residuals.{residual, keeps}
use Rattle.ud_simplified.specs.ResidualTexts.{cells_before, cells_after, token_left, left_by, left_from, left_cells, ends_operand, same_token, same_tokens, are_tokens, begins_word, may_go, is_read, simplified_by, simplified_cells}
use Rattle.ud_simplified.specs.Sublists.{IsSublist, nothing, without, with_same}
use Rattle.ud_model.proofs.conditions.TokenLemmas.{tokens_of_are}
use Rattle.ud_model.proofs.conditions.OneExpression.{expression_only, expression_is}
use Rattle.ud_simplified.proofs.ResidualShape.{precedence_stays, all_of_it, none_of_it}

-- 1. Tokens that look alike are the same.

lists_alike : (ts us : List Token) → same_tokens ts us ≡ true → ts ≡ us
lists_alike (t ∷ ts) (u ∷ us) e = grind (arith, and_parts, bytes_eq-Decides, lists_alike ts us (and_parts (same_token t u) (same_tokens ts us) e).1)
lists_alike ts us h = grind arith

found_are : (o : Option (List Token)) (ts : List Token) → are_tokens o ts ≡ true → o ≡ Some ts
found_are None ts e = cc
found_are (Some us) ts e = ap (λ xs. Some xs) (lists_alike us ts e)

-- 2. A simplified text is read as the residual.

module _ (table : List Argument) (rules : Rules) where
  abbrev pub rest_of : Expression → Expression
  rest_of e = (residual table rules e).tree

  pub written_left : (e : Expression) (cells : List Cell) → expression_of (map shown cells) ≡ Some e →
      (left : List Cell) → is_read table rules e left ≡ true → expression_of (map shown left) ≡ Some (rest_of e)
  written_left e cells p left q =
      let w : IsWritten (map shown cells) e = expression_is (map shown cells) e p in
      let f = found_are (tokens_of (map shown left)) (spelling (rest_of e)) (and_parts (not (begins_word left)) (are_tokens (tokens_of (map shown left)) (spelling (rest_of e))) q).1 in
      expression_only (map shown left) (rest_of e) (precedence_stays table rules e 1 w.0, tokens_of_are (map shown left) (spelling (rest_of e)) f)

  -- The simplified text is the text itself, or is read as the residual.
  pub same_or_left : (e : Expression) (cells : List Cell) → expression_of (map shown cells) ≡ Some e →
      (simplified_cells table rules cells ≡ cells) ⊎ (expression_of (map shown (simplified_cells table rules cells)) ≡ Some (rest_of e))
  unfolding simplified_cells
  same_or_left e cells p = subst (λ o. (simplified_by table rules o cells ≡ cells) ⊎ (expression_of (map shown (simplified_by table rules o cells)) ≡ Some (rest_of e))) (sym p)
      (by (may_go table rules e cells && is_read table rules e (left_cells (keeps table rules e) cells)) refl)
    where
      by : (b : Bool) → (may_go table rules e cells && is_read table rules e (left_cells (keeps table rules e) cells)) ≡ b →
          ((if b then left_cells (keeps table rules e) cells else cells) ≡ cells) ⊎
          (expression_of (map shown (if b then left_cells (keeps table rules e) cells else cells)) ≡ Some (rest_of e))
      by b q = grind (arith, written_left)

  -- A text without a tree stays.
  pub untouched : (cells : List Cell) → expression_of (map shown cells) ≡ None → simplified_cells table rules cells ≡ cells
  unfolding simplified_cells
  untouched cells e = ap (λ o. simplified_by table rules o cells) e

-- 3. Cells are only removed.

pub of_parts : {A : Type 0} (n : ℕ) (xs : List A) {a b : List A} → IsSublist a (take n xs) → IsSublist b (drop n xs) → IsSublist (a ++ b) xs
of_parts zero xs nothing q = q
of_parts (suc n) [] nothing q = q
of_parts (suc n) (x ∷ xs) (without p) q = without (of_parts n xs p q)
of_parts (suc n) (x ∷ xs) (with_same p) q = with_same (of_parts n xs p q)

some_or_none : {A : Type 0} (c : Bool) (xs : List A) → IsSublist (if c then xs else []) xs
some_or_none h xs = grind (arith, all_of_it, none_of_it)

token_sub : (f : Bool) (further : Bool → List Cell → List Cell) (rest : List ℕ) (o : Bool) (cells : List Cell) →
    ((o : Bool) (c : List Cell) → IsSublist (further o c) c) → IsSublist (token_left f further rest o cells) cells
token_sub f further rest o cells h =
    of_parts (length cells - length rest) cells (some_or_none f (cells_before rest cells)) (h o (cells_after rest cells))

by_sub : (prev operand f : Bool) (further : Bool → List Cell → List Cell) (cells : List Cell) (x : NextToken) →
    ((o : Bool) (c : List Cell) → IsSublist (further o c) c) → IsSublist (left_by prev operand f further cells x) cells
by_sub prev operand f further cells (found t rest) h =
    let s : List ℕ = skip_white (map shown cells) in
    of_parts (length cells - length s) cells
    (some_or_none ((if operand then f else prev) || not (are_white (map (λ (c : Cell). c.byte) (cells_before s cells)))) (cells_before s cells))
    (token_sub f further rest (ends_operand t) (cells_after s cells) h)
by_sub _ _ _ _ cells _ _ = all_of_it cells

from_sub : (prev operand : Bool) (flags : List Bool) (cells : List Cell) → IsSublist (left_from prev operand flags cells) cells
from_sub prev operand [] cells = all_of_it cells
from_sub prev operand (f ∷ flags) cells = by_sub prev operand f (λ o c. left_from f o flags c) cells (next_token (map shown cells)) (λ o c. from_sub f o flags c)

-- A simplified text has some of the cells, in their order.
pub cells_go : (table : List Argument) (rules : Rules) (cells : List Cell) → IsSublist (simplified_cells table rules cells) cells
unfolding simplified_cells
cells_go table rules cells = grind (arith, from_sub, all_of_it)
