-- The record that a text is read to has the residual of its tree.
use Rattle.std.proofs.Common.{◌≡◌, ℕ, zero, ◌+◌, suc, List, [], ◌∷◌, ◌++◌, length, map, replicate, Bool, true, false, if◌then◌else◌, Option, Some, option_map, refl, sym, ◌∙◌, ap, ap₂, length-append, arith}
use Rattle.ud_model.specs.conditions.Table.{Argument}
use Rattle.ud_model.specs.conditions.Tokens.{Token, operator}
use Rattle.ud_model.specs.conditions.Expressions.{Expression, constant, named, is_defined, unary, binary, parens, spelling}
use Rattle.ud_model.specs.conditions.Parsing.{meaning, reads, needs, expression_of}
use Rattle.ud_model.specs.conditions.Conditions.{Rules}
use Rattle.ud_model.specs.conditions.Values.{number_of}
use Rattle.ud_model.specs.aids.Residuals.{Residual, settled, stands_alone, alone, residual, joined_flags, all_flags, keeps}
use Rattle.ud_model.specs.declared.operator.Operator.{Operator}
use Rattle.ud_model.specs.declared.operator.Operator.TheVariants.{Or, And, Not}
use Rattle.ud_model.proofs.conditions.Readings.{reads_meaning}
use Rattle.ud_model.proofs.conditions.KeptTokens.{SameLength, choose}
use Rattle.ud_cond.specs.expressions.Evaluation.{value_of_tree}
use Rattle.ud_cond.specs.expressions.ResidualReading.{Kept, leaf, unary_kept, joined_kept, binary_kept, parens_kept, kept_meaning, kept_of_tree}

-- kept parts with the same fields
kept_same : {k j : Kept} → k.value ≡ j.value → k.number ≡ j.number → k.cond ≡ j.cond → k.lost ≡ j.lost →
    k.left_alone ≡ j.left_alone → k.alone ≡ j.alone → k.flags ≡ j.flags → k ≡ j
kept_same v n c l a b f = grind arith

-- flags of one kind
pub same_length : {A B : Type 0} (xs : List A) (ys : List B) → SameLength xs ys → length xs ≡ length ys
same_length [] [] h = refl
same_length (x ∷ xs) (y ∷ ys) h = ap (λ (n : ℕ). suc n) (same_length xs ys h)
same_length [] (y ∷ ys) h = absurd h
same_length (x ∷ xs) [] h = absurd h

all_of : (f : Bool) (ts : List Token) → replicate (length ts) f ≡ map (λ t. f) ts
all_of f [] = refl
all_of f (t ∷ ts) = ap (λ (fs : List Bool). f ∷ fs) (all_of f ts)

moved : (n : ℕ) (f : Bool) (fs : List Bool) → replicate (suc n) f ++ fs ≡ replicate n f ++ f ∷ fs
moved zero f fs = refl
moved (suc n) f fs = ap (λ (gs : List Bool). f ∷ gs) (moved n f fs)

module _ (table : List Argument) (rules : Rules) where
  abbrev left : Expression → Residual
  left e = residual table rules e

  long : (e : Expression) → length (keeps table rules e) ≡ length (spelling e)
  long e = grind (arith, same_length, choose)

  all_kept : (f : Bool) (e : Expression) → replicate (length (keeps table rules e)) f ≡ all_flags f e
  all_kept f e = grind (arith, long, all_of)

  leaf_is : (e : Expression) (fs : List Bool) → fs ≡ keeps table rules e → left e ≡ alone table rules e →
      leaf rules (value_of_tree table rules.strict false e) (number_of table rules.strict true e) (stands_alone e) fs ≡ kept_of_tree table rules e
  leaf_is e fs f h = grind arith

  -- `&&` and `||`
  module _ (o : Operator) (e f : Expression) where
    abbrev tree_by : Bool → Bool → Residual
    tree_by b d =
        if b then record (left f) { lost = true } else if d then record (left e) { lost = true }
        else record { cond = settled rules.strict o (left e).cond (left f).cond; tree = binary o (left e).tree (left f).tree; lost = false }

    abbrev flags_by : Bool → Bool → List Bool
    flags_by b d =
        if b then replicate (length (keeps table rules e) + 1) false ++ keeps table rules f
        else if d then keeps table rules e ++ replicate (suc (length (keeps table rules f))) false
        else keeps table rules e ++ true ∷ keeps table rules f

    cond_by : (b d : Bool) → (if b then (left f).cond else if d then (left e).cond else settled rules.strict o (left e).cond (left f).cond) ≡ (tree_by b d).cond
    cond_by b d = grind arith

    lost_by : (b d : Bool) → (if b then true else if d then true else false) ≡ (tree_by b d).lost
    lost_by b d = grind arith

    alone_by : (b d : Bool) → (if b then stands_alone (left f).tree else if d then stands_alone (left e).tree else false) ≡ stands_alone (tree_by b d).tree
    alone_by b d = grind arith

    joined_by : (b d : Bool) → flags_by b d ≡ joined_flags b d e f (keeps table rules e) (keeps table rules f)
    joined_by b d = grind (arith, moved, all_kept)

  joined_and : (e f : Expression) → joined_kept rules And (kept_of_tree table rules e) (kept_of_tree table rules f) ≡ kept_of_tree table rules (binary And e f)
  joined_and e f = grind (arith, kept_same, cond_by, lost_by, alone_by, joined_by)

  joined_or : (e f : Expression) → joined_kept rules Or (kept_of_tree table rules e) (kept_of_tree table rules f) ≡ kept_of_tree table rules (binary Or e f)
  joined_or e f = grind (arith, kept_same, cond_by, lost_by, alone_by, joined_by)

  -- parentheses
  module _ (e : Expression) where
    enclosed_is : parens_kept (kept_of_tree table rules e) ≡ kept_of_tree table rules (parens e)
    enclosed_is = grind arith

  other_unary_flags : (o : Operator) (a : Expression) → replicate (suc (length (keeps table rules a))) true ≡ all_flags true (unary o a)
  other_unary_flags o a = grind (arith, all_kept)

  other_binary_flags : (o : Operator) (a b : Expression) → replicate (length (keeps table rules a) + suc (length (keeps table rules b))) true ≡ all_flags true (binary o a b)
  other_binary_flags o a b = ap₂ (λ (m n : ℕ). replicate (m + suc n) true) (long a) (long b)
      ∙ ap (λ (n : ℕ). replicate n true) (sym (length-append (spelling a) (operator o ∷ spelling b))) ∙ all_of true (spelling a ++ operator o ∷ spelling b)

  -- the record of a tree
  pub kept_is : (e : Expression) → meaning (kept_meaning table rules) e ≡ kept_of_tree table rules e
  kept_is (constant w) = leaf_is (constant w) (true ∷ []) refl refl
  kept_is (named n a) = leaf_is (named n a) (true ∷ []) refl refl
  kept_is (is_defined n false) = leaf_is (is_defined n false) (true ∷ true ∷ []) refl refl
  kept_is (is_defined n true) = grind (arith, leaf_is)
  kept_is (parens a) = ap parens_kept (kept_is a) ∙ enclosed_is a
  kept_is (unary Not a) = ap (unary_kept rules Not) (kept_is a)
  kept_is (unary o a) = ap (unary_kept rules o) (kept_is a) ∙ leaf_is (unary o a) _ (other_unary_flags o a) refl
  kept_is (binary And a b) = grind (arith, joined_and, kept_is a, kept_is b)
  kept_is (binary Or a b) = grind (arith, joined_or, kept_is a, kept_is b)
  kept_is (binary o a b) = ap₂ (binary_kept rules o) (kept_is a) (kept_is b) ∙ leaf_is (binary o a b) _ (other_binary_flags o a b) refl

  -- the record of a text
  pub reads_kept : (text : List ℕ) → reads (kept_meaning table rules) (needs []) text ≡ option_map (kept_of_tree table rules) (expression_of text)
  reads_kept text = grind (arith, reads_meaning, kept_is)

-- a text that is read has a tree
pub tree_of : (f : Expression → Kept) (o : Option Expression) (k : Kept) → option_map f o ≡ Some k → (e : Expression) × (o ≡ Some e) × (k ≡ f e)
tree_of f o k e = grind arith
