-- Further symbols: a table with more entries leaves a known value as it is, or makes it unknown.
use Rattle.std.proofs.Common.{◌≡◌, ◌≢◌, ℕ, List, Bool, Option, Some, None, ◌⊎◌, inl, inr, ℤ, refl}
use Rattle.std.proofs.Common.{sym, subst, arith}
use Rattle.ud_model.specs.conditions.Table.{Argument, Entry, entry_in}
use Rattle.ud_model.specs.conditions.Symbols.{ResolvesTo, at_text, by_name, resolve}
use Rattle.ud_model.specs.conditions.Expressions.{Expression, unary, binary, parens}
use Rattle.ud_model.specs.conditions.Values.{apply_binary_known, short_circuits, apply_binary}
use Rattle.ud_model.specs.conditions.Values.{apply_unary_known, amount_from, counted, unary_amount}
use Rattle.ud_model.specs.conditions.Values.{binary_amount, text_value, end_value}
use Rattle.ud_model.specs.conditions.Values.{defined_name_value, name_value_by, name_value}
use Rattle.ud_model.specs.conditions.Values.{defined_value_by, defined_value, number_of, value_of}
use Rattle.ud_model.specs.conditions.Conditions.{Rules, truth_of, tree_cond}
use Rattle.ud_laws.specs.output.ListedNames.{ExtendsTable}
use Rattle.ud_model.specs.declared.amount.Amount.{Amount}
use Rattle.ud_model.specs.declared.amount.Amount.TheVariants.{Anything}
use Rattle.ud_model.specs.declared.cond.Cond.TheVariants.{Unknown}
use Rattle.ud_model.specs.declared.operator.Operator.{Operator}
use Rattle.ud_model.proofs.conditions.SymbolLemmas.{end_found, end_is}

-- The value stays, or is unknown.
abbrev Or_none : ℤ → Option ℤ → Type 0
Or_none z b = (b ≡ Some z) ⊎ (b ≡ None)

abbrev After : Option ℤ → Option ℤ → Type 0
After a b = (z : ℤ) → a ≡ Some z → Or_none z b

operate_after : (b c : Bool) (o : Operator) (x y : ℤ) → After (apply_binary_known b o x y) (apply_binary_known c o x y)
unfolding apply_binary_known
operate_after b c o x y = grind arith

change_after : (b c : Bool) (o : Operator) (x : ℤ) → After (apply_unary_known b o x) (apply_unary_known c o x)
unfolding apply_unary_known
change_after b c o x = grind arith

-- 1. One operand that decides, and both, give the same.

left_decides : (s b : Bool) (o : Operator) (x y : ℤ) →
    After (short_circuits s o x) (apply_binary_known b o x y)
unfolding apply_binary_known
left_decides s b o x y z e = grind arith

right_decides : (s b : Bool) (o : Operator) (x y : ℤ) →
    After (short_circuits s o y) (apply_binary_known b o x y)
unfolding apply_binary_known
right_decides s b o x y z e = grind arith

left_back : (s b : Bool) (o : Operator) (x y : ℤ) →
    After (apply_binary_known b o x y) (short_circuits s o x)
unfolding apply_binary_known
left_back s b o x y z e = grind arith

right_back : (s b : Bool) (o : Operator) (x y : ℤ) →
    After (apply_binary_known b o x y) (short_circuits s o y)
unfolding apply_binary_known
right_back s b o x y z e = grind arith

-- Two operands that decide give the same value.
two_decide : (s : Bool) (o : Operator) (x y : ℤ) →
    After (short_circuits s o x) (short_circuits s o y)
two_decide s o x y z e = grind arith

-- 2. Expressions.

combine_after : (s b c : Bool) (o : Operator) (x y v w : Option ℤ) → After x v → After y w → After (apply_binary s b o x y) (apply_binary s c o v w)
combine_after s b c o x y v w h k z e =
    grind (arith, operate_after, left_decides, right_decides, left_back, right_back, two_decide)

-- 3. Amounts.

-- The amount stays, or becomes unknown.
abbrev Lasts : Amount → Amount → Type 0
Lasts a b = (a ≡ Anything) ⊎ ((b ≡ a) ⊎ (b ≡ Anything))

after_lasts : (least : Bool) (x y : Option ℤ) → After x y → Lasts (amount_from least x) (amount_from least y)
after_lasts least x y h = grind arith

counted_after : (o : Operator) (a b d e : Amount) → Lasts a b → Lasts d e → After (counted o a d) (counted o b e)
counted_after o a b d e h k z f = grind arith

alter_lasts : (b c : Bool) (o : Operator) (x y : Amount) → Lasts x y → Lasts (unary_amount b o x) (unary_amount c o y)
alter_lasts b c o x y h = grind (arith, after_lasts, change_after, counted_after)

combine_lasts : (s b c : Bool) (o : Operator) (x y v w : Amount) → Lasts x v → Lasts y w → Lasts (binary_amount s b o x y) (binary_amount s c o v w)
combine_lasts s b c o x y v w h k = grind (arith, after_lasts, combine_after, counted_after)

text_after : (b c : Bool) (text : List ℕ) → After (text_value b text) (text_value c text)
text_after b c text z e = grind arith

end_lasts : (b c : Bool) (x y : Option (List ℕ)) → ((v : List ℕ) → x ≡ Some v → y ≡ Some v) → Lasts (end_value b x) (end_value c y)
end_lasts b c x y h = grind (arith, after_lasts, text_after)

module _ (t u : List Argument) (more : ExtendsTable t u) where
  ends_more : (n v : List ℕ) → ResolvesTo t n v → ResolvesTo u n v
  ends_more n v (at_text _ _ d i) = at_text n v (grind arith) i
  ends_more n v (by_name _ m _ d i e) = by_name n m v (grind arith) i (ends_more m v e)

  end_more : (n v : List ℕ) → resolve t n ≡ Some v → resolve u n ≡ Some v
  end_more n v e = end_found u n v (ends_more n v (end_is t n v e))

  entry_lasts : (b c : Bool) (n : List ℕ) (value : Option (List ℕ)) → Lasts (defined_name_value b (resolve t n) value) (defined_name_value c (resolve u n) value)
  entry_lasts b c n None = inr (inl refl)
  entry_lasts b c n (Some v) = end_lasts b c (resolve t n) (resolve u n) (λ w f. end_more n w f)

  name_by : (b c : Bool) (n : List ℕ) (o : Option Entry) → entry_in t n ≡ o → Lasts (name_value_by b (resolve t n) o) (name_value_by c (resolve u n) (entry_in u n))
  name_by b c n None f = inl refl
  name_by b c n (Some x) f = subst (λ (d : Option Entry). Lasts (name_value_by b (resolve t n) (Some x)) (name_value_by c (resolve u n) d)) (sym (more n x f)) (entry_lasts b c n x.value)

  name_lasts : (b c : Bool) (n : List ℕ) → Lasts (name_value t b n) (name_value u c n)
  unfolding name_value
  name_lasts b c n = name_by b c n (entry_in t n) refl

  defined_by : (n : List ℕ) (o : Option Entry) → entry_in t n ≡ o → After (defined_value_by o) (defined_value_by (entry_in u n))
  defined_by n o f z e = grind arith

  defined_after : (n : List ℕ) → After (defined_value t n) (defined_value u n)
  unfolding defined_value
  defined_after n = defined_by n (entry_in t n) refl

  number_lasts : (s b c : Bool) (e : Expression) → Lasts (number_of t s b e) (number_of u s c e)
  number_lasts s b c (unary o a) = alter_lasts b c o (number_of t s b a) (number_of u s c a) (number_lasts s b c a)
  number_lasts s b c (binary o a d) =
      combine_lasts s b c o (number_of t s b a) (number_of t s b d) (number_of u s c a) (number_of u s c d) (number_lasts s b c a) (number_lasts s b c d)
  number_lasts s b c (parens a) = number_lasts s b c a
  number_lasts s b c e = grind (arith, name_lasts, after_lasts, defined_after)

  -- The value of an expression stays, or is unknown.
  pub value_after : (s : Bool) (e : Expression) → value_of t s e ≢ Anything → (value_of u s e ≡ value_of t s e) ⊎ (value_of u s e ≡ Anything)
  value_after s e h = grind (arith, number_lasts)

  cond_by : (a b : Amount) → Lasts a b → truth_of a ≢ Unknown → (truth_of b ≡ truth_of a) ⊎ (truth_of b ≡ Unknown)
  cond_by a b h n = grind arith

  -- A condition stays, or is unknown.
  pub cond_after : (e : Expression) (r : Rules) → tree_cond e t r ≢ Unknown → (tree_cond e u r ≡ tree_cond e t r) ⊎ (tree_cond e u r ≡ Unknown)
  cond_after e r n = grind (arith, cond_by, number_lasts)
