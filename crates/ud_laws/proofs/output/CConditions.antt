-- A decided condition has the truth that C gives it.
use Rattle.std.proofs.Common.{◌≡◌, ℕ, List, Bool, true, false, Option, Some, None, is_some, ap}
use Rattle.std.proofs.Common.{arith, rules}
use Rattle.ud_model.specs.text.Scans.{Reading}
use Rattle.ud_model.specs.conditions.Table.{Argument, Entry, entry_in}
use Rattle.ud_model.specs.conditions.Expressions.{is_defined, unary}
use Rattle.ud_model.specs.conditions.Parsing.{expression_of}
use Rattle.ud_model.specs.conditions.Values.{truth, is_zero, apply_unary_known, amount_from, unary_amount, defined_value, defined_value_by, value_of}
use Rattle.ud_model.specs.conditions.Conditions.{Rules, ifdef_by, negate, expression_cond}
use Rattle.ud_model.specs.laws.CValues.{Number, number}
use Rattle.ud_laws.specs.output.CSelection.{HasTruth, MayBe}
use Rattle.ud_model.specs.laws.WrittenConditions.{condition_in}
use Rattle.ud_model.specs.sections.Tree.{Item, if_line, elif_line}
use Rattle.ud_model.specs.sections.Items.{Options, item_of}
use Rattle.ud_model.specs.declared.amount.Amount.TheVariants.{Exactly}
use Rattle.ud_model.specs.declared.cond.Cond.{Cond}
use Rattle.ud_model.specs.declared.cond.Cond.TheVariants.{Yes, No, Unknown}
use Rattle.ud_model.specs.declared.operator.Operator.TheVariants.{Not}
use Rattle.ud_model.proofs.conditions.DecidedConditions.{yes_is_true, no_is_false}
use Rattle.ud_model.proofs.conditions.KnownStays.{known_stays}

-- The truth is that of a condition that is decided so.
abbrev pub Fits : Cond → Bool → Type 0
Fits Yes b = b ≡ true
Fits No b = b ≡ false
Fits Unknown b = Unit {0}

module _ (table : List Argument) where
  -- The case of `#if` and `#elif`.
  expression_fits : (rules : Rules) (after : List ℕ) (b : Bool) → MayBe table (expression_of after) b → Fits (expression_cond after table rules) b
  unfolding expression_cond
  expression_fits rules after b h = grind (arith, yes_is_true, no_is_false)

  -- The case of `defined` and a listed name.
  defined_is : (n : List ℕ) (x : Entry) → entry_in table n ≡ Some x → value_of table false (is_defined n false) ≡ Exactly (truth (is_some x.value))
  unfolding defined_value
  defined_is n x e = ap (λ (o : Option Entry). amount_from false (defined_value_by o)) e

  undefined_is : (n : List ℕ) (x : Entry) → entry_in table n ≡ Some x → value_of table false (unary Not (is_defined n false)) ≡ Exactly (truth (is_zero (truth (is_some x.value))))
  unfolding defined_value apply_unary_known
  undefined_is n x e = ap (λ (o : Option Entry). unary_amount false Not (amount_from false (defined_value_by o))) e

  value_fits : (v : Option (List ℕ)) (i b : Bool) (c : Number) → number c ≡ truth (is_some v) → HasTruth b c → Fits (ifdef_by (Some (record { value = v; ignoring = i }))).cond b
  value_fits v i b c e h = grind arith

  negated_fits : (v : Option (List ℕ)) (i b : Bool) (c : Number) → number c ≡ truth (is_zero (truth (is_some v))) → HasTruth b c →
      Fits (negate (ifdef_by (Some (record { value = v; ignoring = i }))).cond) b
  negated_fits v i b c e h = grind arith

  entry_fits : (n : List ℕ) (b : Bool) → MayBe table (Some (is_defined n false)) b → (o : Option Entry) → entry_in table n ≡ o → Fits (ifdef_by o).cond b
  entry_fits n b h None e = tt
  entry_fits n b h (Some x) e =
      value_fits x.value x.ignoring b h.0 (known_stays table false (is_defined n false) (truth (is_some x.value)) h.0 (defined_is n x e) h.1) h.2

  no_entry_fits : (n : List ℕ) (b : Bool) → MayBe table (Some (unary Not (is_defined n false))) b → (o : Option Entry) → entry_in table n ≡ o → Fits (negate (ifdef_by o).cond) b
  no_entry_fits n b h None e = tt
  no_entry_fits n b h (Some x) e = negated_fits x.value x.ignoring b h.0
      (known_stays table false (unary Not (is_defined n false)) (truth (is_zero (truth (is_some x.value)))) h.0 (undefined_is n x e) h.1) h.2

-- The opener of an item is decided so.
abbrev pub ItemFits : Item Reading → Bool → Type 0
ItemFits (if_line p) b = Fits p.cond b
ItemFits (elif_line p) b = Fits p.cond b
ItemFits _ _ = Unit {0}

-- A decision on a condition that ends on its line has each truth that C may give it.
pub item_fits : (o : Options) (r : Reading) (b : Bool) → r.scan.joins_after ≡ false → MayBe o.table (condition_in r) b → ItemFits (item_of o r) b
item_fits o r b j h = grind (arith, expression_fits, entry_fits, no_entry_fits)
