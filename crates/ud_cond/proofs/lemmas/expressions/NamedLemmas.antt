-- The value of a name as an operand, by its entry in the table.
use Rattle.std.proofs.Common.{◌≡◌, ℕ, List, Bool, true, false, ◌&&◌, Option, Some, None, is_some, ℤ, pos, IfSome, sym, ◌∙◌, ap, ap₂, arith}
use Rattle.std.proofs.lemmas.Bool.{false≢true}
use Rattle.ud_model.specs.text.Bytes.{is_identifier}
use Rattle.ud_model.specs.conditions.Table.{Argument, Entry, entry_in}
use Rattle.ud_model.specs.conditions.Symbols.{defined_text, at_text, resolve}
use Rattle.ud_model.specs.conditions.Values.{amount_from, name_value, name_value_by, name_has_u, end_value, end_has_u}
use Rattle.ud_model.specs.conditions.Conditions.{undefined_by}
use Rattle.ud_model.proofs.conditions.SymbolLemmas.{end_found}
use Rattle.ud_model.specs.declared.amount.Amount.{Amount}
use Rattle.ud_model.specs.declared.amount.Amount.TheVariants.{Anything, Exactly}
use Rattle.ud_cond.specs.declared.expressions.values.Value.{Value}
use Rattle.ud_cond.specs.expressions.Digits.{IsOneDigit}
use Rattle.ud_cond.specs.expressions.Evaluation.{name_value_of, defined_name_value_of}

-- a name that isn't defined resolves to nothing
end-none : (t : List Argument) (n : List ℕ) → defined_text t n ≡ None → resolve t n ≡ None
unfolding resolve
end-none t n e = grind (arith, e)

-- a name resolves to the text that defines it, if that is no identifier
pub end-here : (t : List Argument) (n v : List ℕ) → defined_text t n ≡ Some v → is_identifier v ≡ false → resolve t n ≡ Some v
end-here t n v e f = end_found t n v (at_text n v e f)

-- the value of a name by the text to which it resolves and its entry
abbrev worth_by : Bool → Bool → Option (List ℕ) → Option Entry → Value
worth_by u arguments end e = record { number = name_value_by u end e; unsigned = end_has_u end; listed = is_some e; calls_undefined = arguments && undefined_by e }

by_entry : (t : List Argument) (u : Bool) (n : List ℕ) (arguments : Bool) (end : Option (List ℕ)) (e : Option Entry) →
    resolve t n ≡ end → entry_in t n ≡ e → name_value_of t u n arguments ≡ worth_by u arguments end e
unfolding name_value name_has_u
by_entry t u n arguments end e f h = grind arith

-- the value of a name that isn't listed
pub worth-unlisted : (t : List Argument) (u : Bool) (n : List ℕ) (arguments : Bool) → entry_in t n ≡ None →
    record { number = Anything; unsigned = false; listed = false; calls_undefined = false } ≡ name_value_of t u n arguments
worth-unlisted t u n arguments e = grind (arith, by_entry, end-none)

-- the value of a name that is undefined
pub worth-undefined : (t : List Argument) (u : Bool) (n : List ℕ) (arguments ignoring : Bool) → entry_in t n ≡ Some (record { value = None; ignoring = ignoring }) →
    record { number = Exactly (pos 0); unsigned = false; listed = true; calls_undefined = arguments } ≡ name_value_of t u n arguments
worth-undefined t u n arguments ignoring e = grind (arith, by_entry, end-none)

defined_by_entry : (t : List Argument) (u : Bool) (n : List ℕ) (arguments ignoring : Bool) (v : List ℕ) →
    worth_by u arguments (resolve t n) (Some (record { value = Some v; ignoring = ignoring })) ≡
    defined_name_value_of t u n
unfolding name_has_u
defined_by_entry t u n arguments ignoring v = grind arith

-- the value of a name that is defined
pub worth-defined : (t : List Argument) (u : Bool) (n : List ℕ) (arguments ignoring : Bool) (v : List ℕ) →
    entry_in t n ≡ Some (record { value = Some v; ignoring = ignoring }) →
    defined_name_value_of t u n ≡ name_value_of t u n arguments
worth-defined t u n arguments ignoring v e = grind (arith, by_entry, defined_by_entry)

digit_end : (u : Bool) (text : List ℕ) (z : ℤ) → IsOneDigit text z → end_value u (Some text) ≡ Exactly z
digit_end u text z d = grind arith

digit_plain : (text : List ℕ) (z : ℤ) → IsOneDigit text z → end_has_u (Some text) ≡ false
digit_plain text z d = grind arith

-- the value of a name that is defined as one digit
pub worth-digit : (t : List Argument) (u : Bool) (n text : List ℕ) (o : Option ℤ) → is_some o ≡ true → defined_text t n ≡ Some text → IfSome o (IsOneDigit text) →
    record { number = amount_from false o; unsigned = false; listed = true; calls_undefined = false } ≡ defined_name_value_of t u n
unfolding name_has_u
worth-digit t u n text None some d is = absurd (false≢true some)
worth-digit t u n text (Some z) some d is =
    let r : resolve t n ≡ Some text = end-here t n text d is.nameless in
    ap₂ (λ (a : Amount) (b : Bool). record { number = a; unsigned = b; listed = true; calls_undefined = false })
    (sym (ap (end_value u) r ∙ digit_end u text z is)) (sym (ap end_has_u r ∙ digit_plain text z is))
