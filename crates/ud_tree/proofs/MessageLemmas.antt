-- The messages of errors and of the output's faults.
use Rattle.std.proofs.Common.{◌≡◌, ◌⊎◌, inl, inr, ℕ, ◌+◌, List, [], ◌++◌, length, Bool, true, false, cond, refl, sym, ap, subst, append-nil, codes}
use Rattle.std.specs.List.{flat_map}
use Rattle.ud_replace.specs.declared.error.ReplaceError.{ReplaceError}
use Rattle.ud_replace.specs.declared.error.ReplaceError.TheVariants.{ReadOnly, Write, NotRenamed}
use Rattle.ud_tree.specs.Reports.{ReportState, TellsOf, ReportsOf}
use Rattle.ud_tree.specs.Messages.{IsFailureOf, IsMessageOf, list_message, write_message, output_messages}
use Rattle.ud_tree.proofs.ReportLemmas.{reports_tells}

-- The message of an error of this kind was written.
pub error_is : {a b : ReportState} {e : ReplaceError} (name : List ℕ) (kind : ReplaceError) → e ≡ kind → TellsOf (IsMessageOf name kind) a b → TellsOf (IsMessageOf name e) a b
error_is {a = a} {b = b} name kind is h = subst (λ (k : ReplaceError). TellsOf (IsMessageOf name k) a b) (sym is) h

-- The message of a failed write was written, of either kind.
pub unwritten_is : {a b : ReportState} {e : ReplaceError} (name : List ℕ) → (e ≡ ReadOnly) ⊎ (e ≡ Write) →
    ReportsOf (IsFailureOf name (codes "Cannot be written")) a b → TellsOf (IsMessageOf name e) a b
unwritten_is name (inl is) h = error_is name ReadOnly is (reports_tells h)
unwritten_is name (inr is) h = error_is name Write is (reports_tells h)

-- The message of a new file that wasn't renamed was written.
pub unrenamed_is : {a b : ReportState} (name : List ℕ) →
    ReportsOf (IsFailureOf name (codes "Cannot be replaced; -w writes into it")) a b → TellsOf (IsMessageOf name NotRenamed) a b
unrenamed_is name h = record { message = h.message; is_of = inl h.is_of; tells = h.reports.tells }

-- The messages of the output's faults, one after another.
pub output_told : (p q : Bool) → flat_map (λ m. m) (output_messages p q) ≡ cond p list_message [] ++ cond q write_message []
output_told true true = ap (λ (x : List ℕ). list_message ++ x) (append-nil write_message)
output_told true false = refl
output_told false true = append-nil write_message
output_told false false = refl

-- The number of these messages.
pub output_count : (p q : Bool) → length (output_messages p q) ≡ cond p 1 0 + cond q 1 0
output_count true true = refl
output_count true false = refl
output_count false true = refl
output_count false false = refl
