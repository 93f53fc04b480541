-- FaultLemmas: a fault of the arguments is one of the call, and its number is one of C's int.
use Rattle.std.proofs.Common.{◌≡◌, ◌∙◌, refl, ap, ℕ, ℤ, List, w32, to_z, of_z}
use Rattle.ud_model.specs.answer.CommandLine.{parsed_args}
use Rattle.ud_args.specs.ParsedSettings.{IsUsageOf}
use Rattle.ud_args.specs.declared.usage.Usage.{Usage}
use Rattle.ud_args.specs.declared.usage.Usage.TheVariants as usage
use Rattle.unifdef_c.specs.CallFaults.{IsArgsFault, fault_of, code}
use Rattle.unifdef_c.specs.declared.fault.CallFault.{CallFault}
use Rattle.unifdef_c.specs.declared.fault.CallFault.TheVariants.{BadWords, OutOfMemory}

pub usage_refused : (args : List (List ℕ)) (u : Usage) → IsUsageOf (parsed_args args) u →
    IsArgsFault args (fault_of u)
usage_refused args (usage.UnknownOption letter) w = (_, w)
usage_refused args (usage.MissingArgument letter) w = (_, w)
usage_refused args (usage.BadSymbol word) w = (_, w)
usage_refused args (usage.BadMode word) w = (_, w)
usage_refused args usage.TooManyFiles w = (_, w)
usage_refused args usage.OutOfMemory w = tt

code_fits : (f : CallFault) → to_z w32 (of_z w32 (code f)) ≡ code f
code_fits BadWords = refl
code_fits OutOfMemory = refl

-- A call returns the number of its fault.
pub same_code : (f : CallFault) (n : ℤ) → n ≡ code f → to_z w32 (of_z w32 n) ≡ code f
same_code f n e = ap (λ (z : ℤ). to_z w32 (of_z w32 z)) e ∙ code_fits f
