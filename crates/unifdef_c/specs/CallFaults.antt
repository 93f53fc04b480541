-- CallFaults: why a call from C does nothing, and the number that it returns then.
use Rattle.std.specs.Prelude.{◌≡◌, ◌⊎◌, ℕ, ℤ, negsuc, List, Some}
use Rattle.ud_model.specs.answer.CommandLine.{UsageFault, usage_fault}
use Rattle.ud_args.specs.declared.usage.Usage.{Usage}
use Rattle.ud_args.specs.declared.usage.Usage.TheVariants as usage
use Rattle.unifdef_c.specs.Words.{words_of, AreUtf8}
use Rattle.unifdef_c.specs.declared.fault.CallFault.{CallFault}
use Rattle.unifdef_c.specs.declared.fault.CallFault.TheVariants.{BadWords, OutOfMemory}

-- `code fault`: the number of `fault` for C.
abbrev pub code : CallFault → ℤ
code BadWords = negsuc 0
code OutOfMemory = negsuc 1

-- `fault_of u`: the fault of a call whose arguments have the fault `u`.
abbrev pub fault_of : Usage → CallFault
fault_of usage.OutOfMemory = OutOfMemory
fault_of u = BadWords

-- `IsWordsFault block fault`: `fault` is why the words of `block` aren't accepted as arguments.
-- Memory for a word may be refused, whatever the words.
abbrev pub IsWordsFault : List ℕ → CallFault → Type 0
IsWordsFault block BadWords = ¬ (AreUtf8 (words_of block))
IsWordsFault block OutOfMemory = Unit {0}

-- `IsArgsFault args fault`: `fault` is why the call doesn't do what `args` say. Memory may be
-- refused, whatever the arguments.
abbrev pub IsArgsFault : List (List ℕ) → CallFault → Type 0
IsArgsFault args BadWords = (f : UsageFault) × (usage_fault args ≡ Some f)
IsArgsFault args OutOfMemory = Unit {0}

-- `IsCallFault block fault`: `fault` is why the call doesn't do what the words of `block` say.
abbrev pub IsCallFault : List ℕ → CallFault → Type 0
IsCallFault block fault = IsWordsFault block fault ⊎ IsArgsFault (words_of block) fault
