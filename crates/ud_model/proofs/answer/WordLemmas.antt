-- Arguments: each argument is parsed by itself, in order.
use Rattle.std.proofs.Common.{◌≡◌, ℕ, suc, List, [], ◌∷◌, ◌++◌, false, Option, Some, None, bytes_eq, codes, refl, arith}
use Rattle.ud_model.specs.answer.CommandLine.{ParsedArg, UsageFault, fault_or, option_letters}
use Rattle.ud_model.specs.answer.CommandLine.{parsed_from, parsed_after_option, letters_give}
use Rattle.ud_model.specs.answer.CommandLine.{given_next}
use Rattle.ud_model.specs.aids.LettersThen.{parsed_letters}

-- If neither of two faults is there, there is none.
pub both_none : (a b : Option UsageFault) → fault_or a b ≡ None → (a ≡ None) × (b ≡ None)
both_none a b h = grind arith

-- The rest after an argument: this, if an option waits, else that.
abbrev waited : Option ℕ → (ℕ → List ParsedArg) → List ParsedArg → List ParsedArg
waited None next rest = rest
waited (Some c) next rest = next c

-- The letters give the same options before other arguments as by themselves, and then those of the
-- others.
letters_split : (number : ℕ) (cs : List ℕ) (next : ℕ → List ParsedArg) (rest : List ParsedArg) →
    parsed_letters number cs next rest ≡ (letters_give number cs).given ++ waited (letters_give number cs).waits next rest
letters_split number [] next rest = refl
letters_split number (c ∷ cs) next rest = grind (arith, letters_split number cs next rest)

-- An argument with letters gives their options, and then the arguments after it.
pub options_given : (n : ℕ) (w : List ℕ) (args : List (List ℕ)) (c : ℕ) (cs : List ℕ) → bytes_eq w (codes "--") ≡ false → option_letters w ≡ c ∷ cs →
    parsed_from n (w ∷ args) ≡ (letters_give (suc n) (c ∷ cs)).given ++ given_next (letters_give (suc n) (c ∷ cs)).waits (suc n) args
options_given n w args c cs e l = rw (e, l) refl

-- The options of letters, and then those of further arguments.
pub letters_then : (n : ℕ) (cs : List ℕ) (args : List (List ℕ)) →
    parsed_letters n cs (λ d. parsed_after_option d n args) (parsed_from n args) ≡ (letters_give n cs).given ++ given_next (letters_give n cs).waits n args
letters_then n cs args = grind (arith, letters_split)
