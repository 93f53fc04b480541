-- OperandLemmas: an operand has the bytes of the argument at its index.
use Rattle.std.proofs.Common.{◌≡◌, ◌++◌, ◌+◌, ℕ, suc, List, [], ◌∷◌, Option, Some, None, refl, sym, subst, arith}
use Rattle.std.specs.List.{slice_get}
use Rattle.ud_model.specs.answer.CommandLine.{ParsedArg, Operand, operand_in, parsed_args, given_next, letters_give, operands_from, option_letters, operand_of}
use Rattle.std.proofs.lemmas.Grind.{common_steps}

-- the letters of an argument give no operand
past_letters : (n : ℕ) (cs : List ℕ) (gs : List ParsedArg) → operand_in ((letters_give n cs).given ++ gs) ≡ operand_in gs
past_letters n [] gs = refl
past_letters n (c ∷ cs) gs = grind (arith, past_letters n cs gs)

-- `IsThere args n o`: the operand has the bytes of one of the arguments, which are counted from `n`
abbrev IsThere : List (List ℕ) → ℕ → Operand → Type 0
IsThere args n o = (k : ℕ) × (o.index ≡ n + k) × (slice_get args k ≡ Some o.name)

behind : (w : List ℕ) (ws : List (List ℕ)) (n : ℕ) (o : Operand) → IsThere ws (suc n) o → IsThere (w ∷ ws) n o
behind w ws n o h = let e = h.1 in (suc h.0, omega (arith, e), h.2)

first : (n : ℕ) (args : List (List ℕ)) (o : Operand) → operand_in (operands_from n args) ≡ Some o → IsThere args n o
first n [] o e = cc
first n (w ∷ ws) o e = let i : o.index ≡ n = cc in (0, omega (arith, i), cc)

there : (waits : Option ℕ) (n : ℕ) (args : List (List ℕ)) (o : Operand) → operand_in (given_next waits n args) ≡ Some o → IsThere args n o
there None n [] o e = cc
there (Some c) n [] o e = cc
there (Some c) n (w ∷ ws) o e = behind w ws n o (there None (suc n) ws o e)
there None n (w ∷ ws) o e = grind (arith, common_steps, behind, first, past_letters, there (letters_give (suc n) (option_letters w)).waits (suc n) ws o)

-- The operand of a command line has the bytes of the argument at its index.
pub operand_there : (args : List (List ℕ)) (o : Operand) → operand_in (parsed_args args) ≡ Some o → slice_get args o.index ≡ Some o.name
operand_there args o e = let h = there None 0 args o e in
    let at = h.1 in
    let same : o.index ≡ h.0 = omega (arith, at) in
    subst (λ k. slice_get args k ≡ Some o.name) (sym same) h.2

-- The operand at the index that a plan has.
pub named : (args : List (List ℕ)) (n : ℕ) → Some n ≡ operand_of args → (o : Operand) × (operand_in (parsed_args args) ≡ Some o) × (o.index ≡ n) × (slice_get args n ≡ Some o.name)
named args n e = grind (arith, operand_there)
