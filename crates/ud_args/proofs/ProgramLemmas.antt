-- Programs: their tables of letters, and the words of unifdef(1).
use Rattle.std.proofs.Common.{◌≡◌, ◌∙◌, ℕ, suc, List, [], ◌∷◌, ◌++◌, map, Bool, true, false, Option, Some, None, if◌then◌else◌, bytes_eq, codes, refl, ap, arith, add-one}
use Rattle.ud_model.specs.answer.CommandLine.{ParsedArg, has_letter, option_letters, is_operand, letters_give, given_next, parsed_args, parsed_from, parsed_after_option}
use Rattle.ud_model.specs.answer.CommandLine as args
use Rattle.ud_model.specs.aids.LettersThen.{parsed_letters}
use Rattle.ud_model.proofs.answer.WordLemmas as words
use Rattle.ud_args.specs.CommandLines.{Parsed, operand, letters_then, operands_from, parsed_next, parsed_words, as_arg}
use Rattle.ud_args.specs.declared.programs.Program.TheVariants.{Unifdef}

operands_as : (n : ℕ) (ws : List (List ℕ)) → map as_arg (operands_from n ws) ≡ args.operands_from n ws
operands_as n [] = refl
operands_as n (w ∷ ws) = rw add-one (ap (λ gs. args.operand n w ∷ gs) (operands_as (suc n) ws))

letters_as : (n : ℕ) (cs : List ℕ) (next : ℕ → List Parsed) (rest : List Parsed) →
    map as_arg (letters_then Unifdef n cs next rest) ≡ parsed_letters n cs (λ c. map as_arg (next c)) (map as_arg rest)
letters_as n [] next rest = refl
letters_as n (c ∷ cs) next rest = grind (arith, letters_as n cs next rest)

next_as : (waits : Option ℕ) (n : ℕ) (ws : List (List ℕ)) → map as_arg (parsed_next Unifdef waits false n ws) ≡ given_next waits n ws
next_as None n [] = refl
next_as (Some c) n [] = refl
next_as (Some c) n (w ∷ ws) = rw add-one (ap (λ gs. args.option c (suc n) w ∷ gs) (next_as None (suc n) ws))
next_as None n (w ∷ ws) = rw add-one (go (bytes_eq w (codes "--")) (is_operand w) (λ c. next_as (Some c) (suc n) ws) (next_as None (suc n) ws))
  where
    go : (b c : Bool) → ((d : ℕ) → map as_arg (parsed_next Unifdef (Some d) false (suc n) ws) ≡ parsed_after_option d (suc n) ws) →
        map as_arg (parsed_next Unifdef None false (suc n) ws) ≡ parsed_from (suc n) ws →
        map as_arg (if b then operands_from (suc n) ws else if c then operand n w ∷ operands_from (suc n) ws
        else letters_then Unifdef (suc n) (option_letters w) (λ d. parsed_next Unifdef (Some d) false (suc n) ws) (parsed_next Unifdef None false (suc n) ws)) ≡
        (if b then args.operands_from (suc n) ws else if c then args.operands_from n (w ∷ ws)
        else (letters_give (suc n) (option_letters w)).given ++ given_next (letters_give (suc n) (option_letters w)).waits (suc n) ws)
    go true c waited more = operands_as (suc n) ws
    go false true waited more = ap (λ gs. args.operand n w ∷ gs) (operands_as (suc n) ws)
    go false false waited more =
        letters_as (suc n) (option_letters w) (λ d. parsed_next Unifdef (Some d) false (suc n) ws) (parsed_next Unifdef None false (suc n) ws)
        ∙ (λ i. parsed_letters (suc n) (option_letters w) (λ d. waited d i) (more i))
        ∙ words.letters_then (suc n) (option_letters w) ws

-- the words of unifdef(1) give what its definition says
pub parsed_words-unifdef : (ws : List (List ℕ)) → map as_arg (parsed_words Unifdef ws) ≡ parsed_args ws
parsed_words-unifdef ws = next_as None 0 ws
