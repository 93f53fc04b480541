-- The option `-D` with the least value of a symbol, in terms of unifdef(1).
use Rattle.std.proofs.Common.{◌≡◌, if◌then◌else◌, ℕ, List, [], ◌∷◌, ◌++◌, drop, Bool, true, false, Option, Some, None, option_map, is_some, IsSome, ◌==◌, refl, sym, ◌∙◌, ap, subst, arith}
use Rattle.std.proofs.lemmas.Bool.{eqb-true}
use Rattle.ud_model.specs.text.Bytes.{is_word_byte, leading_word, skip_word}
use Rattle.ud_model.specs.answer.SymbolArguments.{name_before_equals, value_after_equals, is_name}
use Rattle.ud_model.specs.conditions.Table.{Argument}
use Rattle.ud_model.specs.answer.CommandLine.{ParsedArg, option, has_letter, parse_define, parse_symbol, first_fault, operand_in, argument_in}
use Rattle.ud_args.specs.SymbolStorage.{StoresSymbol}
use Rattle.ud_args.specs.ParsedSettings.{SetsSymbol}
use Rattle.ud_args.specs.CommandLines as words
use Rattle.ud_args.specs.TreeWords.{symbol_of}
use Rattle.ud_args.specs.LeastSymbols.{is_least, least_definition, definition_for, least_argument, IsLeastOf}
use Rattle.ud_args.specs.declared.least.LeastSymbol.{LeastSymbol}
use Rattle.ud_args.proofs.ParsedArgLemmas.{first_fault-append, operand_in-none}

-- a word byte is no `=`
no_equals : (b : ℕ) → is_word_byte b ≡ true → (b == 61) ≡ false
no_equals b h = grind arith

-- the first `=` after a word ends the name
name_word : (a r : List ℕ) → name_before_equals (leading_word a ++ 61 ∷ r) ≡ leading_word a
name_word [] r = refl
name_word (b ∷ a) r = grind (arith, no_equals, name_word a r)

value_word : (a r : List ℕ) → value_after_equals (leading_word a ++ 61 ∷ r) ≡ Some r
value_word [] r = refl
value_word (b ∷ a) r = grind (arith, no_equals, value_word a r)

least_is : (c : ℕ) (a : List ℕ) → is_least c a ≡ true → (c ≡ 68) × (is_name (leading_word a) ≡ true)
least_is c a h = grind (arith, eqb-true)

least_parsed : (a : List ℕ) (l : LeastSymbol) → is_name (leading_word a) ≡ true → l.name.now ≡ leading_word a → l.number.now ≡ drop 2 (skip_word a) →
    parse_define false (least_definition a) ≡ Some (least_argument l)
least_parsed a l h n k = grind (arith, name_word a (255 ∷ drop 2 (skip_word a)), value_word a (255 ∷ drop 2 (skip_word a)))

least_sets : (c : ℕ) (a : List ℕ) (l : LeastSymbol) → IsLeastOf c a l → parse_symbol c (definition_for c a) ≡ Some (least_argument l)
least_sets c a l h = let p = least_is c a h.is in
    ap (λ (b : List ℕ). parse_symbol c b) (ap (λ (t : Bool). if t then least_definition a else a) h.is)
    ∙ ap (λ (d : ℕ). parse_symbol d (least_definition a)) p.0 ∙ least_parsed a l p.1 h.name h.number

-- the option defines the symbol, with a byte 255 before the number
pub sets_least : (c n : ℕ) (a : List ℕ) (l : LeastSymbol) → IsLeastOf c a l → SetsSymbol (option c n (definition_for c a)) (least_argument l)
sets_least c n a l h = record {
  letter = c;
  word = n;
  argument = definition_for c a;
  is = refl;
  other = ap (λ (d : ℕ). has_letter (120 ∷ []) d) (least_is c a h.is).0;
  sets = least_sets c a l h;
}

-- a symbol is stored if it comes after options without a fault
pub stores : (gs : List ParsedArg) (g : ParsedArg) (s : Argument) (more : List ParsedArg) → first_fault gs ≡ None → is_some (operand_in gs) ≡ false → SetsSymbol g s →
    StoresSymbol (gs ++ g ∷ more)
stores gs g s more h k p =
    let right : first_fault (option p.letter p.word p.argument ∷ []) ≡ None = rw (p.other, p.sets) refl in
    let sets : IsSome (argument_in (option p.letter p.word p.argument)) = rw p.sets refl in
    record {
      before = gs;
      symbol = g;
      more = more;
      is = refl;
      right = first_fault-append gs (g ∷ []) h (operand_in-none (operand_in gs) k) ∙ ap (λ (x : ParsedArg). first_fault (x ∷ [])) p.is ∙ right;
      sets = subst (λ (x : ParsedArg). IsSome (argument_in x)) (sym p.is) sets;
    }

-- its name is the one of the argument
pub least_name : (c n : ℕ) (a : List ℕ) (l : LeastSymbol) → IsLeastOf c a l → Some l.name.now ≡ symbol_of (words.option c n a)
least_name c n a l h = ap (λ (s : Option Argument). option_map (λ t. t.name) s) (sym (least_sets c a l h))
