-- Each symbol of a command line has a row in the table that represents its options.
use Rattle.std.proofs.Common.{◌≡◌, ◌∙◌, ℕ, List, [], ◌∷◌, ◌++◌, Bool, true, false, true≢false, ◌||◌, Option, Some, None, is_some, option_map, if◌then◌else◌, bytes_eq, refl, sym, ap, subst, arith}
use Rattle.std.proofs.lemmas.List.Folds.{list_any-append}
use Rattle.std.proofs.lemmas.Slice.Eq.{bytes_eq-Decides}
use Rattle.std.specs.List.{cons_option, filter_map}
use Rattle.ud_model.specs.answer.CommandLine.{argument_in, parse_symbol, takes_argument}
use Rattle.ud_model.specs.conditions.Conditions.{is_listed}
use Rattle.ud_model.specs.conditions.Table.{Argument, Entry, entry_from}
use Rattle.ud_cond.specs.symbols.SymbolTable.{TableRepresents}
use Rattle.ud_args.specs.CommandLines.{Parsed, flag, option, operand, unknown, lacking, late}
use Rattle.ud_args.specs.LeastSymbols.{definition_for}
use Rattle.ud_args.specs.TreeWords.{has_name, is_unifdef_option, names_with, symbol_names, symbol_of, unifdef_arg, unifdef_args}
use Rattle.ud_args.proofs.TreeLemmas.{bytes_eq-turned}

-- A name is equal to itself.
pub bytes_eq-same : (n : List ℕ) → bytes_eq n n ≡ true
bytes_eq-same n = (bytes_eq-Decides n n).1 refl

-- An option that names a symbol is one of unifdef(1).
symbol_taken : (c : ℕ) (a : List ℕ) {s : Argument} → parse_symbol c a ≡ Some s → takes_argument c ≡ true
symbol_taken c a some = grind (arith, some)

-- The symbols of the options are those of unifdef(1).
arguments-taken : (g : Parsed) (gs : List Parsed) → filter_map argument_in (unifdef_args (g ∷ gs)) ≡ cons_option (argument_in (unifdef_arg g)) (filter_map argument_in (unifdef_args gs))
arguments-taken (flag c) gs = by (is_unifdef_option (flag c)) refl
  where
    by : (b : Bool) → is_unifdef_option (flag c) ≡ b → filter_map argument_in (unifdef_args (flag c ∷ gs)) ≡ filter_map argument_in (unifdef_args gs)
    by true is = rw is refl
    by false is = rw is refl
arguments-taken (option c n a) gs = by (parse_symbol c (definition_for c a)) refl (takes_argument c) refl
  where
    by : (s : Option Argument) → parse_symbol c (definition_for c a) ≡ s → (b : Bool) → takes_argument c ≡ b →
        filter_map argument_in (unifdef_args (option c n a ∷ gs)) ≡ cons_option (parse_symbol c (definition_for c a)) (filter_map argument_in (unifdef_args gs))
    by s some true is = rw is refl
    by None none false is = rw (is, none) refl
    by (Some s) some false is = absurd (true≢false (sym (symbol_taken c (definition_for c a) some) ∙ is))
arguments-taken (operand n w) gs = refl
arguments-taken (unknown c) gs = refl
arguments-taken (lacking c) gs = refl
arguments-taken (late n w) gs = refl

symbol_named : (g : Parsed) → symbol_of g ≡ option_map (λ s. s.name) (argument_in (unifdef_arg g))
symbol_named (flag c) = refl
symbol_named (option c n a) = refl
symbol_named (operand n w) = refl
symbol_named (unknown c) = refl
symbol_named (lacking c) = refl
symbol_named (late n w) = refl

-- An entry stays, or another one comes for it.
entry_stays : (xs : List Argument) (n : List ℕ) (e : Option Entry) → is_some e ≡ true → is_some (entry_from e xs n) ≡ true
entry_stays [] n e some = some
entry_stays (x ∷ xs) n e some = entry_stays xs n (if bytes_eq x.name n then Some x.entry else e) (by (bytes_eq x.name n))
  where
    by : (b : Bool) → is_some (if b then Some x.entry else e) ≡ true
    by true = refl
    by false = some

-- The names are those that were there, and the further ones.
has_name-with : (names more : List (List ℕ)) (n : List ℕ) → has_name (names_with names more) n ≡ (has_name names n || has_name more n)
has_name-with names [] n = grind (arith)
has_name-with names (m ∷ more) n = by (has_name names m) refl (bytes_eq n m) refl (λ ns. has_name-with ns more n)
  where
    by : (b : Bool) → has_name names m ≡ b → (s : Bool) → bytes_eq n m ≡ s → ((ns : List (List ℕ)) → has_name (names_with ns more) n ≡ (has_name ns n || has_name more n)) →
        has_name (names_with names (m ∷ more)) n ≡ (has_name names n || has_name (m ∷ more) n)
    by true is true same rest = let there = ap (has_name names) ((bytes_eq-Decides n m).0 same) ∙ is in rw is (rest names ∙ grind (arith, there))
    by true is false other rest = rw is (rest names ∙ grind (arith, other))
    by false is s same rest = rw is (rest (names ++ m ∷ []) ∙ grind (arith, list_any-append))

-- Each symbol of the options has an entry.
symbol_entry : (gs : List Parsed) (n : List ℕ) (e : Option Entry) → has_name (filter_map symbol_of gs) n ≡ true →
    is_some (entry_from e (filter_map argument_in (unifdef_args gs)) n) ≡ true
symbol_entry [] n e has = absurd (true≢false (sym has))
symbol_entry (g ∷ gs) n e has =
    subst (λ xs. is_some (entry_from e xs n) ≡ true) (sym (arguments-taken g gs)) (by (argument_in (unifdef_arg g)) refl (λ f. symbol_entry gs n f))
  where
    rest : List Argument
    rest = filter_map argument_in (unifdef_args gs)

    by : (a : Option Argument) → argument_in (unifdef_arg g) ≡ a → ((f : Option Entry) → has_name (filter_map symbol_of gs) n ≡ true → is_some (entry_from f rest n) ≡ true) →
        is_some (entry_from e (cons_option a rest) n) ≡ true
    by None none later = later e (grind (arith, has, symbol_named g, none))
    by (Some s) some later = named (bytes_eq s.name n) refl
      where
        named : (b : Bool) → bytes_eq s.name n ≡ b → is_some (entry_from (if b then Some s.entry else e) rest n) ≡ true
        named true is = entry_stays rest n (Some s.entry) refl
        named false is = later e (grind (arith, has, symbol_named g, some, is, bytes_eq-turned n s.name))

-- A table that represents the options has a row for each of their symbols.
pub symbols_listed : (rows : List Argument) (gs : List Parsed) (n : List ℕ) → TableRepresents rows (filter_map argument_in (unifdef_args gs)) →
    has_name (symbol_names gs) n ≡ true → is_listed rows n ≡ true
symbols_listed rows gs n represents has =
    ap is_some (represents n) ∙ symbol_entry gs n None (sym (has_name-with [] (filter_map symbol_of gs) n) ∙ has)
