-- An option between other arguments: what they give stays, and what the option gives comes between.
use Rattle.std.proofs.Common.{◌≡◌, ◌≢◌, ℕ, suc, List, [], ◌∷◌, ◌++◌, Bool, true, false, ◌==◌}
use Rattle.std.proofs.Common.{nat_lt, if◌then◌else◌, bytes_eq, codes, encode_utf8_all, Option, Some}
use Rattle.std.proofs.Common.{None, refl, sym, ◌∙◌, ap, ap₂, append_assoc, arith}
use Rattle.std.specs.Str.{chars, IsUtf8, IsAscii}
use Rattle.std.specs.List.{filter_map}
use Rattle.std.proofs.lemmas.List.Elements.{filter_map-append}
use Rattle.std.proofs.lemmas.Slice.Eq.{bytes_eq-Decides}
use Rattle.std.proofs.lemmas.Str.{encodes-chars, IsUtf8-append, IsUtf8-from_ascii}
use Rattle.std.proofs.lemmas.Str.Ascii.{IsAscii-nil, IsAscii-cons}
use Rattle.ud_model.specs.text.Bytes.{hyphen, equals_sign, is_word_byte, are_word_bytes}
use Rattle.ud_model.specs.conditions.Table.{Argument, Entry, entry_from, entry_in}
use Rattle.ud_model.specs.answer.CommandLine.{ParsedArg, flag, option, operand, unknown, has_letter}
use Rattle.ud_model.specs.answer.CommandLine.{is_flag, takes_argument, parsed_from, parsed_args}
use Rattle.ud_model.specs.answer.CommandLine.{parse_symbol, symbol_named, mode_or, parse_exit_mode}
use Rattle.ud_model.specs.answer.CommandLine.{mode_from, has_flag, settings_in, argument_in}
use Rattle.ud_model.specs.answer.CommandLine.{options_of, argument_fault, fault_or, first_fault}
use Rattle.ud_model.specs.answer.CommandLine.{usage_fault, WordGives, then_gives, letters_give}
use Rattle.ud_model.specs.answer.CommandLine.{option_gives, given_next}
use Rattle.ud_model.specs.answer.SymbolArguments.{is_name, name_before_equals, value_after_equals, value_or_one}
use Rattle.ud_laws.specs.answer.OptionArguments.{AreOptions, no_options, whole_word, two_words, IsSymbolOption, defines, defines_as, undefines, AddsSymbol}
use Rattle.ud_model.specs.declared.settings.ExitMode.{ExitMode}
use Rattle.ud_model.proofs.answer.WordLemmas.{options_given, both_none}
use Rattle.ud_model.proofs.output.Each.{Each, each_both}
use Rattle.ud_laws.proofs.answer.SameArguments.{Same, given_same, flag_same, mode_same, table_same}
use Rattle.ud_laws.proofs.answer.SameArguments.{no_fault_same}

word_small : (b : ℕ) → is_word_byte b ≡ true → (nat_lt b 128 ≡ true) × ((b == equals_sign) ≡ false)
word_small b e = grind arith

-- 1. Options before other arguments.

-- none of these is an operand
abbrev IsNoOperand : ParsedArg → Type 0
IsNoOperand (operand n w) = ⊥
IsNoOperand g = Unit {0}

abbrev pub NoOperand : List ParsedArg → Type 0
NoOperand gs = Each IsNoOperand gs

letters_none : (n : ℕ) (cs : List ℕ) → NoOperand (letters_give n cs).given
letters_none n [] = tt
letters_none n (c ∷ cs) = grind (arith, letters_none n cs)

-- which option waits doesn't depend on the word's number
waits_same : (n m : ℕ) (cs : List ℕ) → (letters_give n cs).waits ≡ (letters_give m cs).waits
waits_same n m [] = refl
waits_same n m (c ∷ cs) = grind (arith, waits_same n m cs)

-- what these arguments give from the place n on, and then come the arguments after them
pub record Splits (n : ℕ) (before : List (List ℕ)) : Type 0 where
  pub given : List ParsedArg
  pub next : ℕ
  pub no_operand : NoOperand given
  pub parsed : (rest : List (List ℕ)) → parsed_from n (before ++ rest) ≡ given ++ parsed_from next rest

pub options_split : {before : List (List ℕ)} → AreOptions before → (n : ℕ) → Splits n before
options_split no_options n = record { given = []; next = n; no_operand = tt; parsed = λ rest. refl }
options_split (whole_word {w} {c} {cs} {args} is waits more) n =
    let inner : Splits (suc n) args = options_split more (suc n) in
    let gs : List ParsedArg = (letters_give (suc n) (c ∷ cs)).given in
    record {
      given = gs ++ inner.given;
      next = inner.next;
      no_operand =
          each_both IsNoOperand gs inner.given (letters_none (suc n) (c ∷ cs)) inner.no_operand;
      parsed = λ rest. options_given n w (args ++ rest) c cs is.no_end is.letters
          ∙ ap (λ (o : Option ℕ). gs ++ given_next o (suc n) (args ++ rest)) (waits_same (suc n) 0 (c ∷ cs) ∙ waits)
          ∙ ap (λ (hs : List ParsedArg). gs ++ hs) (inner.parsed rest)
          ∙ sym (append_assoc gs inner.given (parsed_from inner.next rest));
    }
options_split (two_words {w} {c} {cs} {d} {v} {args} is waits more) n =
    let inner : Splits (suc (suc n)) args = options_split more (suc (suc n)) in
    let gs : List ParsedArg = (letters_give (suc n) (c ∷ cs)).given in
    record {
      given = gs ++ option d (suc (suc n)) v ∷ inner.given;
      next = inner.next;
      no_operand = each_both IsNoOperand gs (option d (suc (suc n)) v ∷ inner.given) (letters_none (suc n) (c ∷ cs)) (tt, inner.no_operand);
      parsed = λ rest. options_given n w (v ∷ (args ++ rest)) c cs is.no_end is.letters
          ∙ ap (λ (o : Option ℕ). gs ++ given_next o (suc n) (v ∷ (args ++ rest))) (waits_same (suc n) 0 (c ∷ cs) ∙ waits)
          ∙ ap (λ (hs : List ParsedArg). gs ++ option d (suc (suc n)) v ∷ hs) (inner.parsed rest)
          ∙ sym (append_assoc gs (option d (suc (suc n)) v ∷ inner.given) (parsed_from inner.next rest));
    }

-- 2. An option that names a symbol.

word_ascii : (bytes : List ℕ) → are_word_bytes bytes ≡ true → IsAscii bytes
word_ascii [] e = IsAscii-nil
word_ascii (b ∷ bs) e = grind (arith, word_small, word_ascii bs (grind arith))

-- an ASCII byte is a character
chars_ascii : (b : ℕ) (t : List ℕ) → nat_lt b 128 ≡ true → chars (b ∷ t) ≡ b ∷ chars t
unfolding chars
chars_ascii b t e = grind arith

-- the name before the first `=`
name_first : (name value : List ℕ) → are_word_bytes name ≡ true → name_before_equals (name ++ equals_sign ∷ value) ≡ name
name_first [] value e = refl
name_first (b ∷ bs) value e = grind (arith, name_first bs value, word_small b)

name_alone : (name : List ℕ) → are_word_bytes name ≡ true → name_before_equals name ≡ name
name_alone [] e = refl
name_alone (b ∷ bs) e = grind (arith, name_alone bs, word_small b)

-- the argument gives this option, which says something of the symbol
pub record GivesSymbol (name w : List ℕ) : Type 0 where
  pub letter : ℕ
  pub argument : List ℕ
  pub entry : Entry
  pub no_mode : has_letter (codes "x") letter ≡ false
  pub symbol : parse_symbol letter argument ≡ Some (record { name = name; entry = entry })
  pub parsed : (n : ℕ) (rest : List (List ℕ)) → parsed_from n (w ∷ rest) ≡ option letter (suc n) argument ∷ parsed_from (suc n) rest

by_kind : (f t : Bool) (p q r : WordGives) → f ≡ false → t ≡ true → (if f then p else if t then q else r) ≡ q
by_kind f t p q r e g = rw (e, g) refl

-- an option with its argument in one word
argument_in_word : (l b : ℕ) (t : List ℕ) → nat_lt l 128 ≡ true → is_flag l ≡ false → takes_argument l ≡ true → (hyphen == l) ≡ false →
    nat_lt b 128 ≡ true → IsUtf8 (b ∷ t) → (n : ℕ) (rest : List (List ℕ)) →
    parsed_from n ((hyphen ∷ l ∷ b ∷ t) ∷ rest) ≡ option l (suc n) (b ∷ t) ∷ parsed_from (suc n) rest
argument_in_word l b t small no_flag takes no_end first u n rest =
    options_given n (hyphen ∷ l ∷ b ∷ t) rest l (b ∷ chars t) (no_dashes (bytes_eq (b ∷ t) []) no_end) (chars_ascii l (b ∷ t) small ∙ ap (λ (cs : List ℕ). l ∷ cs) (chars_ascii b t first))
    ∙ ap (λ (g : WordGives). g.given ++ given_next g.waits (suc n) rest)
    (by_kind (is_flag l) (takes_argument l) (then_gives (flag l) (letters_give (suc n) (b ∷ chars t))) (option_gives l (suc n) (b ∷ chars t))
    (then_gives (unknown l) (letters_give (suc n) (b ∷ chars t))) no_flag takes)
    ∙ ap (λ (a : List ℕ). option l (suc n) a ∷ parsed_from (suc n) rest) (ap encode_utf8_all (sym (chars_ascii b t first)) ∙ encodes-chars (b ∷ t) u)
  where
    no_dashes : (e : Bool) → (hyphen == l) ≡ false → bytes_eq (hyphen ∷ l ∷ b ∷ t) (codes "--") ≡ false
    no_dashes e g = grind arith

named : (name : List ℕ) (value : Option (List ℕ)) → is_name name ≡ true → symbol_named name value false ≡ Some (record { name = name; entry = record { value = value; ignoring = false } })
named name value e = rw e refl

-- `-D` or `-U` with a name, and what comes after it
gives_by : (b : ℕ) (name t : List ℕ) (l : ℕ) (e : Entry) → nat_lt l 128 ≡ true → is_flag l ≡ false → takes_argument l ≡ true → (hyphen == l) ≡ false →
    has_letter (codes "x") l ≡ false → nat_lt b 128 ≡ true → IsUtf8 (b ∷ t) → parse_symbol l (b ∷ t) ≡ Some (record { name = name; entry = e }) → GivesSymbol name (hyphen ∷ l ∷ b ∷ t)
gives_by b name t l e small no_flag takes no_end no_mode first u sets = grind (arith, argument_in_word)

pub gives_symbol : (name w : List ℕ) → is_name name ≡ true → IsSymbolOption name w → GivesSymbol name w
gives_symbol [] w e o = absurd (grind (arith, e))
gives_symbol (b ∷ bs) w e defines = let words : are_word_bytes (b ∷ bs) ≡ true = grind (arith, e) in
    let first : nat_lt b 128 ≡ true = grind (arith, word_small b) in
    gives_by b (b ∷ bs) bs 68 (record { value = Some (value_or_one (value_after_equals (b ∷ bs))); ignoring = false }) refl refl refl refl refl first
    (IsUtf8-from_ascii (b ∷ bs) (word_ascii (b ∷ bs) words))
    (ap (λ (n : List ℕ). symbol_named n (Some (value_or_one (value_after_equals (b ∷ bs)))) false) (name_alone (b ∷ bs) words)
    ∙ named (b ∷ bs) (Some (value_or_one (value_after_equals (b ∷ bs)))) e)
gives_symbol (b ∷ bs) w e (defines_as value u) =
    let words : are_word_bytes (b ∷ bs) ≡ true = grind (arith, e) in
    let first : nat_lt b 128 ≡ true = grind (arith, word_small b) in
    let text : List ℕ = bs ++ equals_sign ∷ value in
    let said : Option (List ℕ) = Some (value_or_one (value_after_equals (b ∷ text))) in
    gives_by b (b ∷ bs) text 68 (record { value = said; ignoring = false }) refl refl refl refl refl first
    (IsUtf8-append (b ∷ bs) (equals_sign ∷ value) (IsUtf8-from_ascii (b ∷ bs) (word_ascii (b ∷ bs) words))
    (IsUtf8-append (equals_sign ∷ []) value (IsUtf8-from_ascii (equals_sign ∷ []) (IsAscii-cons equals_sign [] (omega arith) IsAscii-nil)) u))
    (ap (λ (n : List ℕ). symbol_named n said false) (name_first (b ∷ bs) value words) ∙ named (b ∷ bs) said e)
gives_symbol (b ∷ bs) w e undefines =
    let words : are_word_bytes (b ∷ bs) ≡ true = grind (arith, e) in
    let first : nat_lt b 128 ≡ true = grind (arith, word_small b) in
    gives_by b (b ∷ bs) bs 85 (record { value = None; ignoring = false }) refl refl refl refl refl first
    (IsUtf8-from_ascii (b ∷ bs) (word_ascii (b ∷ bs) words)) (named (b ∷ bs) None e)

-- 3. The option between the others.

flag_added : (ls : List ℕ) (xs : List ParsedArg) (l n : ℕ) (a : List ℕ) {hs gs : List ParsedArg} → Same hs gs → has_flag ls (xs ++ option l n a ∷ hs) ≡ has_flag ls (xs ++ gs)
flag_added ls [] l n a k = flag_same ls k
flag_added ls (x ∷ xs) l n a k = grind (arith, flag_added ls xs l n a k)

mode_added : (e : ExitMode) (xs : List ParsedArg) (l n : ℕ) (a : List ℕ) {hs gs : List ParsedArg} → has_letter (codes "x") l ≡ false → Same hs gs →
    mode_from e (xs ++ option l n a ∷ hs) ≡ mode_from e (xs ++ gs)
mode_added e [] l n a f k = grind (arith, mode_same)
mode_added e (option c i v ∷ xs) l n a f k = mode_added (if has_letter (codes "x") c then mode_or e (parse_exit_mode v) else e) xs l n a f k
mode_added e (x ∷ xs) l n a f k = mode_added e xs l n a f k

no_fault_added : (xs : List ParsedArg) → NoOperand xs →
    (l n : ℕ) (a : List ℕ) {hs gs : List ParsedArg} → argument_fault l n a ≡ None → Same gs hs →
    first_fault (xs ++ gs) ≡ None → first_fault (xs ++ option l n a ∷ hs) ≡ None
no_fault_added (flag c ∷ xs) h l n a f k e = no_fault_added xs h.1 l n a f k e
no_fault_added (option c i v ∷ xs) h l n a {gs = gs} f k e =
    let both = both_none (argument_fault c i v) (first_fault (xs ++ gs)) e in
    ap₂ fault_or both.0 (no_fault_added xs h.1 l n a f k both.1)
no_fault_added xs h l n a f k e = grind (arith, no_fault_same)

-- a name's entry doesn't depend on an argument of another name
entry_added : (e : Option Entry) (ts us : List Argument) (a : Argument) (n : List ℕ) → bytes_eq a.name n ≡ false → entry_from e (ts ++ a ∷ us) n ≡ entry_from e (ts ++ us) n
entry_added e [] us a n f = ap (λ (b : Bool). entry_from (if b then Some a.entry else e) us n) f
entry_added e (t ∷ ts) us a n f = entry_added (if bytes_eq t.name n then Some t.entry else e) ts us a n f

-- arguments with such an option between them, and without it
pub record WithOption (before after : List (List ℕ)) (name w : List ℕ) : Type 0 where
  pub no_fault : usage_fault (before ++ after) ≡ None → usage_fault (before ++ w ∷ after) ≡ None
  pub settings : (options_of (before ++ w ∷ after)).settings ≡ (options_of (before ++ after)).settings
  pub entries : (n : List ℕ) → n ≢ name → entry_in (options_of (before ++ after)).table n ≡ entry_in (options_of (before ++ w ∷ after)).table n

pub with_option : (before after : List (List ℕ)) (name w : List ℕ) → AddsSymbol before name w → WithOption before after name w
with_option before after name w adds =
    by_parts (options_split adds.options 0) (gives_symbol name w adds.is_symbol adds.option)
  where
    by_parts : Splits 0 before → GivesSymbol name w → WithOption before after name w
    by_parts s g = let m : ℕ = s.next in
        let hs : List ParsedArg = parsed_from (suc m) after in
        let gs : List ParsedArg = parsed_from m after in
        let k : Same hs gs = given_same (suc m) m after in
        let said : Argument = record { name = name; entry = g.entry } in
        let here : parsed_args (before ++ w ∷ after) ≡ s.given ++ option g.letter (suc m) g.argument ∷ hs = cc (s.parsed (w ∷ after), g.parsed m after) in
        let gone : parsed_args (before ++ after) ≡ s.given ++ gs = s.parsed after in
        let table_here : (options_of (before ++ w ∷ after)).table ≡ filter_map argument_in s.given ++ said ∷ filter_map argument_in gs =
        ap (filter_map argument_in) here
        ∙ filter_map-append argument_in s.given (option g.letter (suc m) g.argument ∷ hs)
        ∙ ap (λ (l : List Argument). filter_map argument_in s.given ++ l)
        ((grind (arith, g.symbol)) ∙ ap (λ (l : List Argument). said ∷ l) (table_same k)) in
        let table_gone : (options_of (before ++ after)).table ≡ filter_map argument_in s.given ++ filter_map argument_in gs = simp (filter_map-append, gone) in
        record {
          no_fault = λ e. ap first_fault here
              ∙ no_fault_added s.given s.no_operand g.letter (suc m) g.argument (grind arith) (given_same m (suc m) after) (sym (ap first_fault gone) ∙ e);
          settings = ap settings_in here ∙ (grind (arith, mode_added, flag_added))
              ∙ sym (ap settings_in gone);
          entries = λ n other. ap (λ (t : List Argument). entry_in t n) table_gone
              ∙ sym (ap (λ (t : List Argument). entry_in t n) table_here
              ∙ entry_added None (filter_map argument_in s.given) (filter_map argument_in gs) said n (grind (arith, bytes_eq-Decides)));
        }
