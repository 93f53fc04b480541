-- TreeWords: what the words of unifdef-tree(1) ask for.
--
-- `gs` is what the words give, one option or operand after another. The operands are paths.
use Rattle.std.specs.Prelude.{ℕ, List, [], ◌∷◌, ◌++◌, ◌==◌, map, filter, Bool, true, false, Option}
use Rattle.std.specs.Prelude.{Some, None, codes, encode_utf8, option_map, bytes_eq, if◌then◌else◌}
use Rattle.std.specs.List.{filter_map, list_any}
use Rattle.ud_model.specs.text.Bytes.{hyphen}
use Rattle.ud_model.specs.answer.CommandLine.{ParsedArg, has_letter, takes_argument}
use Rattle.ud_model.specs.answer.CommandLine.{parse_symbol}
use Rattle.ud_model.specs.answer.CommandLine as args
use Rattle.ud_args.specs.CommandLines.{Parsed, flag, option, operand, unknown, lacking, late}
use Rattle.ud_args.specs.CommandLines.{as_arg, parsed_words}
use Rattle.ud_args.specs.LeastSymbols.{definition_for, is_other_relation}
use Rattle.ud_args.specs.declared.programs.Program.TheVariants.{UnifdefTree}

-- `given_in words`: what the words give, in reading order.
abbrev pub given_in : List (List ℕ) → List Parsed
given_in words = parsed_words UnifdefTree words

-- `is_fault g`: `g` is a fault of the words: a letter that is no option, an option without its
-- argument, or an option after a path.
abbrev pub is_fault : Parsed → Bool
is_fault (unknown c) = true
is_fault (lacking c) = true
is_fault (late n w) = true
is_fault _ = false

-- `first_fault gs`: the first fault of the words, if any.
abbrev pub first_fault : List Parsed → Option Parsed
first_fault [] = None
first_fault (g ∷ gs) = if is_fault g then Some g else first_fault gs

-- `is_flag_of letters g`: `g` is a flag with one of these letters.
abbrev pub is_flag_of : List ℕ → Parsed → Bool
is_flag_of letters (flag c) = has_letter letters c
is_flag_of letters _ = false

-- `has_flag letters gs`: a flag with one of these letters is given.
abbrev pub has_flag : List ℕ → List Parsed → Bool
has_flag letters gs = list_any (is_flag_of letters) gs

-- `names_symbol g`: `g` is an option that names a symbol.
abbrev pub names_symbol : Parsed → Bool
names_symbol (option c n a) = has_letter (codes "DUi") c
names_symbol _ = false

-- `has_symbols gs`: some option names a symbol.
abbrev pub has_symbols : List Parsed → Bool
has_symbols gs = list_any names_symbol gs

-- `symbol_of g`: the name of the symbol in the option `g`, if it is valid.
abbrev pub symbol_of : Parsed → Option (List ℕ)
symbol_of (option c n a) = option_map (λ s. s.name) (parse_symbol c (definition_for c a))
symbol_of _ = None

-- `has_name names n`: `n` is one of the names.
abbrev pub has_name : List (List ℕ) → List ℕ → Bool
has_name names n = list_any (bytes_eq n) names

-- `names_with names more`: `names`, and each of `more` that isn't there yet.
abbrev pub names_with : List (List ℕ) → List (List ℕ) → List (List ℕ)
names_with names [] = names
names_with names (n ∷ more) = names_with (if has_name names n then names else names ++ n ∷ []) more

-- `symbol_names gs`: the names of the symbols, in order, each once.
abbrev pub symbol_names : List Parsed → List (List ℕ)
symbol_names gs = names_with [] (filter_map symbol_of gs)

-- `is_unifdef_option g`: `g` is an option of unifdef(1), with the same meaning.
abbrev pub is_unifdef_option : Parsed → Bool
is_unifdef_option (flag c) = has_letter (codes "bcKklst") c
is_unifdef_option (option c n a) = takes_argument c
is_unifdef_option _ = false

-- `unifdef_arg g`: the option or operand `g`, in terms of unifdef(1).
abbrev pub unifdef_arg : Parsed → ParsedArg
unifdef_arg (option c n a) = args.option c n (definition_for c a)
unifdef_arg g = as_arg g

-- `unifdef_args gs`: the options of unifdef(1), in order.
abbrev pub unifdef_args : List Parsed → List ParsedArg
unifdef_args gs = map unifdef_arg (filter is_unifdef_option gs)

-- `option_word c a`: the option `c` and its argument as one word.
abbrev pub option_word : ℕ → List ℕ → List ℕ
option_word c a = hyphen ∷ (encode_utf8 c ++ a)

-- `word_or g n w`: the option `g` as one word, if its argument is in the word with the number `n`,
-- else `w`.
abbrev pub word_or : Parsed → ℕ → List ℕ → List ℕ
word_or (option c m a) n w = if m == n then option_word c a else w
word_or _ n w = w

-- `word_at n gs`: the first option whose argument is in the word with the number `n`, as one word;
-- the empty word if there is none.
abbrev pub word_at : ℕ → List Parsed → List ℕ
word_at n [] = []
word_at n (g ∷ gs) = word_or g n (word_at n gs)

-- `relation_or g later`: the option `g` as one word if it is `-D` with a relation that gives no
-- least value, else `later`.
abbrev pub relation_or : Parsed → Option (List ℕ) → Option (List ℕ)
relation_or (option c n a) later =
    if is_other_relation c a then Some (option_word c a) else later
relation_or _ later = later

-- `first_relation gs`: the first such option, as one word, if any.
abbrev pub first_relation : List Parsed → Option (List ℕ)
first_relation [] = None
first_relation (g ∷ gs) = relation_or g (first_relation gs)

-- `pattern_of g`: the pattern of the option `g`, if it is `-g`.
abbrev pub pattern_of : Parsed → Option (List ℕ)
pattern_of (option c n a) = if has_letter (codes "g") c then Some a else None
pattern_of _ = None

-- `patterns_in gs`: the patterns of `-g`, in order.
abbrev pub patterns_in : List Parsed → List (List ℕ)
patterns_in gs = filter_map pattern_of gs

-- `path_of g`: the path `g`, if it is one.
abbrev pub path_of : Parsed → Option (List ℕ)
path_of (operand n w) = Some w
path_of _ = None

-- `paths_in gs`: the paths, in order.
abbrev pub paths_in : List Parsed → List (List ℕ)
paths_in gs = filter_map path_of gs
