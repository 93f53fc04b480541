-- CommandLines: the command lines of unifdef(1) and unifdef-tree(1): what the words after the
-- program's name give. POSIX XBD 12.2.
--
--   is_flag p c         the letter is a program's option without an argument
--   takes_argument p c   the letter is an option with an argument
--   long_flag p w       the letter of a long flag, such as `h` for `--help`
--   ends_at_operand p   the program's first operand ends its options
--   Parsed              an option, an operand, or a fault
--   letters_then p n letters next rest   what the letters of a word give, and what follows
--   parsed_words p words   what the words give, in reading order
--   as_arg g            what is given, in terms of unifdef(1)
--
-- A word that starts with `-` and isn't `-` has letters of options. A letter's argument is the rest
-- of its word after it, or the whole next word if nothing is left. Every other word is an operand,
-- and so is every word after `--`.
--
-- For unifdef(1), every word after an operand is one, too, as in `CommandLine` of ud_model. For
-- unifdef-tree(1), an option after an operand is a fault, the word `--help` is the flag `h`, and
-- `--version` is `V`.
--
-- Example: the words `-nDA` and `src` give the flag `n`, the option `D` with `A` in the first word,
-- and the operand `src`, whose index is 1.
use Rattle.std.specs.Prelude.{ℕ, List, [], ◌∷◌, ◌+◌, Bool, true, false, Option, Some, None}
use Rattle.std.specs.Prelude.{bytes_eq, codes, encode_utf8_all, if◌then◌else◌}
use Rattle.ud_model.specs.answer.CommandLine.{ParsedArg, has_letter, option_letters, is_operand}
use Rattle.ud_model.specs.answer.CommandLine as args
use Rattle.ud_args.specs.declared.programs.Program.{Program}
use Rattle.ud_args.specs.declared.programs.Program.TheVariants.{Unifdef, UnifdefTree}

-- `is_flag p c`: `c` is the letter of an option of `p` without an argument.
abbrev pub is_flag : Program → ℕ → Bool
is_flag Unifdef c = args.is_flag c
is_flag UnifdefTree c = has_letter (codes "0BbcdhKklnpqrstVw") c

-- `takes_argument p c`: `c` is the letter of an option of `p` with an argument.
abbrev pub takes_argument : Program → ℕ → Bool
takes_argument Unifdef c = args.takes_argument c
takes_argument UnifdefTree c = has_letter (codes "DUgix") c

-- `long_flag p w`: the letter of the long flag `w` of `p`, if the word is one.
abbrev pub long_flag : Program → List ℕ → Option ℕ
long_flag Unifdef w = None
long_flag UnifdefTree w = if bytes_eq w (codes "--help") then Some 104
    else if bytes_eq w (codes "--version") then Some 86
    else None

-- `ends_at_operand p`: the first operand ends the options of `p`.
abbrev pub ends_at_operand : Program → Bool
ends_at_operand Unifdef = true
ends_at_operand UnifdefTree = false

-- An option, an operand, or a fault in the words.
pub data Parsed : Type 0 where
  -- An option without an argument: its letter.
  flag : ℕ → Parsed
  -- An option with its argument: its letter, the number of the word that has the argument, counted
  -- from 1, and the argument.
  option : ℕ → ℕ → List ℕ → Parsed
  -- An operand: its index, counted from 0, and its bytes.
  operand : ℕ → List ℕ → Parsed
  -- A letter that is no option.
  unknown : ℕ → Parsed
  -- The letter of an option whose argument is missing.
  lacking : ℕ → Parsed
  -- A word with options after an operand: its index and its bytes.
  late : ℕ → List ℕ → Parsed

-- `operands_from n words`: each word as an operand, with indices from `n` on.
abbrev pub operands_from : ℕ → List (List ℕ) → List Parsed
operands_from n [] = []
operands_from n (w ∷ ws) = operand n w ∷ operands_from (n + 1) ws

-- `option_then c n letters next rest`: the option `c`, and then `rest`. Its argument is the letters
-- after it in the word with the number `n`. If there are no letters, this is `next`.
abbrev pub option_then : ℕ → ℕ → List ℕ → List Parsed → List Parsed → List Parsed
option_then c n [] next rest = next
option_then c n (l ∷ ls) next rest = option c n (encode_utf8_all (l ∷ ls)) ∷ rest

-- `letters_then p n letters next rest`: the options in the letters of the word with the number `n`,
-- followed by `next c` if the option `c` takes the next word, else by `rest`.
abbrev pub letters_then : Program → ℕ → List ℕ → (ℕ → List Parsed) → List Parsed → List Parsed
letters_then p n [] next rest = rest
letters_then p n (c ∷ cs) next rest =
    if is_flag p c then flag c ∷ letters_then p n cs next rest
    else if takes_argument p c then option_then c n cs (next c) rest
    else unknown c ∷ letters_then p n cs next rest

-- `ordinary_then p after n w next rest behind`: what the word `w` with the index `n` gives, and
-- then the words after it. `w` is neither `--` nor a long flag. `after`: an operand came before.
-- After an operand, the words after it give `behind`. Else they give `next c` if the option `c`
-- takes the first of them, or `rest`.
abbrev pub ordinary_then : Program → Bool → ℕ → List ℕ → (ℕ → List Parsed) → List Parsed →
    List Parsed → List Parsed
ordinary_then p after n w next rest behind =
    if is_operand w then operand n w ∷ behind
    else if after then late n w ∷ behind
    else letters_then p (n + 1) (option_letters w) next rest

-- `long_then letter rest others`: the flag `letter` and then `rest`; `others` if there is none.
abbrev pub long_then : Option ℕ → List Parsed → List Parsed → List Parsed
long_then None rest others = others
long_then (Some c) rest others = flag c ∷ rest

-- `parsed_next p waits after n words`: what the words from the index `n` on give, if the option
-- `waits` takes the first of them. `after`: an operand came before.
abbrev pub parsed_next : Program → Option ℕ → Bool → ℕ → List (List ℕ) → List Parsed
parsed_next p None after n [] = []
parsed_next p (Some c) after n [] = lacking c ∷ []
parsed_next p (Some c) after n (w ∷ ws) =
    option c (n + 1) w ∷ parsed_next p None after (n + 1) ws
parsed_next p None after n (w ∷ ws) =
    if bytes_eq w (codes "--") then operands_from (n + 1) ws
    else long_then (long_flag p w) (parsed_next p None after (n + 1) ws)
    (ordinary_then p after n w (λ c. parsed_next p (Some c) after (n + 1) ws)
    (parsed_next p None after (n + 1) ws)
    (if ends_at_operand p then operands_from (n + 1) ws
    else parsed_next p None true (n + 1) ws))

-- `parsed_words p words`: what the words give, in reading order.
abbrev pub parsed_words : Program → List (List ℕ) → List Parsed
parsed_words p words = parsed_next p None false 0 words

-- `as_arg g`: what is given, in terms of unifdef(1), where a late word is an operand.
abbrev pub as_arg : Parsed → ParsedArg
as_arg (flag c) = args.flag c
as_arg (option c n a) = args.option c n a
as_arg (operand n w) = args.operand n w
as_arg (unknown c) = args.unknown c
as_arg (lacking c) = args.lacking c
as_arg (late n w) = args.operand n w
