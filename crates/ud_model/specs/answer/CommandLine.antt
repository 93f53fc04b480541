-- The command line: the options and operands in the arguments after the program's name.
-- POSIX XBD 12.2, and the options of unifdef(1).
--
--   ParsedArg                  an option, an operand, or a letter that is no option or has no
--                              option-argument
--   parsed_args args           the options, operands and wrong letters of the arguments, in reading
--                              order
--   letters_give number ls     the options of the letters of the argument with this number, and the
--                              option that waits for the next argument, if any
--   parse_symbol c argument    the symbol in an option-argument of `-D`, `-U` or `-i`, if it is
--                              valid
--   parse_exit_mode argument   the exit mode in an option-argument of `-x`, if it is valid
--   usage_fault args           the first fault of the arguments in reading order, if any
--   options_of args            the settings, and the option-arguments that name symbols
--   operand_of args            the operand's index, counted from 0; `display_name` is the input's
--                              name in messages
--   input_of args              the index of the operand that names a file, if the arguments have no
--                              fault
--   usage_message fault        the message of a fault
--
-- An argument is the bytes of a text in UTF-8, and its letters are the characters of that text. An
-- argument that starts with `-` and isn't `-` has letters of options. A letter's option-argument is
-- the rest of its argument after it, or the whole next argument if nothing is left. `--` ends the
-- options, and so does the first operand. Every argument after either is an operand.
--
-- Example: the letters `bD` give `-b`, and the option `-D` waits. The letters `DA` give `-D` with
-- `A`, and none waits.
use Rattle.std.specs.Prelude.{ℕ, suc, List, [], ◌∷◌, ◌++◌, Bool, true, false, ◌||◌, ◌==◌, Option}
use Rattle.std.specs.Prelude.{Some, None, bytes_eq, codes, chars, encode_utf8, encode_utf8_all}
use Rattle.std.specs.Prelude.{decimal, if◌then◌else◌}
use Rattle.std.specs.List.{filter_map}
use Rattle.ud_model.specs.text.Bytes.{hyphen}
use Rattle.ud_model.specs.answer.SymbolArguments.{name_before_equals, value_after_equals}
use Rattle.ud_model.specs.answer.SymbolArguments.{value_or_one, is_name}
use Rattle.ud_model.specs.conditions.Table.{Argument}
use Rattle.ud_model.specs.sections.Items.{Options}
use Rattle.ud_model.specs.declared.settings.Settings.{Settings}
use Rattle.ud_model.specs.declared.settings.Listing.{Listing}
use Rattle.ud_model.specs.declared.settings.Listing.TheVariants.{Off, Names, Depths}
use Rattle.ud_model.specs.declared.settings.ExitMode.{ExitMode}
use Rattle.ud_model.specs.declared.settings.ExitMode.TheVariants.{Zero, One, Two}

-- An option, an operand or a wrong letter in the arguments.
pub data ParsedArg : Type 0 where
  -- An option without an option-argument: its letter.
  flag : ℕ → ParsedArg
  -- An option with an option-argument: its letter, the number of the argument that has the
  -- option-argument, counted from 1, and the option-argument.
  option : ℕ → ℕ → List ℕ → ParsedArg
  -- An operand: its index, counted from 0, and its bytes.
  operand : ℕ → List ℕ → ParsedArg
  -- A letter that is no option.
  unknown : ℕ → ParsedArg
  -- The letter of an option whose option-argument is missing.
  lacking : ℕ → ParsedArg

-- `has_letter letters c`: `c` is one of `letters`.
abbrev pub has_letter : List ℕ → ℕ → Bool
has_letter [] c = false
has_letter (l ∷ ls) c = (c == l) || has_letter ls c

-- `is_flag c`: `c` is the letter of an option without an option-argument.
abbrev pub is_flag : ℕ → Bool
is_flag c = has_letter (codes "bcklnsKSt") c

-- `takes_argument c`: `c` is the letter of an option with an option-argument.
abbrev pub takes_argument : ℕ → Bool
takes_argument c = has_letter (codes "DUix") c

-- `option_letters arg`: the letters of options in an argument. An operand has none.
abbrev pub option_letters : List ℕ → List ℕ
option_letters [] = []
option_letters (b ∷ bs) = if b == hyphen then chars bs else []

-- `operands_from n args`: each argument as an operand, with indices from `n` on.
abbrev pub operands_from : ℕ → List (List ℕ) → List ParsedArg
operands_from n [] = []
operands_from n (w ∷ ws) = operand n w ∷ operands_from (suc n) ws

-- The options of an argument's letters, and the letter of the option whose option-argument is the
-- next argument, if one waits.
pub record WordGives : Type 0 where
  pub given : List ParsedArg
  pub waits : Option ℕ

-- No options, and none that waits.
abbrev pub gives_nothing : WordGives
gives_nothing = record { given = []; waits = None }

-- `then_gives g w`: the parsed option `g`, followed by the options of `w`.
abbrev pub then_gives : ParsedArg → WordGives → WordGives
then_gives g w = record { given = g ∷ w.given; waits = w.waits }

-- `option_gives c number letters`: the option `c` with the letters after it in its argument as
-- option-argument. Without letters, it waits.
abbrev pub option_gives : ℕ → ℕ → List ℕ → WordGives
option_gives c number [] = record { given = []; waits = Some c }
option_gives c number (l ∷ ls) =
    record { given = option c number (encode_utf8_all (l ∷ ls)) ∷ []; waits = None }

-- `letters_give number letters`: the options of the letters of the argument with this number.
abbrev pub letters_give : ℕ → List ℕ → WordGives
letters_give number [] = gives_nothing
letters_give number (c ∷ cs) =
    if is_flag c then then_gives (flag c) (letters_give number cs)
    else if takes_argument c then option_gives c number cs
    else then_gives (unknown c) (letters_give number cs)

-- `is_operand arg`: the argument is no option, and not `--`.
abbrev pub is_operand : List ℕ → Bool
is_operand arg = bytes_eq (option_letters arg) []

-- `given_next waits n args`: the parsed arguments from the index `n` on, if no operand and no `--`
-- came before, and this option waits for its option-argument. An argument gives its options, then
-- come the arguments after it.
abbrev pub given_next : Option ℕ → ℕ → List (List ℕ) → List ParsedArg
given_next None n [] = []
given_next (Some c) n [] = lacking c ∷ []
given_next (Some c) n (w ∷ ws) = option c (suc n) w ∷ given_next None (suc n) ws
given_next None n (w ∷ ws) =
    if bytes_eq w (codes "--") then operands_from (suc n) ws
    else if is_operand w then operands_from n (w ∷ ws)
    else (letters_give (suc n) (option_letters w)).given ++
    given_next (letters_give (suc n) (option_letters w)).waits (suc n) ws

-- `parsed_from n args`: the parsed arguments from the index `n` on, if none waits.
abbrev pub parsed_from : ℕ → List (List ℕ) → List ParsedArg
parsed_from n args = given_next None n args

-- `parsed_after_option c n args`: the parsed arguments from the index `n` on, of which the first is
-- the option-argument of `c`.
abbrev pub parsed_after_option : ℕ → ℕ → List (List ℕ) → List ParsedArg
parsed_after_option c n args = given_next (Some c) n args

-- `parsed_args args`: the parsed arguments of a command line.
abbrev pub parsed_args : List (List ℕ) → List ParsedArg
parsed_args args = parsed_from 0 args

-- `symbol_named name value ignoring`: the symbol with this name and this entry, if the name is an
-- identifier other than `defined`.
abbrev pub symbol_named : List ℕ → Option (List ℕ) → Bool → Option Argument
symbol_named name value ignoring =
    if is_name name then Some (record {
      name = name;
      entry =
          record { value = value; ignoring = ignoring };
    })
    else None

-- `parse_define ignoring argument`: the symbol that `NAME` or `NAME=VALUE` defines, split at the
-- first `=`.
abbrev pub parse_define : Bool → List ℕ → Option Argument
parse_define ignoring argument =
    symbol_named (name_before_equals argument) (Some (value_or_one (value_after_equals argument)))
    ignoring

-- `parse_undefine ignoring argument`: the symbol that `NAME` undefines.
abbrev pub parse_undefine : Bool → List ℕ → Option Argument
parse_undefine ignoring argument = symbol_named argument None ignoring

-- `parse_ignoring_symbol argument`: the symbol in an option-argument of `-i`: `D` or `U`, and then
-- the option-argument of that option.
abbrev pub parse_ignoring_symbol : List ℕ → Option Argument
parse_ignoring_symbol [] = None
parse_ignoring_symbol (b ∷ bs) =
    if has_letter (codes "D") b then parse_define true bs
    else if has_letter (codes "U") b then parse_undefine true bs
    else None

-- `parse_symbol c argument`: the symbol in an option-argument of the option `c`, if it is valid.
abbrev pub parse_symbol : ℕ → List ℕ → Option Argument
parse_symbol c argument =
    if has_letter (codes "D") c then parse_define false argument
    else if has_letter (codes "U") c then parse_undefine false argument
    else if has_letter (codes "i") c then parse_ignoring_symbol argument
    else None

-- `parse_exit_mode argument`: the exit mode in an option-argument of `-x`, if it is valid.
abbrev pub parse_exit_mode : List ℕ → Option ExitMode
parse_exit_mode argument =
    if bytes_eq argument (codes "0") then Some Zero
    else if bytes_eq argument (codes "1") then Some One
    else if bytes_eq argument (codes "2") then Some Two
    else None

-- A fault of the arguments.
pub data UsageFault : Type 0 where
  -- The letter is no option.
  unknown_option : ℕ → UsageFault
  -- The option with this letter has no option-argument.
  missing_argument : ℕ → UsageFault
  -- The argument with this number, counted from 1, has an option-argument that names no symbol.
  bad_symbol_in : ℕ → UsageFault
  -- The argument with this number, counted from 1, has an option-argument that is no exit mode.
  bad_mode_in : ℕ → UsageFault
  too_many_files : UsageFault

-- `unless_right parsed fault`: `fault` if nothing was parsed, else None.
abbrev pub unless_right : {A : Type 0} → Option A → UsageFault → Option UsageFault
unless_right None fault = Some fault
unless_right (Some a) fault = None

-- `argument_fault c number argument`: the fault of an option-argument of the option `c`, in the
-- argument with this number.
abbrev pub argument_fault : ℕ → ℕ → List ℕ → Option UsageFault
argument_fault c number argument =
    if has_letter (codes "x") c then unless_right (parse_exit_mode argument) (bad_mode_in number)
    else unless_right (parse_symbol c argument) (bad_symbol_in number)

-- `fault_after_operand args`: the fault of the arguments after an operand. They are operands, and
-- one is too many.
abbrev pub fault_after_operand : List ParsedArg → Option UsageFault
fault_after_operand [] = None
fault_after_operand (g ∷ gs) = Some too_many_files

-- `fault_or fault later`: `fault` if there is one, else `later`.
abbrev pub fault_or : Option UsageFault → Option UsageFault → Option UsageFault
fault_or None later = later
fault_or (Some f) later = Some f

-- `first_fault args`: the first fault of the parsed arguments, if any.
abbrev pub first_fault : List ParsedArg → Option UsageFault
first_fault [] = None
first_fault (flag c ∷ gs) = first_fault gs
first_fault (option c number argument ∷ gs) =
    fault_or (argument_fault c number argument) (first_fault gs)
first_fault (operand n w ∷ gs) = fault_after_operand gs
first_fault (unknown c ∷ gs) = Some (unknown_option c)
first_fault (lacking c ∷ gs) = Some (missing_argument c)

-- `usage_fault args`: the first fault of the arguments, if any.
abbrev pub usage_fault : List (List ℕ) → Option UsageFault
usage_fault args = first_fault (parsed_args args)

-- `has_flag letters args`: one of the flags `letters` is given.
abbrev pub has_flag : List ℕ → List ParsedArg → Bool
has_flag letters [] = false
has_flag letters (flag c ∷ gs) = has_letter letters c || has_flag letters gs
has_flag letters (option c number argument ∷ gs) = has_flag letters gs
has_flag letters (operand n w ∷ gs) = has_flag letters gs
has_flag letters (unknown c ∷ gs) = has_flag letters gs
has_flag letters (lacking c ∷ gs) = has_flag letters gs

-- `listing_by depths names`: the listing by whether `-S` and `-s` are given. `-S` overrides `-s`.
abbrev pub listing_by : Bool → Bool → Listing
listing_by true names = Depths
listing_by false true = Names
listing_by false false = Off

-- `mode_or earlier mode`: `mode`, or `earlier` if there is none.
abbrev pub mode_or : ExitMode → Option ExitMode → ExitMode
mode_or earlier None = earlier
mode_or earlier (Some mode) = mode

-- `mode_from mode args`: the exit mode after these arguments, if `mode` is the one before. The last
-- `-x` counts.
abbrev pub mode_from : ExitMode → List ParsedArg → ExitMode
mode_from mode [] = mode
mode_from mode (flag c ∷ gs) = mode_from mode gs
mode_from mode (option c number argument ∷ gs) =
    mode_from (if has_letter (codes "x") c then mode_or mode (parse_exit_mode argument)
    else mode) gs
mode_from mode (operand n w ∷ gs) = mode_from mode gs
mode_from mode (unknown c ∷ gs) = mode_from mode gs
mode_from mode (lacking c ∷ gs) = mode_from mode gs

-- `settings_in args`: the settings that the parsed arguments give.
abbrev pub settings_in : List ParsedArg → Settings
settings_in gs = record {
  plain = has_flag (codes "t") gs;
  constants = has_flag (codes "k") gs;
  strict = has_flag (codes "K") gs;
  blank = has_flag (codes "bl") gs;
  complement = has_flag (codes "c") gs;
  renumber = has_flag (codes "n") gs;
  unpadded = false;
  listing = listing_by (has_flag (codes "S") gs) (has_flag (codes "s") gs);
  exit_mode = mode_from Zero gs;
}

-- `argument_in arg`: the symbol that an option names, if it does.
abbrev pub argument_in : ParsedArg → Option Argument
argument_in (flag c) = None
argument_in (option c number argument) = parse_symbol c argument
argument_in (operand n w) = None
argument_in (unknown c) = None
argument_in (lacking c) = None

-- `options_of args`: the settings, and the option-arguments that name symbols, in order.
abbrev pub options_of : List (List ℕ) → Options
options_of args = record {
  settings = settings_in (parsed_args args);
  table =
      filter_map argument_in (parsed_args args);
}

-- An operand: its index, counted from 0, and its bytes.
pub record Operand : Type 0 where
  pub index : ℕ
  pub name : List ℕ

-- `operand_in args`: the first operand, if any.
abbrev pub operand_in : List ParsedArg → Option Operand
operand_in [] = None
operand_in (flag c ∷ gs) = operand_in gs
operand_in (option c number argument ∷ gs) = operand_in gs
operand_in (operand n w ∷ gs) = Some (record { index = n; name = w })
operand_in (unknown c ∷ gs) = operand_in gs
operand_in (lacking c ∷ gs) = operand_in gs

-- `operand_index o`: the operand's index, if there is an operand.
abbrev pub operand_index : Option Operand → Option ℕ
operand_index None = None
operand_index (Some o) = Some o.index

-- `operand_of args`: the index of the first operand, if any.
abbrev pub operand_of : List (List ℕ) → Option ℕ
operand_of args = operand_index (operand_in (parsed_args args))

-- `is_stdin name`: the operand is `-`, which is the standard input.
abbrev pub is_stdin : List ℕ → Bool
is_stdin name = bytes_eq name (codes "-")

-- `name_or_stdin o`: the operand's bytes, or `stdin` if there is none or it is `-`.
abbrev pub name_or_stdin : Option Operand → List ℕ
name_or_stdin None = codes "stdin"
name_or_stdin (Some o) = if is_stdin o.name then codes "stdin" else o.name

-- `display_name args`: the input's name in messages.
abbrev pub display_name : List (List ℕ) → List ℕ
display_name args = name_or_stdin (operand_in (parsed_args args))

-- `file_index o`: the operand's index, if there is one that names a file.
abbrev pub file_index : Option Operand → Option ℕ
file_index None = None
file_index (Some o) = if is_stdin o.name then None else Some o.index

-- `unless_fault fault index`: `index`, or None if there is a fault.
abbrev pub unless_fault : Option UsageFault → Option ℕ → Option ℕ
unless_fault None index = index
unless_fault (Some f) index = None

-- `input_of args`: the index of the operand that names a file, if the arguments have no fault.
abbrev pub input_of : List (List ℕ) → Option ℕ
input_of args = unless_fault (usage_fault args) (file_index (operand_in (parsed_args args)))

-- `usage_message fault`: the message of a fault of the arguments.
abbrev pub usage_message : UsageFault → List ℕ
usage_message (unknown_option letter) =
    codes "unifdef: Unknown option -" ++ encode_utf8 letter ++ codes "\n"
usage_message (missing_argument letter) =
    codes "unifdef: Option -" ++ encode_utf8 letter ++ codes " needs an argument\n"
usage_message (bad_symbol_in number) =
    codes "unifdef: Bad symbol in word " ++ decimal number ++ codes "\n"
usage_message (bad_mode_in number) =
    codes "unifdef: Bad exit mode in word " ++ decimal number ++ codes "\n"
usage_message too_many_files = codes "unifdef: Too many files\n"
