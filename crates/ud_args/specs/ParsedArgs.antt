-- ParsedArgs: what the code has read of a command line.
use Rattle.std.specs.Prelude.{ℕ, List, [], ◌∷◌, ◌++◌, drop, map, chars, string_bytes, encode_utf8}
use Rattle.std.specs.Prelude.{true, Option, Some, None, if◌then◌else◌}
use denote.Ref.{Bor}
use Rattle.ud_model.specs.answer.CommandLine.{ParsedArg as GivenInWords}
use Rattle.ud_args.specs.CommandLines.{Parsed, flag, option, operand, unknown, lacking, late}
use Rattle.ud_args.specs.CommandLines.{letters_then, ordinary_then, parsed_next, operands_from}
use Rattle.ud_args.specs.CommandLines.{ends_at_operand, as_arg}
use Rattle.ud_args.specs.declared.command_line.CommandLine.{CommandLine}
use Rattle.ud_args.specs.declared.command_line.ParsedArg.{ParsedArg}
use Rattle.ud_args.specs.declared.command_line.ParsedArg.TheVariants.{Flag, WithArgument, Operand}
use Rattle.ud_args.specs.declared.command_line.ParsedArg.TheVariants.{Unknown, MissingArgument}
use Rattle.ud_args.specs.declared.command_line.ParsedArg.TheVariants.{Late}

-- `as_parsed given`: the code's option or operand, as one of the definitions.
abbrev pub as_parsed : ParsedArg → Parsed
as_parsed (Flag letter) = flag letter
as_parsed (WithArgument letter word argument) = option letter word argument.now
as_parsed (Operand index name) = operand index name.now
as_parsed (Unknown letter) = unknown letter
as_parsed (MissingArgument letter) = lacking letter
as_parsed (Late index name) = late index name.now

-- `parsed given`: all of these, in order.
abbrev pub parsed : List ParsedArg → List Parsed
parsed given = map as_parsed given

-- `parsed_arg given`: the code's option or operand, in terms of unifdef(1).
abbrev pub parsed_arg : ParsedArg → GivenInWords
parsed_arg given = as_arg (as_parsed given)

-- `texts line`: the bytes of the words still to be read.
abbrev pub texts : CommandLine → List (List ℕ)
texts line = map string_bytes (drop line.read line.words.now)

-- `operands line`: each of those words as an operand.
abbrev pub operands : CommandLine → List Parsed
operands line = operands_from line.read (texts line)

-- `next_words line waits`: what those words give, if the option `waits` takes the first of them.
abbrev pub next_words : CommandLine → Option ℕ → List Parsed
next_words line waits =
    parsed_next line.program waits line.after_operand line.read (texts line)

-- `after_letters line letters`: what these letters of the last word read, and then the words after
-- it, give.
abbrev pub after_letters : CommandLine → List ℕ → List Parsed
after_letters line letters = letters_then line.program line.read letters
    (λ c. next_words line (Some c)) (next_words line None)

-- `ordinary_word line n w`: what the last word read, `w` with the index `n`, and then the words
-- after it give. `w` is neither `--` nor a long flag.
abbrev pub ordinary_word : CommandLine → ℕ → List ℕ → List Parsed
ordinary_word line n w = ordinary_then line.program line.after_operand n w
    (λ c. next_words line (Some c)) (next_words line None)
    (if ends_at_operand line.program then operands line
    else parsed_next line.program None true line.read (texts line))

-- `remaining line`: all options and operands still to be read.
abbrev pub remaining : CommandLine → List Parsed
remaining line =
    if line.only_operands then operands line else after_letters line (chars line.letters.now)

-- `remaining_args line`: all that is still to be read, in terms of unifdef(1).
abbrev pub remaining_args : CommandLine → List GivenInWords
remaining_args line = map as_arg (remaining line)

-- `parsed_then next`: the option or operand of the next call, if any, and all after it.
abbrev pub parsed_then : Option (ParsedArg × CommandLine) → List Parsed
parsed_then None = []
parsed_then (Some next) = as_parsed next.0 ∷ remaining next.1

-- `letters_of split`: the letters of a text split so.
abbrev pub letters_of : Option (ℕ × Bor (List ℕ)) → List ℕ
letters_of None = []
letters_of (Some split) = split.0 ∷ chars split.1.now

-- `bytes_of split`: the bytes of a text split so.
abbrev pub bytes_of : Option (ℕ × Bor (List ℕ)) → List ℕ
bytes_of None = []
bytes_of (Some split) = encode_utf8 split.0 ++ split.1.now
