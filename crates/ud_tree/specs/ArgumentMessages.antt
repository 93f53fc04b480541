-- ArgumentMessages: the messages of faults of the arguments.
--
--   in_its_place c           what to use instead of the option `c` of unifdef(1), version 2.12
--   mode_of word             the exit mode in an argument of `-x`
--   symbol_in word           the name of a symbol in an option as one word
--   pattern_advice f text    what to write in place of the argument `text` of `-g`
--   argument_message f       the message of the fault `f`
--   bad_argument_line word   the line of an argument that isn't UTF-8
--   memory_line              the line of a lack of memory
--   RefusesArgument word old new   either line was written
--   IsCut text reason        `reason` is the text of an error of the system without its number
--
-- Example: of `-m` the line is `unifdef-tree: Unknown option -m: files are changed in place without
-- it`, and the usage follows.
use Rattle.std.specs.Prelude.{◌≡◌, ◌⊎◌, ℕ, ◌==◌, ◌≤◌, ◌<◌, List, [], ◌++◌, drop, take, length}
use Rattle.std.specs.Prelude.{codes, nat_eq, string_bytes, encode_utf8, if◌then◌else◌}
use Rattle.std.specs.List.{starts_with}
use Rattle.ud_model.specs.text.Bytes.{leading_word}
use Rattle.ud_io.specs.Streams.{Stream, Sends}
use Rattle.ud_tree.specs.declared.arguments.ArgumentFault.{ArgumentFault}
use Rattle.ud_tree.specs.declared.arguments.ArgumentFault.TheVariants.{UnknownOption}
use Rattle.ud_tree.specs.declared.arguments.ArgumentFault.TheVariants.{MissingArgument, BadSymbol}
use Rattle.ud_tree.specs.declared.arguments.ArgumentFault.TheVariants.{BadRelation, BadMode}
use Rattle.ud_tree.specs.declared.arguments.ArgumentFault.TheVariants.{BadPattern}
use Rattle.ud_tree.specs.declared.arguments.ArgumentFault.TheVariants.{BesideNames, SymbolsAndNames}
use Rattle.ud_tree.specs.declared.arguments.ArgumentFault.TheVariants.{PruningAndComplement}
use Rattle.ud_tree.specs.declared.arguments.ArgumentFault.TheVariants.{PruningAndPlain}
use Rattle.ud_tree.specs.declared.arguments.ArgumentFault.TheVariants.{SqueezingBeside}
use Rattle.ud_tree.specs.declared.arguments.ArgumentFault.TheVariants.{OptionAfterPath, NoPath}
use Rattle.ud_tree.specs.declared.arguments.ArgumentFault.TheVariants.{PathsAndInput, NoSymbol}
use Rattle.ud_tree.specs.declared.arguments.ArgumentFault.TheVariants.{OutOfMemory}
use Rattle.ud_tree.specs.declared.patterns.faults.PatternFault.{PatternFault}
use Rattle.ud_tree.specs.declared.patterns.faults.PatternFault.TheVariants.{Empty, Anchored}
use Rattle.ud_tree.specs.declared.patterns.faults.PatternFault.TheVariants.{DoubleStar, SlashAtEnd}
use Rattle.ud_tree.specs.declared.report.TheConstants.{USAGE}
use Rattle.ud_tree.specs.Choices.{after_sign}
use Rattle.ud_tree.specs.Paths.{escaped}
use Rattle.ud_tree.specs.PatternFaults.{bare, sign_of}
use Rattle.ud_tree.specs.Summaries.{line_of}

-- `in_its_place c`: what to use instead of the option with the letter `c` of unifdef(1), version
-- 2.12, if that isn't one here, or of a long option, whose letter is `-`. Nothing for any other.
abbrev pub in_its_place : ℕ → List ℕ
in_its_place c =
    if c == 101 then codes ": what can't be edited is left as it is, and named"
    else if c == 102 then codes ": each symbol is an option -D or -U"
    else if c == 73 then codes ": included files are not read"
    else if c == 77 then codes ": -d prints a diff with which patch -R undoes the run"
    else if c == 109 then codes ": files are changed in place without it"
    else if c == 111 then codes ": files are changed in place; unifdef writes to its output"
    else if c == 83 then codes ": -s lists the symbols with their numbers"
    else if c == 45 then codes ": each option is one letter; -n shows what would change"
    else []

-- `mode_of word`: the exit mode in an argument of `-x`, which may have the option before it.
abbrev pub mode_of : List ℕ → List ℕ
mode_of word = if starts_with nat_eq word (codes "-x") then drop 2 word else word

-- `symbol_in word`: the word bytes after an option's letter, which name a symbol.
abbrev pub symbol_in : List ℕ → List ℕ
symbol_in word = leading_word (drop 2 word)

-- `relation_advice word`: what follows the option `word` in the message that it has a relation that
-- gives no least value.
abbrev pub relation_advice : List ℕ → List ℕ
relation_advice word =
    codes "; only a least number is taken: write -D'" ++ symbol_in word ++ codes ">=N'"

-- `pattern_advice fault text`: what follows the argument `text` of `-g` in the message that it has
-- this fault: what to write in its place.
abbrev pub pattern_advice : PatternFault → List ℕ → List ℕ
pattern_advice Empty text = codes "; no name is empty: write * for all names"
pattern_advice Anchored text = codes "; patterns are matched below each path: write " ++
    sign_of text ++ bare (after_sign text)
pattern_advice DoubleStar text = codes "; write * for **, or a name alone for any directory"
pattern_advice SlashAtEnd text =
    codes "; only ! takes a slash at the end: write " ++ text ++ codes "*"

-- `argument_message f`: the message of the fault `f`. The usage follows where it helps.
abbrev pub argument_message : ArgumentFault → List ℕ
argument_message (UnknownOption c) =
    line_of (codes "Unknown option -" ++ encode_utf8 c ++ in_its_place c) ++ USAGE.now
argument_message (MissingArgument c) =
    line_of (codes "Option -" ++ encode_utf8 c ++ codes " needs an argument")
argument_message (BadSymbol word) = line_of (codes "Bad symbol: " ++ string_bytes word)
argument_message (BadRelation word) = line_of (codes "Bad symbol: " ++ string_bytes word ++
    relation_advice (string_bytes word))
argument_message (BadMode word) =
    line_of (codes "Bad exit mode: " ++ mode_of (string_bytes word))
argument_message (BadPattern word f) = line_of (codes "Bad pattern: " ++ string_bytes word ++
    pattern_advice f (string_bytes word))
argument_message (BesideNames c) =
    line_of (codes "-" ++ encode_utf8 c ++ codes " and -s don't go together")
argument_message SymbolsAndNames =
    line_of (codes "Symbols and -s don't go together: it lists all names")
argument_message PruningAndComplement =
    line_of (codes "-p and -c don't go together: the complement is no C")
argument_message PruningAndPlain =
    line_of (codes "-p and -t don't go together: plain text has no comments")
argument_message (SqueezingBeside c) =
    line_of (codes "-B and -" ++ encode_utf8 c ++ codes " don't go together")
argument_message (OptionAfterPath word) =
    line_of (codes "Option after a path: " ++ string_bytes word)
argument_message PathsAndInput = line_of (codes "-0 takes no paths")
argument_message NoPath = line_of (codes "No path") ++ USAGE.now
argument_message NoSymbol =
    line_of (codes "No symbol; -k decides constants alone, -s lists names") ++ USAGE.now
argument_message OutOfMemory = line_of (codes "Out of memory")

-- `bad_argument_line word`: the line of an argument that isn't UTF-8, with its bytes shown.
abbrev pub bad_argument_line : List ℕ → List ℕ
bad_argument_line word =
    line_of (escaped word ++ codes ": Argument isn't UTF-8; name its directory")

-- `memory_line`: the line that says that memory couldn't be allocated.
abbrev pub memory_line : List ℕ
memory_line = line_of (codes "Out of memory")

-- `RefusesArgument word old new`: the line of the argument was written; or, if memory for it
-- couldn't be allocated, the line that says so.
abbrev pub RefusesArgument : List ℕ → Stream → Stream → Type 0
RefusesArgument word old new = Sends old new (bad_argument_line word) ⊎ Sends old new memory_line

-- `number_sign`: what comes before the number of an error of the system.
abbrev pub number_sign : List ℕ
number_sign = codes " (os error "

-- `HasSign text at`: the sign is in the text at this place, before a number.
abbrev pub HasSign : List ℕ → ℕ → Type 0
HasSign text at = (number : List ℕ) × (drop at text ≡ number_sign ++ number)

-- `IsCut text reason`: `reason` is the text up to the last sign of a number; all of it if it has
-- none.
pub data IsCut (text reason : List ℕ) : Type 0 where
  cut : (at : ℕ) → HasSign text at →
      ((later : ℕ) → at < later → later ≤ length text → ¬ (HasSign text later)) →
      reason ≡ take at text → IsCut text reason
  whole : ((at : ℕ) → at ≤ length text → ¬ (HasSign text at)) → reason ≡ text → IsCut text reason
