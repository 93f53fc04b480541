-- Requests: what a command line asks for (unifdef-tree(1)).
--
--   task_of gs              the task
--   HasNoChange gs          no flag says how files are changed
--   AreFitting gs           the options are compatible
--   shows_diffs gs          the diffs of files are shown
--   decides gs              conditions are to be decided, or their names listed
--   IsArgumentsOf gs args   the arguments of a run
--   IsRequestOf gs r        the request
--   is_one_of letters c     a letter is one of some
--   IsFaultIn gs f          a fault of the command line
--
-- `gs` is what the words of the command line give, one option or path after another.
use Rattle.std.specs.Prelude.{◌≡◌, ◌⊎◌, ℕ, List, [], true, false, Some, None, map, string_bytes}
use Rattle.std.specs.Prelude.{codes, if◌then◌else◌, not, ◌&&◌, ◌||◌, ◌==◌, ◌∷◌, Bool}
use Rattle.std.specs.List.{list_any}
use Rattle.ud_model.specs.answer.CommandLine.{UsageFault, unknown_option, missing_argument}
use Rattle.ud_model.specs.answer.CommandLine.{bad_symbol_in, bad_mode_in, too_many_files}
use Rattle.ud_model.specs.answer.CommandLine as args
use Rattle.ud_args.specs.Plans.{PlanRepresents, with_unpadded}
use Rattle.ud_args.specs.CommandLines.{Parsed, unknown, lacking, late}
use Rattle.ud_args.specs.TreeWords.{first_fault, has_flag, has_symbols, unifdef_args, word_at}
use Rattle.ud_args.specs.TreeWords.{patterns_in, paths_in, symbol_names, first_relation}
use Rattle.ud_tree.specs.PatternFaults.{first_bad}
use Rattle.ud_tree.specs.declared.arguments.Task.{Task}
use Rattle.ud_tree.specs.declared.arguments.Task.TheVariants.{Replace, Diff, Names}
use Rattle.ud_tree.specs.declared.arguments.Arguments.{Arguments}
use Rattle.ud_tree.specs.declared.arguments.Request.{Request}
use Rattle.ud_tree.specs.declared.arguments.Request.TheVariants.{Help, Version, Run}
use Rattle.ud_tree.specs.declared.arguments.ArgumentFault.{ArgumentFault}
use Rattle.ud_tree.specs.declared.arguments.ArgumentFault.TheVariants.{UnknownOption}
use Rattle.ud_tree.specs.declared.arguments.ArgumentFault.TheVariants.{MissingArgument, BadSymbol}
use Rattle.ud_tree.specs.declared.arguments.ArgumentFault.TheVariants.{BadRelation, BadMode}
use Rattle.ud_tree.specs.declared.arguments.ArgumentFault.TheVariants.{BadPattern}
use Rattle.ud_tree.specs.declared.arguments.ArgumentFault.TheVariants.{BesideNames, SymbolsAndNames}
use Rattle.ud_tree.specs.declared.arguments.ArgumentFault.TheVariants.{PruningAndComplement}
use Rattle.ud_tree.specs.declared.arguments.ArgumentFault.TheVariants.{PruningAndPlain}
use Rattle.ud_tree.specs.declared.arguments.ArgumentFault.TheVariants.{SqueezingBeside}
use Rattle.ud_tree.specs.declared.arguments.ArgumentFault.TheVariants.{OptionAfterPath, NoPath}
use Rattle.ud_tree.specs.declared.arguments.ArgumentFault.TheVariants.{PathsAndInput, NoSymbol}
use Rattle.ud_tree.specs.declared.arguments.ArgumentFault.TheVariants.{OutOfMemory}

-- `task_of gs`: to show what would change with `-n`, to list names with `-s`, else to replace.
abbrev pub task_of : List Parsed → Task
task_of gs = if has_flag (codes "n") gs then Diff
    else if has_flag (codes "s") gs then Names else Replace

-- `HasNoChange gs`: no flag is given that says how files are changed, or how that is shown.
pub record HasNoChange (gs : List Parsed) : Type 0 where
  pub diff : has_flag (codes "n") gs ≡ false
  pub changes : has_flag (codes "d") gs ≡ false
  pub pruning : has_flag (codes "p") gs ≡ false
  pub squeezing : has_flag (codes "B") gs ≡ false
  pub into : has_flag (codes "w") gs ≡ false
  pub blank : has_flag (codes "b") gs ≡ false
  pub complement : has_flag (codes "c") gs ≡ false
  pub strict : has_flag (codes "K") gs ≡ false
  pub constants : has_flag (codes "k") gs ≡ false
  pub renumber : has_flag (codes "l") gs ≡ false

-- `LeavesLines gs`: no flag is given that blanks or numbers lines, nor `-c` or `-t`.
pub record LeavesLines (gs : List Parsed) : Type 0 where
  pub blank : has_flag (codes "b") gs ≡ false
  pub renumber : has_flag (codes "l") gs ≡ false
  pub complement : has_flag (codes "c") gs ≡ false
  pub plain : has_flag (codes "t") gs ≡ false

-- `AreFitting gs`: the options are compatible: `-s` with none that says how files are changed, nor
-- with one that names a symbol, `-p` with neither `-c` nor `-t`, and `-B` with none of `-b`, `-l`,
-- `-c` and `-t`.
pub record AreFitting (gs : List Parsed) : Type 0 where
  pub names : has_flag (codes "s") gs ≡ true → HasNoChange gs
  pub symbols : has_flag (codes "s") gs ≡ true → has_symbols gs ≡ false
  pub complement : has_flag (codes "p") gs ≡ true → has_flag (codes "c") gs ≡ false
  pub plain : has_flag (codes "p") gs ≡ true → has_flag (codes "t") gs ≡ false
  pub squeezing : has_flag (codes "B") gs ≡ true → LeavesLines gs

-- `decides gs`: an option names a symbol, or the flag `-k` or `-s` is given. Else nothing is asked
-- for.
abbrev pub decides : List Parsed → Bool
decides gs = has_symbols gs || has_flag (codes "k") gs || has_flag (codes "s") gs

-- `shows_diffs gs`: the diffs of files are shown.
abbrev pub shows_diffs : List Parsed → Bool
shows_diffs gs = has_flag (codes "n") gs || has_flag (codes "d") gs

-- `IsArgumentsOf gs args`: `args` has what is given: the options of unifdef(1), each other option,
-- the patterns and the paths. `-r` asks for the conditions that still name a symbol or, with `-s`,
-- for those whose names can't all be listed. With `-p`, no spaces replace the lost bytes of a
-- keyword. The options are compatible, and ask for something. No `-D` has a relation that gives no
-- least value, and no pattern has a fault. Either paths are given, or `-0`.
pub record IsArgumentsOf (gs : List Parsed) (args : Arguments) : Type 0 where
  pub fitting : AreFitting gs
  pub relations : first_relation gs ≡ None
  pub plan : PlanRepresents (with_unpadded false args.plan.run) (unifdef_args gs)
  pub prunes : args.plan.prunes ≡ has_flag (codes "p") gs
  pub unpadded : args.plan.run.settings.unpadded ≡ has_flag (codes "p") gs
  pub squeezes : args.plan.squeezes ≡ has_flag (codes "B") gs
  pub marks : args.plan.marks ≡ shows_diffs gs
  pub patterns : map string_bytes args.patterns.items ≡ patterns_in gs
  pub right_patterns : first_bad (patterns_in gs) ≡ None
  pub paths : map string_bytes args.paths.items ≡ paths_in gs
  pub task : args.task ≡ task_of gs
  pub write_into : args.write_into ≡ has_flag (codes "w") gs
  pub from_input : args.from_input ≡ has_flag (codes "0") gs
  pub quiet : args.quiet ≡ has_flag (codes "q") gs
  pub list_remaining : args.list_remaining ≡
      (has_flag (codes "r") gs && not (has_flag (codes "s") gs))
  pub list_hidden : args.list_hidden ≡ (has_flag (codes "r") gs && has_flag (codes "s") gs)
  pub show_changes : args.show_changes ≡ has_flag (codes "d") gs
  pub has_symbols : args.has_symbols ≡ has_symbols gs
  pub symbols : map (λ n. n.items) args.names.items ≡ symbol_names gs
  pub asks : decides gs ≡ true
  pub no_path : has_flag (codes "0") gs ≡ true → paths_in gs ≡ []
  pub some_path : has_flag (codes "0") gs ≡ false → ¬ (paths_in gs ≡ [])

-- `IsRequestOf gs r`: the words have no fault, and `r` is what they ask for: help with `-h`, the
-- version with `-V`, else a run.
abbrev pub IsRequestOf : List Parsed → Request → Type 0
IsRequestOf gs Help = (first_fault gs ≡ None) × (has_flag (codes "h") gs ≡ true)
IsRequestOf gs Version = (first_fault gs ≡ None) × (has_flag (codes "h") gs ≡ false) ×
    (has_flag (codes "V") gs ≡ true)
IsRequestOf gs (Run args) = (first_fault gs ≡ None) × (has_flag (codes "h") gs ≡ false) ×
    (has_flag (codes "V") gs ≡ false) × IsArgumentsOf gs args

-- `AreGiven a b gs`: the flags `a` and `b` are given.
abbrev pub AreGiven : List ℕ → List ℕ → List Parsed → Type 0
AreGiven a b gs = (has_flag a gs ≡ true) × (has_flag b gs ≡ true)

-- `is_one_of letters c`: `c` is one of these letters.
abbrev pub is_one_of : List ℕ → ℕ → Bool
is_one_of letters c = list_any (λ l. l == c) letters

-- `HasUsage gs f`: the options of unifdef(1) have the fault `f`.
abbrev pub HasUsage : List Parsed → UsageFault → Type 0
HasUsage gs f = args.first_fault (unifdef_args gs) ≡ Some f

-- `IsBadWord fault gs w`: the options of unifdef(1) have a fault in the argument of the option `w`.
abbrev pub IsBadWord : (ℕ → UsageFault) → List Parsed → List ℕ → Type 0
IsBadWord fault gs w = (n : ℕ) × HasUsage gs (fault n) × (w ≡ word_at n gs)

-- `IsFaultIn gs f`: `f` is the first fault of the words. Or it is a fault of two incompatible
-- options, of the first `-D` with a relation that gives no least value, of the options of
-- unifdef(1), of the first pattern that has one, or of the paths. Or nothing is asked for, or
-- memory ran out.
abbrev pub IsFaultIn : List Parsed → ArgumentFault → Type 0
IsFaultIn gs (UnknownOption c) = (first_fault gs ≡ Some (unknown c)) ⊎
    HasUsage gs (unknown_option c)
IsFaultIn gs (MissingArgument c) = (first_fault gs ≡ Some (lacking c)) ⊎
    HasUsage gs (missing_argument c)
IsFaultIn gs (BadSymbol w) = IsBadWord bad_symbol_in gs (string_bytes w)
IsFaultIn gs (BadRelation w) = first_relation gs ≡ Some (string_bytes w)
IsFaultIn gs (BadMode w) = IsBadWord bad_mode_in gs (string_bytes w)
IsFaultIn gs (BadPattern w f) =
    first_bad (patterns_in gs) ≡ Some (record { text = string_bytes w; fault = f })
IsFaultIn gs (BesideNames c) = (is_one_of (codes "ndpBwbcKkl") c ≡ true) ×
    AreGiven (c ∷ []) (codes "s") gs
IsFaultIn gs SymbolsAndNames = (has_symbols gs ≡ true) × (has_flag (codes "s") gs ≡ true)
IsFaultIn gs PruningAndComplement = AreGiven (codes "p") (codes "c") gs
IsFaultIn gs PruningAndPlain = AreGiven (codes "p") (codes "t") gs
IsFaultIn gs (SqueezingBeside c) = (is_one_of (codes "blct") c ≡ true) ×
    AreGiven (codes "B") (c ∷ []) gs
IsFaultIn gs (OptionAfterPath w) = (n : ℕ) × (first_fault gs ≡ Some (late n (string_bytes w)))
IsFaultIn gs PathsAndInput = (has_flag (codes "0") gs ≡ true) × ¬ (paths_in gs ≡ [])
IsFaultIn gs NoPath = ((has_flag (codes "0") gs ≡ false) × (paths_in gs ≡ [])) ⊎
    HasUsage gs too_many_files
IsFaultIn gs NoSymbol = decides gs ≡ false
IsFaultIn gs OutOfMemory = Unit {0}
