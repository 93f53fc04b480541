-- Remainders: where outputs still mention a symbol of the options: conditions that name one, lines
-- that define one, and words after an `#else` or `#endif`.
--
--   listing_of args   whether these mentions are counted, listed or explained
--   mode_of args      the mode in which the lines of an output are read
--   is_searched args  they are listed or counted
--   AddsMentions args name output old new   those of an output were counted, and listed
--   Finds args name output old new   those of an output were added to a report
--   list_of table listing args outputs   the list of them in some outputs
--   count_of table args outputs   how many conditions there are in some outputs
--   defined_of table args outputs   how many lines that define a symbol
--   has_condition table args text name   a condition of the text names the symbol `name`
--   is_named_in table args texts name   so does a condition of some text
--   unnamed_in table args texts   the names of the symbols that no condition has
--   AddsOutputs table args outputs old new   those of some outputs were counted, and listed
--   FindsAll args texts outputs old new   those of some files were added to a report
--
-- The texts are those that were read, the outputs those for them.
--
-- Example: under `-r` and `-p` there is a line for each condition, with the reason why it stays.
use Rattle.std.specs.Prelude.{◌≡◌, ℕ, ◌+◌, ◌<◌, ◌^◌, List, ◌++◌, sum_by, filter, map}
use Rattle.std.specs.List.{flat_map, list_any}
use Rattle.std.specs.Prelude.{Bool, true, false, not, ◌&&◌, ◌||◌, if◌then◌else◌}
use Rattle.ud_model.specs.conditions.Table.{Argument}
use Rattle.ud_model.specs.sections.Items.{mode_by}
use Rattle.ud_model.specs.declared.kind.Mode.{Mode}
use Rattle.ud_cond.specs.symbols.Marks.{Unmarks}
use Rattle.ud_cond.specs.symbols.SymbolTable.{TableRepresents}
use Rattle.ud_cond.specs.declared.conditions.Rules.{Rules}
use Rattle.ud_passes.specs.declared.remaining.listing.Listing.{Listing}
use Rattle.ud_passes.specs.declared.remaining.listing.Listing.TheVariants.{Counted, Listed}
use Rattle.ud_passes.specs.declared.remaining.listing.Listing.TheVariants.{Explained}
use Rattle.ud_passes.specs.remaining.RemainingLists.{AddsAll, RemainingState}
use Rattle.ud_passes.specs.remaining.RemainingLists.{remaining_text, remaining_count}
use Rattle.ud_passes.specs.remaining.RemainingLists.{defined_count, is_named}
use Rattle.ud_tree.specs.declared.arguments.Arguments.{Arguments}
use Rattle.ud_tree.specs.Reports.{ReportState}
use Rattle.ud_tree.specs.Runs.{Output}

-- `rules_of args`: the options for expressions.
abbrev pub rules_of : Arguments → Rules
rules_of args = record {
  constants = args.plan.run.settings.constants;
  strict = args.plan.run.settings.strict;
}

-- `listing_of args`: conditions and definitions are counted, and under `-r` there is a line for
-- each mention. Under `-p` the line of a condition says why it stays.
abbrev pub listing_of : Arguments → Listing
listing_of args =
    if args.list_remaining then (if args.plan.prunes then Explained (rules_of args) else Listed)
    else Counted

-- `mode_of args`: the mode in which the lines of an output are read.
abbrev pub mode_of : Arguments → Mode
mode_of args = mode_by args.plan.run.settings.plain

-- `is_searched args`: some option names a symbol, and its mentions are listed or counted.
abbrev pub is_searched : Arguments → Bool
is_searched args = args.has_symbols && (args.list_remaining || not args.quiet)

-- `AddsMentions args name output old new`: the mentions in the output for the file `name` were
-- counted, and listed.
abbrev pub AddsMentions : Arguments → List ℕ → List ℕ → RemainingState → RemainingState → Type 0
AddsMentions args name output old new = (calls : List Argument) →
    TableRepresents args.plan.run.symbols calls →
    AddsAll calls (mode_of args) name output old new

-- `Finds args name output old new`: the mentions in the output for the file `name` were added to
-- the report, if they are wanted. If memory ran out, for this output or an earlier one, the report
-- records that.
pub record Finds (args : Arguments) (name output : List ℕ) (old new : ReportState) : Type 0 where
  pub kept : old.lacks_memory ≡ true → new.lacks_memory ≡ true
  pub added : new.lacks_memory ≡ false → is_searched args ≡ true →
      AddsMentions args name output old.remaining new.remaining
  pub same : is_searched args ≡ false → new.remaining ≡ old.remaining
  pub unnamed : new.unnamed ≡ old.unnamed

module _ (table : List Argument) where
  -- `list_of listing args outputs`: the list of what the outputs say, in order.
  abbrev pub list_of : Listing → Arguments → List Output → List ℕ
  list_of listing args outputs = flat_map
      (λ o. remaining_text table listing (mode_of args) o.name o.bytes) outputs

  -- `count_of args outputs`: how many conditions of the outputs name a listed symbol.
  abbrev pub count_of : Arguments → List Output → ℕ
  count_of args outputs =
      sum_by (λ o. remaining_count table (mode_of args) o.bytes) outputs

  -- `defined_of args outputs`: how many lines of the outputs define a listed symbol.
  abbrev pub defined_of : Arguments → List Output → ℕ
  defined_of args outputs =
      sum_by (λ o. defined_count table (mode_of args) o.bytes) outputs

  -- `has_condition args text name`: a condition of the text that names a symbol has the word
  -- `name`.
  abbrev pub has_condition : Arguments → List ℕ → List ℕ → Bool
  has_condition args text name = is_named table (mode_of args) text name

  -- `is_named_in args texts name`: so does a condition of some text.
  abbrev pub is_named_in : Arguments → List (List ℕ) → List ℕ → Bool
  is_named_in args texts name = list_any (λ t. has_condition args t name) texts

  -- `unnamed_in args texts`: the names of the symbols that no condition of the texts has. None if
  -- the run is quiet, which doesn't look for them.
  abbrev pub unnamed_in : Arguments → List (List ℕ) → List (List ℕ)
  unnamed_in args texts = filter (λ n. not args.quiet && not (is_named_in args texts n))
      (map (λ n. n.items) args.names.items)

-- `AddsOutputs table args outputs old new`: what the outputs say of a listed symbol was listed.
-- Conditions and definitions were counted, unless their count is at its limit.
pub record AddsOutputs (table : List Argument) (args : Arguments) (outputs : List Output)
    (old new : RemainingState) : Type 0 where
  pub list_is : new.list ≡ old.list ++ list_of table old.listing args outputs
  pub count_is : old.count + count_of table args outputs < 2 ^ 64 →
      new.count ≡ old.count + count_of table args outputs
  pub defined_is : old.defined + defined_of table args outputs < 2 ^ 64 →
      new.defined ≡ old.defined + defined_of table args outputs
  pub listing_is : new.listing ≡ old.listing

-- `FindsAll args texts outputs old new`: the mentions in the outputs were added to the report, if
-- they are wanted. The rows whose names a condition of the texts has lost their marks, and no other
-- row. If memory ran out, the report records that.
pub record FindsAll (args : Arguments) (texts : List (List ℕ)) (outputs : List Output)
    (old new : ReportState) : Type 0 where
  pub kept : old.lacks_memory ≡ true → new.lacks_memory ≡ true
  pub added : new.lacks_memory ≡ false → is_searched args ≡ true → (calls : List Argument) →
      TableRepresents args.plan.run.symbols calls →
      AddsOutputs calls args outputs old.remaining new.remaining
  pub same : is_searched args ≡ false → new.remaining ≡ old.remaining
  pub unnamed : new.lacks_memory ≡ false → (calls : List Argument) →
      TableRepresents args.plan.run.symbols calls →
      Unmarks args.plan.run.symbols (is_named_in calls args texts) old.unnamed new.unnamed
