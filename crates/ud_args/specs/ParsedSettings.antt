-- ParsedSettings: the code's settings and faults of options and operands.
use Rattle.std.specs.Prelude.{◌≡◌, ℕ, List, [], ◌∷◌, false, ◌||◌, Option, Some, None, option_map}
use Rattle.std.specs.Prelude.{codes, if◌then◌else◌}
use Rattle.ud_model.specs.conditions.Table.{Argument}
use Rattle.ud_model.specs.declared.settings.Settings.{Settings}
use Rattle.ud_model.specs.declared.settings.Listing.{Listing}
use Rattle.ud_model.specs.declared.settings.Listing.TheVariants.{Off, Names, Depths}
use Rattle.ud_model.specs.answer.CommandLine.{flag, option, operand, has_letter, parse_symbol}
use Rattle.ud_model.specs.answer.CommandLine.{parse_exit_mode, first_fault, UsageFault}
use Rattle.ud_model.specs.answer.CommandLine.{unknown_option, missing_argument, bad_symbol_in}
use Rattle.ud_model.specs.answer.CommandLine.{bad_mode_in, too_many_files}
use Rattle.ud_model.specs.answer.CommandLine.{ParsedArg as GivenInWords}
use Rattle.ud_args.specs.SymbolStorage.{StoresSymbol}
use Rattle.ud_args.specs.declared.options.Symbol.{Symbol}
use Rattle.ud_args.specs.declared.options.Setting.{Setting}
use Rattle.ud_args.specs.declared.options.Setting.TheVariants as said
use Rattle.ud_args.specs.declared.usage.Usage.{Usage}
use Rattle.ud_args.specs.declared.usage.Usage.TheVariants.{UnknownOption, MissingArgument}
use Rattle.ud_args.specs.declared.usage.Usage.TheVariants.{BadSymbol, BadMode, TooManyFiles}
use Rattle.ud_args.specs.declared.usage.Usage.TheVariants.{OutOfMemory}

-- `as_argument s`: the code's symbol, as one of the definitions.
abbrev pub as_argument : Symbol → Argument
as_argument s = record {
  name = s.name.now;
  entry =
      record { value = option_map (λ v. v.now) s.value; ignoring = s.ignoring };
}

-- `SetsSymbol g s`: `g` is a valid option that defines or undefines a symbol as `s` does.
pub record SetsSymbol (g : GivenInWords) (s : Argument) : Type 0 where
  pub letter : ℕ
  pub word : ℕ
  pub argument : List ℕ
  pub is : g ≡ option letter word argument
  pub other : has_letter (codes "x") letter ≡ false
  pub sets : parse_symbol letter argument ≡ Some s

-- `IsSetting g said`: the option or operand `g` is valid, and `said` is its setting.
abbrev pub IsSetting : GivenInWords → Setting → Type 0
IsSetting g (said.Flag letter) = g ≡ flag letter
IsSetting g (said.Mode mode) = (word : ℕ) × (argument : List ℕ) × (g ≡ option 120 word argument) ×
    (parse_exit_mode argument ≡ Some mode)
IsSetting g (said.Symbol s) = SetsSymbol g (as_argument s)
IsSetting g (said.Operand index name) = g ≡ operand index name.now

-- `IsFaultOf fault u`: the code's fault `u` is this fault of the command line; a lack of memory
-- isn't one.
abbrev pub IsFaultOf : Option UsageFault → Usage → Type 0
IsFaultOf fault (UnknownOption letter) = fault ≡ Some (unknown_option letter)
IsFaultOf fault (MissingArgument letter) = fault ≡ Some (missing_argument letter)
IsFaultOf fault (BadSymbol word) = fault ≡ Some (bad_symbol_in word)
IsFaultOf fault (BadMode word) = fault ≡ Some (bad_mode_in word)
IsFaultOf fault TooManyFiles = fault ≡ Some too_many_files
IsFaultOf fault OutOfMemory = ⊥

-- `IsUsageOf gs u`: the code's fault `u` is the first one of `gs`; or an allocation failed, which
-- only happens when a symbol is added to the table.
abbrev pub IsUsageOf : List GivenInWords → Usage → Type 0
IsUsageOf gs OutOfMemory = StoresSymbol gs
IsUsageOf gs u = IsFaultOf (first_fault gs) u

-- `with_names l`: the listing after one more `-s`.
abbrev pub with_names : Listing → Listing
with_names Off = Names
with_names Names = Names
with_names Depths = Depths

-- `listing_with l c`: the listing `l` with the flag `c` added.
abbrev pub listing_with : Listing → ℕ → Listing
listing_with l c =
    if has_letter (codes "S") c then Depths
    else if has_letter (codes "s") c then with_names l
    else l

-- `with_flag s c`: the settings with the flag `c` added.
abbrev pub with_flag : Settings → ℕ → Settings
with_flag s c = record {
  plain = has_letter (codes "t") c || s.plain;
  constants = has_letter (codes "k") c || s.constants;
  strict = has_letter (codes "K") c || s.strict;
  blank = has_letter (codes "bl") c || s.blank;
  complement = has_letter (codes "c") c || s.complement;
  renumber = has_letter (codes "n") c || s.renumber;
  unpadded = s.unpadded;
  listing = listing_with s.listing c;
  exit_mode = s.exit_mode;
}

-- `after_first bytes`: the bytes after the first one, if there is a first one.
abbrev pub after_first : List ℕ → Option (List ℕ)
after_first [] = None
after_first (b ∷ bs) = Some bs
