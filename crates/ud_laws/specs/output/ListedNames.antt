-- ListedNames: the symbols that count for a text, by the list of its names.
-- unifdef(1), `-s`.
--
-- Example: of `#if A > 2` the list is `A`; under `-DA=B` A leads to A and to B.
use Rattle.std.specs.Prelude.{◌≡◌, ◌≢◌, ℕ, List, [], ◌∷◌, ◌++◌, true, false, Some, None, codes}
use Rattle.ud_model.specs.text.Bytes.{newline, is_identifier}
use Rattle.ud_model.specs.text.Lines.{partial_line}
use Rattle.ud_model.specs.conditions.Table.{Argument, Entry, entry_in}
use Rattle.ud_model.specs.conditions.Symbols.{defined_text}
use Rattle.ud_model.specs.sections.Items.{Options}
use Rattle.ud_model.specs.answer.CommandLine.{has_flag, parsed_args, usage_fault, options_of}
use Rattle.ud_model.specs.answer.Answer.{Answer}
use Rattle.ud_laws.specs.answer.Successes.{Succeeds}
use Rattle.ud_model.specs.laws.Rereading.{NoneIgnores}
use Rattle.ud_model.specs.declared.settings.Settings.{Settings}
use Rattle.ud_model.specs.declared.settings.Listing.TheVariants.{Names}

-- `listing_settings s`: the settings `s` with `-s`.
abbrev pub listing_settings : Settings → Settings
listing_settings s = record s { listing = Names }

-- `with_listing o`: the options `o` with `-s`.
abbrev pub with_listing : Options → Options
with_listing o = record { settings = listing_settings o.settings; table = o.table }

-- `IsListed n list`: `n` is a line of `list`, with whole lines before it and a newline after it.
abbrev pub IsListed : List ℕ → List ℕ → Type 0
IsListed n list = (before : List ℕ) × (later : List ℕ) × (partial_line before ≡ []) ×
    (list ≡ before ++ n ++ newline ∷ later)

-- `LeadsTo table n m`: `m` is `n`, or the value of `n` is a name that leads to `m`.
pub data LeadsTo (table : List Argument) : List ℕ → List ℕ → Type 0 where
  itself : (n : List ℕ) → LeadsTo table n n
  by_value : (n v m : List ℕ) → defined_text table n ≡ Some v → is_identifier v ≡ true →
      LeadsTo table v m → LeadsTo table n m

-- `AgreeOnListed list t u`: the tables have the same entry for each listed name, and for each name
-- that it leads to.
abbrev pub AgreeOnListed : List ℕ → List Argument → List Argument → Type 0
AgreeOnListed list t u = (n m : List ℕ) → IsListed n list → LeadsTo t n m →
    entry_in t m ≡ entry_in u m

-- `AreAlikeBy list o p`: the options have the same settings, and agree on each listed name.
pub record AreAlikeBy (list : List ℕ) (o p : Options) : Type 0 where
  pub settings : p.settings ≡ o.settings
  pub entries : AgreeOnListed list o.table p.table

-- `AreAlikeArgs list args more`: the arguments `more` have no fault, and their options are alike by
-- the list.
pub record AreAlikeArgs (list : List ℕ) (args more : List (List ℕ)) : Type 0 where
  pub no_fault : usage_fault more ≡ None
  pub alike : AreAlikeBy list (options_of args) (options_of more)

-- `ServesAsLister q o`: `q` has the settings of `o` with `-s`, and any symbols. Neither `q` nor `o`
-- makes sections plain text.
pub record ServesAsLister (q o : Options) : Type 0 where
  pub settings : q.settings ≡ listing_settings o.settings
  pub lister : NoneIgnores q.table
  pub listed : NoneIgnores o.table

-- `ListsNames args input l`: `args` have no `-S`, and `l` is the answer to them and `-s`, a list of
-- the names of the input.
pub record ListsNames (args : List (List ℕ)) (input : List ℕ) (l : Answer) : Type 0 where
  pub no_depths : has_flag (codes "S") (parsed_args args) ≡ false
  pub lists : Succeeds (codes "-s" ∷ args) input l

-- `IsNoValue table name`: no symbol has the value `name`.
abbrev pub IsNoValue : List Argument → List ℕ → Type 0
IsNoValue table name = (n : List ℕ) → defined_text table n ≢ Some name

-- `DifferAtMostAt name t u`: the tables have the same entry for every name but `name`.
abbrev pub DifferAtMostAt : List ℕ → List Argument → List Argument → Type 0
DifferAtMostAt name t u = (n : List ℕ) → n ≢ name → entry_in t n ≡ entry_in u n

-- `ExtendsTable t u`: `u` has the same entry as `t` for each name that `t` lists.
abbrev pub ExtendsTable : List Argument → List Argument → Type 0
ExtendsTable t u = (n : List ℕ) → (e : Entry) → entry_in t n ≡ Some e → entry_in u n ≡ Some e

-- `NeverCounts args input name`: `name` isn't on the list of the input's names, and no symbol of
-- the arguments has the value `name`.
pub record NeverCounts (args : List (List ℕ)) (input name : List ℕ) : Type 0 where
  pub list : Answer
  pub lists : ListsNames args input list
  pub unlisted : IsListed name list.output → ⊥
  pub no_value : IsNoValue (options_of args).table name
