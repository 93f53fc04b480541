-- RemainingLists: the list of the mentions of a text that name a symbol of the options.
--
-- Example: if the table lists A, the list of `x.c` with the lines `int x;`, `#if A + X` and `#endif
-- // A` has the line `x.c:2: #if A + X`, or with reasons `x.c:2: an operand is unknown: #if A + X`.
-- Then comes `x.c:3: a comment names it: #endif // A`.
use Rattle.std.specs.Prelude.{◌≡◌, ℕ, ◌+◌, ◌<◌, ◌^◌, List, [], ◌∷◌, ◌++◌, length, Bool, true, false}
use Rattle.std.specs.Prelude.{filter, ◌&&◌, bytes_eq}
use Rattle.std.specs.List.{flat_map, list_any}
use Rattle.ud_model.specs.text.Bytes.{newline}
use Rattle.ud_model.specs.conditions.Table.{Argument}
use Rattle.ud_model.specs.declared.kind.Mode.{Mode}
use Rattle.ud_cond.specs.symbols.Marks.{Unmarks}
use Rattle.ud_passes.specs.Passes.{place_at}
use Rattle.ud_passes.specs.remaining.Mentions.{Mention, mentions_of}
use Rattle.ud_passes.specs.remaining.ListedNames.{has_word, names_listed}
use Rattle.ud_passes.specs.remaining.Reasons.{reason_of, reason_text}
use Rattle.ud_passes.specs.declared.remaining.listing.Listing.{Listing}
use Rattle.ud_passes.specs.declared.remaining.listing.Listing.TheVariants.{Counted}
use Rattle.ud_passes.specs.declared.remaining.mentions.Class.{Class}
use Rattle.ud_passes.specs.declared.remaining.mentions.Class.TheVariants.{Condition, Definition}

-- `is_condition class`: a mention of this class is a condition.
abbrev pub is_condition : Class → Bool
is_condition (Condition kind) = true
is_condition class = false

-- `is_defining class`: a mention of this class is a definition.
abbrev pub is_defining : Class → Bool
is_defining Definition = true
is_defining class = false

-- `has_name name class after`: a mention of this class is a condition, and `name` is a word of its
-- text `after`.
abbrev pub has_name : List ℕ → Class → List ℕ → Bool
has_name name class after = is_condition class && has_word (bytes_eq name) false after

module _ (table : List Argument) where
  -- `line_of listing name m`: the line for the mention `m` of the file `name`, if it is listed.
  abbrev pub line_of : Listing → List ℕ → Mention → List ℕ
  line_of Counted name m = []
  line_of listing name m = place_at name m.number ++ reason_text (reason_of table listing m) ++
      m.body ++ newline ∷ []

  -- `lines_for listing name ms`: the lines for the mentions that name a listed symbol.
  abbrev pub lines_for : Listing → List ℕ → List Mention → List ℕ
  lines_for listing name ms = flat_map (line_of listing name) (filter (names_listed table) ms)

  -- `named_count ms`: the number of mentions that are conditions and name a listed symbol.
  abbrev pub named_count : List Mention → ℕ
  named_count ms = length (filter (λ m. is_condition m.class && names_listed table m) ms)

  -- `remaining_text listing mode name bytes`: the list of the text of the file `name`.
  abbrev pub remaining_text : Listing → Mode → List ℕ → List ℕ → List ℕ
  remaining_text listing mode name bytes = lines_for listing name (mentions_of table mode bytes)

  -- `remaining_count mode bytes`: the number of conditions of the text that name a listed symbol.
  abbrev pub remaining_count : Mode → List ℕ → ℕ
  remaining_count mode bytes = named_count (mentions_of table mode bytes)

  -- `named_by ms name`: a condition among the mentions that names a listed symbol has the word
  -- `name`.
  abbrev pub named_by : List Mention → List ℕ → Bool
  named_by ms name = list_any (λ m. has_name name m.class m.after) (filter (names_listed table) ms)

  -- `is_named mode bytes name`: such a condition of the text has the word `name`.
  abbrev pub is_named : Mode → List ℕ → List ℕ → Bool
  is_named mode bytes name = named_by (mentions_of table mode bytes) name

  -- `LeavesUnnamed mode bytes rows old new`: of the rows with the marks `old`, those whose name no
  -- such condition has stay marked.
  abbrev pub LeavesUnnamed : Mode → List ℕ → List Argument → List Bool → List Bool → Type 0
  LeavesUnnamed mode bytes rows old new = Unmarks rows (is_named mode bytes) old new

-- `defining_count ms`: the number of mentions that are definitions.
abbrev pub defining_count : List Mention → ℕ
defining_count ms = length (filter (λ m. is_defining m.class) ms)

-- `defined_count table mode bytes`: the number of lines of the text that define a listed symbol.
abbrev pub defined_count : List Argument → Mode → List ℕ → ℕ
defined_count table mode bytes = defining_count (mentions_of table mode bytes)

-- The numbers of conditions and definitions in some texts, and the list.
pub record RemainingState : Type 0 where
  pub listing : Listing
  pub count : ℕ
  pub defined : ℕ
  pub list : List ℕ

-- `AddsAll table mode name text old new`: the mentions of the text of the file `name` that name a
-- listed symbol were listed. Conditions and definitions were counted, unless their count is at its
-- limit.
pub record AddsAll (table : List Argument) (mode : Mode) (name text : List ℕ)
    (old new : RemainingState) : Type 0 where
  pub list_is : new.list ≡ old.list ++ remaining_text table old.listing mode name text
  pub count_is : old.count + remaining_count table mode text < 2 ^ 64 →
      new.count ≡ old.count + remaining_count table mode text
  pub some : 0 < old.count + remaining_count table mode text → 0 < new.count
  pub defined_is : old.defined + defined_count table mode text < 2 ^ 64 →
      new.defined ≡ old.defined + defined_count table mode text
  pub listing_is : new.listing ≡ old.listing
