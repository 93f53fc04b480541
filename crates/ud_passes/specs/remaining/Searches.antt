-- Searches: what a search over a text keeps, and what its steps do.
--
--   as_mention b after           the mention that has begun, with the text `after`
--   begun_as b after             the same, if one has begun
--   taken table p r              the mention `p` with the text of the line `r`, or the one
--                                that begins there
--   rest_from table p goes_on rs the mention `p`, which may go on, and the mentions of `rs`
--   ended p                      the ended mention `p`
--   ExtendsMention table line .. p q    `q` is the mention `p` after a line with its scan
--   IsTaken table p r q goes_on  `q` is the mention after the line `r`
--   AppendsLine table ..         the line of a mention was appended
--   Appends rows table .. ms     the mentions among `ms` that name a listed symbol were counted
--                                and appended, and their rows lost their marks
--   EndsLine rows table ..       a line was taken, and its mention goes on or was appended
--   shown_number listing n       the number `n`, or 0 if the list shows no numbers
--   as_listed listing r          the line `r` with its number so
--   Searched rows table ..       the text before a place was searched
--   SearchesOn rows table ..     the text before the next place was searched, too
use Rattle.std.specs.Prelude.{◌≡◌, ℕ, ◌+◌, ◌-◌, ◌<◌, ◌^◌, List, [], ◌∷◌, ◌++◌, length, Bool, true}
use Rattle.std.specs.Prelude.{false, Option, Some, None, map}
use Rattle.ud_model.specs.text.Scans.{Reading}
use Rattle.ud_model.specs.aids.LineViews.{as_line, as_scan}
use Rattle.ud_model.specs.sections.Directives.{content_of}
use Rattle.ud_model.specs.conditions.Table.{Argument}
use Rattle.ud_model.specs.declared.kind.Mode.{Mode}
use Rattle.ud_model.specs.declared.line.Line.{Line as CodeLine}
use Rattle.ud_model.specs.declared.scan.Scan.{Scan as CodeScan}
use Rattle.ud_cond.specs.symbols.Marks.{Unmarks}
use Rattle.ud_passes.specs.Walks.{reading_at, Walked}
use Rattle.ud_passes.specs.remaining.Definitions.{IsClear}
use Rattle.ud_passes.specs.remaining.Mentions.{Mention, mention_by, mention_on, with_text}
use Rattle.ud_passes.specs.remaining.Mentions.{shown_line, shown_of, joins_next, joined_text}
use Rattle.ud_passes.specs.remaining.Mentions.{mentions_in}
use Rattle.ud_passes.specs.remaining.RemainingLists.{line_of, lines_for, named_by, named_count}
use Rattle.ud_passes.specs.remaining.RemainingLists.{defining_count}
use Rattle.ud_passes.specs.declared.remaining.listing.Listing.{Listing}
use Rattle.ud_passes.specs.declared.remaining.listing.Listing.TheVariants.{Counted}
use Rattle.ud_passes.specs.declared.remaining.mentions.Begun.{Begun}
use Rattle.ud_passes.specs.declared.remaining.search.Place.{Place}
use Rattle.ud_passes.specs.declared.remaining.search.Search.{Search}
use Rattle.ud_passes.specs.declared.walk.Walk.{Walk}

-- `as_mention b after`: the mention that has begun, with the text `after`.
abbrev pub as_mention : Begun → List ℕ → Mention
as_mention b after = record {
  number = b.number;
  body = b.body.now;
  spanning = b.is_spanning;
  class = b.class;
  after = after;
}

-- `begun_as b after`: the mention with the text `after`, if one has begun.
abbrev pub begun_as : Option Begun → List ℕ → Option Mention
begun_as None after = None
begun_as (Some b) after = Some (as_mention b after)

-- `ended p`: the mention `p`, or none.
abbrev pub ended : Option Mention → List Mention
ended None = []
ended (Some m) = m ∷ []

module _ (table : List Argument) where
  -- `extended p r`: the mention `p` with the text of the line `r`, which fits; or the mention that
  -- begins there.
  abbrev pub extended : Option Mention → Reading → Option Mention
  extended None r = mention_by table r (content_of r.scan)
  extended (Some m) r = Some (with_text m (shown_line m.class r))

  -- `taken p r`: the same for a line that may be too long.
  abbrev pub taken : Option Mention → Reading → Option Mention
  taken None r = mention_on table r
  taken (Some m) r = Some (with_text m (shown_of m.class r))

  -- `rest_from p goes_on rs`: the mention `p`, with the text of the lines among `rs` that continue
  -- it if it goes on, and the other mentions of `rs`.
  abbrev pub rest_from : Option Mention → Bool → List Reading → List Mention
  rest_from None goes_on rs = mentions_in table false rs
  rest_from (Some m) goes_on rs =
      with_text m (joined_text m.class goes_on rs) ∷ mentions_in table goes_on rs

  -- `IsTaken p r q goes_on`: the line `r` was taken after the mention `p`, which is then `q`.
  -- `goes_on`: the line joins the next one.
  abbrev pub IsTaken : Option Mention → Reading → Option Mention → Bool → Type 0
  IsTaken p r q goes_on = (q ≡ taken p r) × (goes_on ≡ joins_next r)

-- `ExtendsMention table line scan number p q`: read in any mode, the line with this scan and number
-- makes `q` of the mention `p`.
abbrev pub ExtendsMention : List Argument → CodeLine → CodeScan → ℕ → Option Mention → Option
    Mention →
    Type 0
ExtendsMention table line scan number p q = (mode : Mode) →
    q ≡ extended table p (reading_at mode (as_line line) (as_scan scan) number)

-- `AppendsLine table name b old new`: the line of the mention `b` of the file `name` was appended.
-- The search `old` has its text.
abbrev pub AppendsLine : List Argument → List ℕ → Begun → Search → Search → Type 0
AppendsLine table name b old new = new.list.items ≡ old.list.items ++
    line_of table old.listing name (as_mention b old.after.items)

-- `Appends rows table name ms old new`: the mentions among `ms` of the file `name` that name a
-- listed symbol were appended. Conditions and definitions were counted, unless their count is at
-- its limit. Of the rows that were marked, those that none of the conditions names are.
pub record Appends (rows table : List Argument) (name : List ℕ) (ms : List Mention)
    (old new : Search) : Type 0 where
  pub list_is : new.list.items ≡ old.list.items ++ lines_for table old.listing name ms
  pub count_is : old.count + named_count table ms < 2 ^ 64 →
      new.count ≡ old.count + named_count table ms
  pub some : 0 < old.count + named_count table ms → 0 < new.count
  pub defined_is : old.defined + defining_count ms < 2 ^ 64 →
      new.defined ≡ old.defined + defining_count ms
  pub unnamed_are : Unmarks rows (named_by table ms) old.unnamed.items new.unnamed.items
  pub listing_is : new.listing ≡ old.listing

-- `EndsLine rows table name b goes_on old new c`: a line with the mention `b` was taken. If it goes
-- on, `c` is this mention. Else the mention was appended, and `c` is none.
abbrev pub EndsLine : List Argument → List Argument → List ℕ → Option Begun → Bool → Search →
    Search → Option Begun → Type 0
EndsLine rows table name b true old new c = Appends rows table name [] old new ×
    (begun_as c new.after.items ≡ begun_as b old.after.items)
EndsLine rows table name b false old new c =
    Appends rows table name (ended (begun_as b old.after.items)) old new ×
    (begun_as c new.after.items ≡ None)

-- `IsClearTo table until t`: no `#` in the text `t`, except in its last `until` bytes, has a
-- definition after it.
abbrev pub IsClearTo : List Argument → ℕ → List ℕ → Type 0
IsClearTo table until t = IsClear table (length t - until) t

-- `shown_number listing n`: the number `n`, or 0 if the list shows no numbers of lines.
abbrev pub shown_number : Listing → ℕ → ℕ
shown_number Counted n = 0
shown_number listing n = n

-- `as_listed listing r`: the line `r` with this number.
abbrev pub as_listed : Listing → Reading → Reading
as_listed listing r =
    record r { line = record r.line { number = shown_number listing r.line.number } }

-- `Searched rows table mode name text start now place walk`: the text before the walk's place was
-- searched. `start` is the search before it. The lines `seen` are those lines with the numbers that
-- the search gave them, which may be wrong if the list shows none.
pub record Searched (rows table : List Argument) (mode : Mode) (name text : List ℕ)
    (start now : Search) (place : Place) (walk : Walk) : Type 0 where
  pub read : List Reading
  pub walked : Walked mode text read walk.rest.now walk.scanner
  pub number_is : shown_number start.listing place.number ≡
      shown_number start.listing (1 + length read)
  pub seen : List Reading
  pub seen_is : map (as_listed start.listing) seen ≡ map (as_listed start.listing) read
  pub clear : IsClearTo table place.until walk.rest.now
  pub found : List Mention
  pub parts : (rs : List Reading) → mentions_in table false (seen ++ rs) ≡
      found ++ rest_from table (begun_as place.begun now.after.items) true rs
  pub appends : Appends rows table name found start now

-- `SearchesOn rows table mode name old place walk new next later`: if the text before the place of
-- `walk` was searched, then also the text before the place of `later`.
abbrev pub SearchesOn : List Argument → List Argument → Mode → List ℕ → Search → Place → Walk →
    Search → Place → Walk → Type 0
SearchesOn rows table mode name old place walk new next later = (text : List ℕ) (start : Search) →
    Searched rows table mode name text start old place walk →
    Searched rows table mode name text start new next later
