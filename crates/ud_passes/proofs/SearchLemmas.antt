-- Searches: text lines are passed, a line is taken, and a mention ends.
use Rattle.std.proofs.Common.{◌≡◌, ℕ, ◌+◌, ◌&&◌, ◌-◌, ◌≤◌, List, [], ◌∷◌, ◌++◌, length, take, drop}
use Rattle.std.proofs.Common.{◌^◌, length-append, length-drop, take-append-drop, Bool, true, false}
use Rattle.std.proofs.Common.{Option, None, Some, is_some, refl, sym, ◌∙◌, ap, append_assoc}
use Rattle.std.proofs.Common.{append-nil, arith, ap₂}
use Rattle.std.specs.Prelude.{map, filter, if◌then◌else◌, ◌<◌}
use Rattle.std.proofs.lemmas.Bool.{and_right}
use Rattle.std.proofs.lemmas.Grind.{common_steps, flat_map-append}
use Rattle.std.proofs.lemmas.List.{map-append, length-map}
use Rattle.std.proofs.lemmas.List.Elements.{filter-append}
use Rattle.std.proofs.lemmas.List.Folds.{list_any-append}
use Rattle.ud_model.specs.text.Lines.{Line, whole_lines}
use Rattle.ud_model.specs.text.Scans.{Scan, Reading}
use Rattle.ud_model.specs.text.Scanning.{scan_after}
use Rattle.ud_model.specs.conditions.Table.{Argument}
use Rattle.ud_model.specs.declared.kind.Mode.{Mode}
use Rattle.ud_model.proofs.text.LinesLemmas.{are_whole}
use Rattle.ud_cond.specs.symbols.Marks.{Unmarks}
use Rattle.ud_text.proofs.lemmas.bulk.QuietLineLemmas.{ended_lines}
use Rattle.ud_passes.specs.Passes.{fits}
use Rattle.ud_passes.specs.Walks.{reading_at, read_after, AreTexts, HaveBytes, Walked}
use Rattle.ud_passes.specs.remaining.Mentions.{Mention, mentions_in, mentions_of, joins_next, joined_text}
use Rattle.ud_passes.specs.remaining.ListedNames.{names_by, names_listed}
use Rattle.ud_passes.specs.remaining.RemainingLists.{is_condition, is_defining, line_of, lines_for}
use Rattle.ud_passes.specs.remaining.RemainingLists.{named_by, has_name}
use Rattle.ud_passes.specs.remaining.Searches.{extended, rest_from, as_mention, ended, Appends, EndsLine, Searched, IsTaken, begun_as, IsClearTo, shown_number, as_listed}
use Rattle.ud_passes.specs.declared.remaining.mentions.Begun.{Begun}
use Rattle.ud_passes.specs.declared.remaining.listing.Listing.{Listing}
use Rattle.ud_passes.specs.declared.remaining.mentions.Class.{Class}
use Rattle.ud_passes.specs.declared.remaining.search.Search.{Search}
use Rattle.ud_passes.specs.declared.remaining.search.Place.{Place}
use Rattle.ud_passes.specs.declared.walk.Walk.{Walk}
use Rattle.ud_passes.proofs.DefinitionLemmas.{clear_drop, DefineNothing, lines_clear}
use Rattle.ud_passes.proofs.MentionLemmas.{end_of_text, taken_fitting, taken_long}
use Rattle.ud_passes.proofs.WalkLemmas.{walk_ends}

-- 1. The mentions of more lines.

-- `Goes table before found p goes_on`: the mentions of the lines `before` and of any lines after them.
abbrev pub Goes : List Argument → List Reading → List Mention → Option Mention → Bool → Type 0
Goes table before found p goes_on = (rs : List Reading) → mentions_in table false (before ++ rs) ≡ found ++ rest_from table p goes_on rs

module _ (table : List Argument) where
  pub goes_by_end : (before : List Reading) (found : List Mention) (p : Option Mention) → Goes table before found p false → Goes table before (found ++ ended p) None true
  goes_by_end before found p h = grind (arith, common_steps)

  pub goes_by_texts : (before : List Reading) (found : List Mention) (rs : List Reading) → AreTexts rs → DefineNothing table rs → Goes table before found None true → Goes table (before ++ rs) found None true
  goes_by_texts before found rs h d g = λ more.
      let none_more = none rs h d more in grind (arith, append_assoc, g (rs ++ more), none_more)
    where
      none : (rs : List Reading) → AreTexts rs → DefineNothing table rs → (more : List Reading) → mentions_in table false (rs ++ more) ≡ mentions_in table false more
      none [] h d more = refl
      none (r ∷ rs) h d more = grind (arith, none rs h.1 d.1 more)

  -- Clear lines define nothing.
  pub texts_clear : (until : ℕ) (bytes rest : List ℕ) (rs : List Reading) → IsClearTo table until rest → length bytes ≤ length rest - until → bytes ≡ take (length bytes) rest →
      HaveBytes bytes rs → DefineNothing table rs
  texts_clear until bytes rest rs c long front h =
      let is = ended_lines bytes h.ends in let n = length bytes in
      lines_clear table (whole_lines bytes) h.first (length rest - until) (drop n rest)
      (are_whole bytes) (grind (arith, is, long))
      (grind (arith, is, front, take-append-drop n rest, c)) rs h.lines_are

  -- After some bytes, what was clear stays clear.
  pub still_clear : (until n : ℕ) (rest : List ℕ) → IsClearTo table until rest → IsClearTo table until (drop n rest)
  still_clear until n rest c =
      grind (arith, length-drop, clear_drop table n (length rest - until) rest c)

-- 2. Numbers that the list doesn't show.

-- The filtered items, mapped.
pub kept_names : {A B : Type 0} (f : A → B) (p : B → Bool) (q : A → Bool) → ((x : A) → q x ≡ p (f x)) → (xs : List A) → map f (filter q xs) ≡ filter p (map f xs)
kept_names f p q h [] = refl
kept_names f p q h (x ∷ xs) = grind (arith, h x, kept_names f p q h xs)

pub shown_sum : (l : Listing) (a b c d : ℕ) → shown_number l a ≡ shown_number l b → shown_number l c ≡ shown_number l d → shown_number l (a + c) ≡ shown_number l (b + d)
shown_sum l a b c d e f = grind arith

pub seen_more : (l : Listing) (seen read rs more : List Reading) → map (as_listed l) seen ≡ map (as_listed l) read → map (as_listed l) rs ≡ map (as_listed l) more → map (as_listed l) (seen ++ rs) ≡ map (as_listed l) (read ++ more)
seen_more l seen read rs more e f = map-append (as_listed l) seen rs ∙ ap₂ (λ (x y : List Reading). x ++ y) e f ∙ sym (map-append (as_listed l) read more)

-- A mention with the number that the list shows.
abbrev as_shown : Listing → Mention → Mention
as_shown l m = record m { number = shown_number l m.number }

joined_seen : (l : Listing) (class : Class) (goes_on : Bool) (rs : List Reading) → joined_text class goes_on (map (as_listed l) rs) ≡ joined_text class goes_on rs
joined_seen l class false rs = refl
joined_seen l class true [] = refl
joined_seen l class true (r ∷ rs) = grind (arith, joined_seen l class (joins_next r) rs)

module _ (table : List Argument) (l : Listing) where
  mentions_seen : (inside : Bool) (rs : List Reading) → mentions_in table inside (map (as_listed l) rs) ≡ map (as_shown l) (mentions_in table inside rs)
  mentions_seen true [] = refl
  mentions_seen false [] = refl
  mentions_seen true (r ∷ rs) = mentions_seen (joins_next r) rs
  mentions_seen false (r ∷ rs) = grind (arith, joined_seen, mentions_seen (joins_next r) rs, mentions_seen false rs)

  lines_seen : (name : List ℕ) (ms : List Mention) → lines_for table l name (map (as_shown l) ms) ≡ lines_for table l name ms
  lines_seen name [] = refl
  lines_seen name (m ∷ ms) = grind (arith, lines_seen name ms)

count_seen : (l : Listing) (p : Mention → Bool) → ((m : Mention) → p m ≡ p (as_shown l m)) → (ms : List Mention) → length (filter p (map (as_shown l) ms)) ≡ length (filter p ms)
count_seen l p h ms = grind (arith, kept_names (as_shown l) p p h ms, length-map)

-- 3. What is appended.

module _ (rows table : List Argument) (name : List ℕ) where
  pub appends_none : (now : Search) → Appends rows table name [] now now
  appends_none now = grind (arith, common_steps, append-nil)

  -- A mention that names a listed symbol.
  pub appends_listed : (found : Option Begun) (b : Begun) (after : List ℕ) (old new : Search) → found ≡ Some b → names_by table b.class after ≡ true →
      new.list.items ≡ old.list.items ++ line_of table old.listing name (as_mention b after) →
      (old.count + (if is_condition b.class then 1 else 0) < 2 ^ 64 → new.count ≡ old.count + (if is_condition b.class then 1 else 0)) →
      (0 < old.count + (if is_condition b.class then 1 else 0) → 0 < new.count) →
      (old.defined + (if is_defining b.class then 1 else 0) < 2 ^ 64 → new.defined ≡ old.defined + (if is_defining b.class then 1 else 0)) →
      new.listing ≡ old.listing → Unmarks rows (λ n. has_name n b.class after) old.unnamed.items new.unnamed.items →
      Appends rows table name (ended (begun_as found after)) old new
  appends_listed found b after old new e named l c some d g u =
      grind (arith, common_steps, append-nil, u)

  -- One that names none.
  pub appends_unlisted : (found : Option Begun) (b : Begun) (after : List ℕ) (old new : Search) → found ≡ Some b → names_by table b.class after ≡ false →
      new.list.items ≡ old.list.items → new.count ≡ old.count → new.defined ≡ old.defined → new.listing ≡ old.listing → new.unnamed.items ≡ old.unnamed.items →
      Appends rows table name (ended (begun_as found after)) old new
  appends_unlisted found b after old new e none l c d g u =
      grind (arith, and_right, common_steps)

  pub appends_kept : (ms : List Mention) (start old new : Search) → Appends rows table name ms start old →
      new.list.items ≡ old.list.items → new.count ≡ old.count → new.defined ≡ old.defined → new.listing ≡ old.listing → new.unnamed.items ≡ old.unnamed.items → Appends rows table name ms start new
  appends_kept ms start old new a l c d g u = grind arith

  pub appends_more : (ms ns : List Mention) (start mid new : Search) → Appends rows table name ms start mid → Appends rows table name ns mid new → Appends rows table name (ms ++ ns) start new
  appends_more ms ns start mid new a b = grind (arith, common_steps, filter-append, flat_map-append, list_any-append)

named_seen : (table : List Argument) (l : Listing) (name : List ℕ) (ms : List Mention) → named_by table (map (as_shown l) ms) name ≡ named_by table ms name
named_seen table l name [] = refl
named_seen table l name (m ∷ ms) = grind (arith, named_seen table l name ms)

-- The mentions of lines with other numbers, which the list doesn't show.
pub appends_seen : (rows table : List Argument) (name : List ℕ) (start new : Search) (seen read : List Reading) → map (as_listed start.listing) seen ≡ map (as_listed start.listing) read →
    Appends rows table name (mentions_in table false seen) start new → Appends rows table name (mentions_in table false read) start new
appends_seen rows table name start new seen read e a =
    let l : Listing = start.listing in
    let shown = mentions_seen table l false seen in
    let all = mentions_seen table l false read in
    let named = count_seen l (λ m. is_condition m.class && names_listed table m) (λ m. refl) in
    let defining = count_seen l (λ m. is_defining m.class) (λ m. refl) in
    grind (arith, shown, all, named, defining, lines_seen table l name, named_seen table l)

-- 4. The places of a search.

module _ (rows table : List Argument) (mode : Mode) (name text : List ℕ) (start old : Search) (place : Place) (walk : Walk) (s : Searched rows table mode name text start old place walk)
    (new : Search) (next : Place) (on : Walk) (clear : IsClearTo table next.until on.rest.now) where
  -- Text lines were passed.
  pub texts_searched : (bytes : List ℕ) (rs : List Reading) → AreTexts rs → DefineNothing table rs → HaveBytes bytes rs → Walked mode text (s.read ++ rs) on.rest.now on.scanner →
      is_some place.begun ≡ false → is_some next.begun ≡ false → (count : ℕ) → shown_number old.listing count ≡ shown_number old.listing (length (whole_lines bytes)) → next.number ≡ place.number + count →
      new.list.items ≡ old.list.items → new.count ≡ old.count → new.defined ≡ old.defined → new.listing ≡ old.listing → new.unnamed.items ≡ old.unnamed.items → Searched rows table mode name text start new next on
  texts_searched bytes rs h undefined b w none none_then count c m l k d g u =
      let parts : Goes table s.seen s.found None true =
      λ rs. grind (arith, s.parts rs) in
      let more = goes_by_texts table s.seen s.found rs h undefined parts in
      let kept = appends_kept rows table name s.found start old new s.appends l k d g u in
      let seen = seen_more start.listing s.seen s.read rs rs s.seen_is refl in
      grind (arith, b.count_is, length-append, shown_sum, more, kept, seen)

  -- A line was taken.
  module _ (k : Line) (w : Walked mode text (s.read ++ read_after mode s.read k ∷ []) on.rest.now on.scanner) (m : next.number ≡ place.number + 1)
      (mid : Search) (same_list : mid.list.items ≡ old.list.items) (same_count : mid.count ≡ old.count) (same_defined : mid.defined ≡ old.defined) (same_listing : mid.listing ≡ old.listing) (same_marks : mid.unnamed.items ≡ old.unnamed.items) where
    abbrev r : Reading
    r = read_after mode s.read k

    -- The line with the number that the search has for it.
    abbrev seen : Reading
    seen = reading_at mode k (scan_after s.read mode k) place.number

    abbrev begun_before : Option Mention
    begun_before = begun_as place.begun old.after.items

    pub line_searched : (c : Option Begun) (goes_on : Bool) → IsTaken table begun_before seen (begun_as c mid.after.items) goes_on →
        EndsLine rows table name c goes_on mid new next.begun → Searched rows table mode name text start new next on
    line_searched c goes_on i e = by goes_on goes e
      where
        q : Option Mention
        q = begun_as c mid.after.items

        kept : Appends rows table name s.found start mid
        kept = appends_kept rows table name s.found start old mid s.appends same_list same_count same_defined same_listing same_marks

        goes : Goes table (s.seen ++ seen ∷ []) s.found q goes_on
        goes = grind (arith, common_steps)

        by : (b : Bool) → Goes table (s.seen ++ seen ∷ []) s.found q b →
            EndsLine rows table name c b mid new next.begun →
            Searched rows table mode name text start new next on
        by true g a =
            let more = appends_more rows table name s.found [] start mid new kept a.0 in
            let is = seen_more start.listing s.seen s.read (seen ∷ []) (r ∷ []) s.seen_is in
            grind (arith, append-nil, length-append, shown_sum, more, is, s.number_is)
        by false g a =
            let ends = goes_by_end table (s.seen ++ seen ∷ []) s.found q g in
            let more = appends_more rows table name s.found (ended q) start mid new kept a.0 in
            let is = seen_more start.listing s.seen s.read (seen ∷ []) (r ∷ []) s.seen_is in
            grind (arith, length-append, shown_sum, ends, more, is, s.number_is)

    pub fitting_searched : (c : Option Begun) (scan : Scan) → scan ≡ scan_after s.read mode k → fits k ≡ true →
        begun_as c mid.after.items ≡ extended table begun_before (reading_at mode k scan place.number) →
        EndsLine rows table name c scan.joins_after mid new next.begun → Searched rows table mode name text start new next on
    fitting_searched c scan is f i e = line_searched c scan.joins_after (grind (arith, is, f, taken_fitting table begun_before seen, i), grind (arith, is, f)) e

    pub long_searched : fits k ≡ false → mid.after.items ≡ old.after.items → EndsLine rows table name place.begun false mid new next.begun → Searched rows table mode name text start new next on
    long_searched f a e = line_searched place.begun false (ap (begun_as place.begun) a ∙ sym (taken_long table begun_before seen f), sym (grind (arith, f))) e

-- 5. The whole text.

pub first_place : (rows table : List Argument) (mode : Mode) (name all : List ℕ) (now : Search) (until : ℕ) (walk : Walk) → until ≡ length walk.rest.now → Walked mode all [] walk.rest.now walk.scanner →
    Searched rows table mode name all now now (record { number = 1; begun = None; until = until }) walk
first_place rows table mode name all now until walk e w =
    record {
      read = [];
      walked = w;
      number_is = refl;
      seen = [];
      seen_is = refl;
      clear = grind arith;
      found = [];
      parts = λ rs. refl;
      appends = appends_none rows table name now;
    }

pub all_searched : (rows table : List Argument) (mode : Mode) (name text : List ℕ) (start now new : Search) (place : Place) (walk : Walk) → Searched rows table mode name text start now place walk → walk.rest.now ≡ [] →
    Appends rows table name (ended (begun_as place.begun now.after.items)) now new → Appends rows table name (mentions_of table mode text) start new
all_searched rows table mode name text start now new place walk s e a =
    let b : Option Mention = begun_as place.begun now.after.items in
    let all = walk_ends mode text s.read walk.rest.now walk.scanner s.walked e in
    let both = appends_more rows table name s.found (ended b) start now new s.appends a in
    let seen = appends_seen rows table name start new s.seen s.read s.seen_is in
    grind (arith, all, both, seen, end_of_text table b, s.parts [], append-nil)
