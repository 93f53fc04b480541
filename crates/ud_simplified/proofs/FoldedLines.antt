-- Folded lines: the directive of a folded line is the one of its lines, with the same tokens.
use Rattle.std.proofs.Common.{◌≡◌, ◌≢◌, ℕ, zero, suc, ◌==◌, ◌<◌, List, [], ◌∷◌, ◌++◌, length, take, drop, map, Bool, true, false, not, ◌||◌, if◌then◌else◌, ◌⊎◌, inl, inr, refl, sym, ◌∙◌, ap, subst, append-nil, append_assoc, length-append, length-drop, length-take-le, bytes_eq, ◌+◌, arith, Some, rules}
use Rattle.std.specs.List.{flat_map}
use Rattle.std.proofs.lemmas.Bool.{and_parts, or_cases}
use Rattle.std.proofs.lemmas.List.{take-map, take-append-drop}
use Rattle.ud_model.proofs.text.ScanBytes.{content-prefix, length-masked}
use Rattle.ud_model.specs.text.Bytes.{slash, space, backslash, number_sign, is_white, is_word_byte}
use Rattle.ud_model.specs.aids.SpacedBytes.{spaced}
use Rattle.ud_model.specs.text.Lines.{Line}
use Rattle.ud_model.specs.text.Lexemes.{LexemeKind, single, lexeme_at, lex_from, lex, shown_as, shown}
use Rattle.ud_model.specs.text.Splicing.{is_spliced, content, newline_of, spliced_part}
use Rattle.ud_model.specs.text.Scans.{Scan, Reading}
use Rattle.ud_model.specs.text.Scanning.{scan_after_run, next_reading, readings_after}
use Rattle.ud_model.specs.sections.Directives.{Directive, directive, content_of, kind_of, is_outside, is_continued_outside_comment}
use Rattle.ud_model.specs.aids.DirectiveParts.{first_is, HasDirective}
use Rattle.ud_model.specs.declared.kind.Kind.{Kind}
use Rattle.ud_model.proofs.sections.SplitLines.{directive_is}
use Rattle.std.proofs.lemmas.Slice.Eq.{bytes_eq-Decides}
use Rattle.ud_model.specs.conditions.Parsing.{tokens_of}
use Rattle.ud_model.specs.aids.ReadAs.{in_mode}
use Rattle.ud_model.specs.declared.kind.Mode.TheVariants.{C}
use Rattle.ud_simplified.specs.FoldedTexts.{is_foldable, IsReadAs, vertical_tab, folded_body}
use Rattle.ud_simplified.specs.FoldedTexts.{folded_line, shown_lines, is_blank, blank_follows}
use Rattle.ud_simplified.specs.FoldedTexts.{tabs_are_beside}
use Rattle.ud_model.proofs.conditions.SpreadTexts.{begins_white, IsSpread, nothing, kept, behind, in_front, Spread, spread_tokens}
use Rattle.ud_model.proofs.output.Each.{Each, each_both}
use Rattle.ud_model.proofs.output.LeftLines.{spliced_body}
use Rattle.ud_model.proofs.text.ScanLaws.{unspliced}

-- 1. A comment has a space before each of its bytes, but for its first one, a slash.

-- `HaveSpaces before bytes masked`: so the bytes are masked. A space is before them if `before`.
abbrev pub HaveSpaces : Bool → List ℕ → List ℕ → Type 0
HaveSpaces before [] masked = Unit {0}
HaveSpaces before (b ∷ bytes) [] = Unit {0}
HaveSpaces before (b ∷ bytes) (m ∷ masked) = (b ≢ slash → m ≢ b → before ≡ true) × HaveSpaces (m == space) bytes masked

comment_shown : (k : LexemeKind) (a b : ℕ) → shown_as k b ≢ b → (shown_as k a == space) ≡ true
comment_shown k a b h = grind arith

begins_slash : (a : ℕ) (u : List ℕ) → a ≢ slash → shown_as (lexeme_at a u).kind a ≡ a
unfolding lexeme_at
begins_slash a u n = grind arith

spaces_from : (k : LexemeKind) (n : ℕ) (before : Bool) (u : List ℕ) →
    (0 < n → (b : ℕ) → shown_as k b ≢ b → before ≡ true) → HaveSpaces before u (map shown (lex_from k n u))
unfolding lex_from
spaces_from k n before [] h = tt
spaces_from k zero before (a ∷ u) h = let piece = lexeme_at a u in
    (λ s d. absurd (d (begins_slash a u s)), spaces_from piece.kind piece.more (shown_as piece.kind a == space) u (λ l b d. comment_shown piece.kind a b d))
spaces_from k (suc n) before (a ∷ u) h =
    (λ s d. h (omega arith) a d, spaces_from k n (shown_as k a == space) u (λ l b d. comment_shown k a b d))

fewer : (n : ℕ) (before : Bool) (u ms : List ℕ) → HaveSpaces before u ms → HaveSpaces before u (take n ms)
fewer n before [] ms h = tt
fewer zero before (b ∷ u) ms h = tt
fewer (suc n) before (b ∷ u) [] h = tt
fewer (suc n) before (b ∷ u) (m ∷ ms) h = (h.0, fewer n (m == space) u ms h.1)

front_bytes : (before : Bool) (u v ms : List ℕ) → HaveSpaces before (u ++ v) ms → HaveSpaces before u ms
front_bytes before (b ∷ u) v (m ∷ ms) h = (h.0, front_bytes (m == space) u v ms h.1)
front_bytes before u v ms h = grind arith

-- A line by itself is masked so.
alone_spaces : (k : Line) → HaveSpaces true (content k) (scan_after_run [] k).masked
unfolding scan_after_run lex
alone_spaces k =
    front_bytes true (content k) (newline_of k) _ (subst (λ (ms : List ℕ). HaveSpaces true (spliced_part k) ms)
    (take-map shown (length (content k)) (lex (spliced_part k))) (fewer (length (content k)) true (spliced_part k) _ (spaces_from single 0 true (spliced_part k) (λ l b d. refl))))

-- 2. The masked lines with their breaks are the masked lines with white space inserted.

-- A scan that has the size of its line.
pub record IsMeasured (r : Reading) : Type 0 where
  pub size : length r.scan.masked ≡ length (content r.line)
  pub spliced : r.scan.spliced ≡ is_spliced r.line

-- The bytes and the masked bytes go on so after a place. White space or the start is before it if
-- `white`.
record IsPlace (white : Bool) (bytes masked : List ℕ) : Type 0 where
  pub before : Bool
  pub spaces : HaveSpaces before bytes masked
  pub space_white : before ≡ true → white ≡ true
  pub blank : Bool
  pub tabs : tabs_are_beside blank masked ≡ true
  pub blank_white : blank ≡ true → white ≡ true

abbrev all_masked : List Reading → List ℕ
all_masked rs = flat_map (λ (r : Reading). r.scan.masked) rs

-- The bytes of a break, which lies outside comments if `outside`, and behind a splice if `spliced`,
-- and how they are masked.
abbrev break_bytes : Bool → Bool → List ℕ
break_bytes outside spliced =
    if outside then vertical_tab ∷ [] else if spliced then backslash ∷ vertical_tab ∷ [] else vertical_tab ∷ []

abbrev break_shown : Bool → Bool → List ℕ
break_shown outside spliced = if outside then vertical_tab ∷ [] else if spliced then space ∷ space ∷ [] else space ∷ []

-- The bytes after the content of a line in the folded line, with such a break, and how they are
-- masked.
abbrev bytes_after : Bool → Bool → List Reading → List ℕ
bytes_after outside spliced [] = []
bytes_after outside spliced (r ∷ rs) = break_bytes outside spliced ++ folded_body (r ∷ rs)

abbrev shown_after : Bool → Bool → List Reading → List ℕ
shown_after outside spliced [] = []
shown_after outside spliced (r ∷ rs) = break_shown outside spliced ++ shown_lines (r ∷ rs)

abbrev bytes_behind : Reading → List Reading → List ℕ
bytes_behind r rs = bytes_after (is_outside r.scan.comment) r.scan.spliced rs

abbrev shown_behind : Reading → List Reading → List ℕ
shown_behind r rs = shown_after (is_outside r.scan.comment) r.scan.spliced rs

shown_parts : (r : Reading) (rs : List Reading) → shown_lines (r ∷ rs) ≡ r.scan.masked ++ shown_behind r rs
shown_parts r rs = grind (arith, append-nil, append_assoc)

blank_is_white : (b : ℕ) → is_blank b ≡ true → is_white b ≡ true
blank_is_white b e = (and_parts (is_white b) (not (b == vertical_tab)) e).0

next_place : {white : Bool} {b m : ℕ} {bytes masked : List ℕ} →
    IsPlace white (b ∷ bytes) (m ∷ masked) → IsPlace (is_white m) bytes masked
next_place {b = b} {m = m} {bytes = bytes} {masked = masked} p = grind (arith, and_parts, blank_is_white)

-- The place behind bytes and as many masked ones.
place_behind : (p m : List ℕ) {white : Bool} {bytes masked : List ℕ} → length m ≡ length p →
    IsPlace white (p ++ bytes) (m ++ masked) → (now : Bool) × IsPlace now bytes masked
place_behind [] [] {white = white} l i = (white, i)
place_behind (b ∷ p) (c ∷ m) l i = place_behind p m (omega arith) (next_place i)
place_behind [] (c ∷ m) l i = absurd (omega arith)
place_behind (b ∷ p) [] l i = absurd (omega arith)

-- Such bytes stay.
kept_all : (p m : List ℕ) {white : Bool} {bytes masked t : List ℕ} → length m ≡ length p →
    IsPlace white (p ++ bytes) (m ++ masked) →
    ((now : Bool) → IsPlace now bytes masked → IsSpread now masked t) → IsSpread white (m ++ masked) (m ++ t)
kept_all [] [] {white = white} l i f = f white i
kept_all (b ∷ p) (c ∷ m) l i f = kept c (kept_all p m (omega arith) (next_place i) f)
kept_all [] (c ∷ m) l i f = absurd (omega arith)
kept_all (b ∷ p) [] l i f = absurd (omega arith)

part_by : (l : Line) (outside spliced : Bool) → is_spliced l ≡ spliced →
    (if outside then content l else l.body) ++ vertical_tab ∷ [] ≡ content l ++ break_bytes outside spliced
part_by l true spliced e = refl
part_by l false true e = cc (spliced_body l e, append_assoc (content l) (backslash ∷ []) (vertical_tab ∷ []))
part_by l false false e = cc e

body_parts : (before : Bool) (r : Reading) (rs : List Reading) (masked : List ℕ) → IsMeasured r →
    HaveSpaces before (folded_body (r ∷ rs)) masked → HaveSpaces before (content r.line ++ bytes_behind r rs) masked
body_parts before r [] masked i h = let p = content-prefix r.line in
    subst (λ (u : List ℕ). HaveSpaces before u masked) (sym (append-nil (content r.line)))
    (front_bytes before (content r.line) p.0 masked (subst (λ (u : List ℕ). HaveSpaces before u masked) p.1 h))
body_parts before r (s ∷ rs) masked i h = subst (λ (u : List ℕ). HaveSpaces before u masked)
    (ap (λ (x : List ℕ). x ++ folded_body (s ∷ rs)) (part_by r.line (is_outside r.scan.comment) r.scan.spliced (sym i.spliced))
    ∙ append_assoc (content r.line) (break_bytes (is_outside r.scan.comment) r.scan.spliced) (folded_body (s ∷ rs))) h

-- So are the masked bytes of a line and of those after it.
parts_spaces : (before : Bool) (r : Reading) (rs : List Reading) → IsMeasured r →
    HaveSpaces before (folded_body (r ∷ rs)) (shown_lines (r ∷ rs)) →
    HaveSpaces before (content r.line ++ bytes_behind r rs) (r.scan.masked ++ shown_behind r rs)
parts_spaces before r rs i h = grind (arith, shown_parts, body_parts)

parts_place : {white : Bool} (r : Reading) (rs : List Reading) → IsMeasured r →
    IsPlace white (folded_body (r ∷ rs)) (shown_lines (r ∷ rs)) →
    IsPlace white (content r.line ++ bytes_behind r rs) (r.scan.masked ++ shown_behind r rs)
parts_place r rs i p = grind (arith, parts_spaces, shown_parts)

-- A space is before a break that lies in a comment.
space_before : (before spliced : Bool) (u masked : List ℕ) →
    HaveSpaces before (break_bytes false spliced ++ u) (break_shown false spliced ++ masked) → before ≡ true
space_before before spliced u masked h = grind arith

-- If white space follows the vertical tabs, the joined lines begin with white space.
white_by : (p m : List ℕ) (outside spliced : Bool) (rs : List Reading) → Each IsMeasured rs → length m ≡ length p →
    HaveSpaces false (p ++ bytes_after outside spliced rs) (m ++ shown_after outside spliced rs) →
    blank_follows (m ++ shown_after outside spliced rs) ≡ true → begins_white (m ++ all_masked rs) ≡ true
white_by [] [] outside spliced [] i l h e = refl
white_by [] [] true spliced (r ∷ rs) i l h e =
    white_by (content r.line) r.scan.masked (is_outside r.scan.comment) r.scan.spliced rs i.1 i.0.size (parts_spaces false r rs i.0 h.1) (ap blank_follows (sym (shown_parts r rs)) ∙ e)
white_by [] [] false spliced (r ∷ rs) i l h e =
    let n : false ≡ true = space_before false spliced (folded_body (r ∷ rs)) (shown_lines (r ∷ rs)) h in cc
white_by (c ∷ p) (b ∷ m) outside spliced rs i l h e = grind arith
white_by [] (b ∷ m) outside spliced rs i l h e = absurd (omega arith)
white_by (c ∷ p) [] outside spliced rs i l h e = absurd (omega arith)

lines_white : (r : Reading) (rs : List Reading) → Each IsMeasured (r ∷ rs) →
    HaveSpaces false (folded_body (r ∷ rs)) (shown_lines (r ∷ rs)) →
    blank_follows (shown_lines (r ∷ rs)) ≡ true → begins_white (all_masked (r ∷ rs)) ≡ true
lines_white r rs i h e = grind (arith, white_by, parts_spaces, shown_parts)

break_by : {white : Bool} (outside spliced : Bool) (r : Reading) (rs : List Reading) → Each IsMeasured (r ∷ rs) →
    IsPlace white (bytes_after outside spliced (r ∷ rs)) (shown_after outside spliced (r ∷ rs)) →
    (IsPlace true (folded_body (r ∷ rs)) (shown_lines (r ∷ rs)) → IsSpread true (shown_lines (r ∷ rs))
    (all_masked (r ∷ rs))) → IsSpread white (shown_after outside spliced (r ∷ rs)) (all_masked (r ∷ rs))
break_by {white = white} true spliced r rs i p f =
    by (or_cases p.blank (blank_follows (shown_lines (r ∷ rs))) (and_parts (p.blank || blank_follows (shown_lines (r ∷ rs))) (tabs_are_beside p.blank (shown_lines (r ∷ rs))) p.tabs).0)
  where
    by : (p.blank ≡ true) ⊎ (blank_follows (shown_lines (r ∷ rs)) ≡ true) →
        IsSpread white (vertical_tab ∷ shown_lines (r ∷ rs)) (all_masked (r ∷ rs))
    by (inl b) =
        subst (λ (w : Bool). IsSpread w (vertical_tab ∷ shown_lines (r ∷ rs)) (all_masked (r ∷ rs))) (sym (p.blank_white b)) (behind vertical_tab refl (f (next_place p)))
    by (inr b) = in_front vertical_tab refl (lines_white r rs i p.spaces.1 b) (f (next_place p))
break_by {white = white} false spliced r rs i p f =
    subst (λ (w : Bool). IsSpread w (shown_after false spliced (r ∷ rs)) (all_masked (r ∷ rs)))
    (sym (p.space_white (space_before p.before spliced (folded_body (r ∷ rs)) (shown_lines (r ∷ rs)) p.spaces)))
    (by spliced p)
  where
    by : (spliced : Bool) → IsPlace white (bytes_after false spliced (r ∷ rs)) (shown_after false spliced (r ∷ rs)) →
        IsSpread true (shown_after false spliced (r ∷ rs)) (all_masked (r ∷ rs))
    by true q = behind space refl (behind space refl (f (next_place (next_place q))))
    by false q = behind space refl (f (next_place q))

spread_by : {white : Bool} (p m : List ℕ) (outside spliced : Bool) (rs : List Reading) → Each IsMeasured rs →
    length m ≡ length p → IsPlace white (p ++ bytes_after outside spliced rs) (m ++ shown_after outside spliced rs) →
    IsSpread white (m ++ shown_after outside spliced rs) (m ++ all_masked rs)
spread_by p m outside spliced [] i l q = kept_all p m l q (λ now j. nothing)
spread_by p m outside spliced (r ∷ rs) i l q =
    kept_all p m l q (λ now j. break_by outside spliced r rs i j (λ k.
    subst (λ (ms : List ℕ). IsSpread true ms (all_masked (r ∷ rs))) (sym (shown_parts r rs))
    (spread_by (content r.line) r.scan.masked (is_outside r.scan.comment) r.scan.spliced rs i.1 i.0.size
    (parts_place r rs i.0 k))))

-- But for white space the bytes are the same.
spaced_front : (white : Bool) (t : List ℕ) → begins_white t ≡ true → spaced true t ≡ spaced white t
spaced_front white t e = grind arith

spread_bytes : {white : Bool} {u t : List ℕ} → IsSpread white u t → spaced white u ≡ spaced white t
spread_bytes nothing = refl
spread_bytes (kept b s) = grind (arith, spread_bytes s)
spread_bytes (behind b e s) = grind (arith, spread_bytes s)
spread_bytes {white = white} (in_front {t = t} b e f s) = grind (arith, spread_bytes s, spaced_front white t f)

spread_more : {white : Bool} {u t : List ℕ} → IsSpread white u t → IsSpread true u t
spread_more s = grind (arith, nothing, kept, behind, in_front)

-- 3. The directive of the folded line.

alone_fresh : (k : Line) → (scan_after_run [] k).fresh ≡ true
unfolding scan_after_run
alone_fresh k = refl

-- A line with this scan joins no other, and is masked as these bytes.
pub record IsShown (scan : Scan) (bytes : List ℕ) : Type 0 where
  pub ends : scan.joins_after ≡ false
  pub masked : scan.masked ≡ bytes
  pub tabs : tabs_are_beside true bytes ≡ true

pub folded_shown : (rs : List Reading) → is_foldable rs ≡ true →
    IsShown (scan_after_run [] (folded_line rs)) (shown_lines rs)
folded_shown rs e = grind (arith, and_parts, bytes_eq, bytes_eq-Decides)

whole_body : (k : Line) (bytes : List ℕ) → IsShown (scan_after_run [] k) bytes → content k ≡ k.body
whole_body k bytes s = cc (unspliced k s.ends)

folded_place : (r : Reading) (rs : List Reading) → IsMeasured r →
    IsShown (scan_after_run [] (folded_line (r ∷ rs))) (shown_lines (r ∷ rs)) →
    IsPlace true (content r.line ++ bytes_behind r rs) (r.scan.masked ++ shown_behind r rs)
folded_place r rs i s = parts_place r rs i (record {
  before = true;
  spaces =
      subst (λ (u : List ℕ). HaveSpaces true u (shown_lines (r ∷ rs))) (whole_body (folded_line (r ∷ rs)) (shown_lines (r ∷ rs)) s)
      (subst (λ (ms : List ℕ). HaveSpaces true (content (folded_line (r ∷ rs))) ms) s.masked (alone_spaces (folded_line (r ∷ rs))));
  space_white = λ e. refl;
  blank = true;
  tabs = s.tabs;
  blank_white = λ e. refl;
})

word_stays : (rest more : List ℕ) → first_is is_word_byte rest ≡ false → begins_white more ≡ true →
    first_is is_word_byte (rest ++ more) ≡ false
word_stays rest more h g = grind arith

gap_stays : (word rest more : List ℕ) (k : Kind) → kind_of word ≡ Some k →
    first_is is_white (word ++ rest) ≡ false → first_is is_white (word ++ (rest ++ more)) ≡ false
gap_stays word rest more k h g = search (rules, absurd)

module _ (r : Reading) (rs : List Reading) (d : Directive) (i : Each IsMeasured (r ∷ rs))
    (s : IsShown (scan_after_run [] (folded_line (r ∷ rs))) (shown_lines (r ∷ rs))) (h : HasDirective r.scan d) where
  abbrev rest : List ℕ
  rest = h.parts.rest

  abbrev front : List ℕ
  front = h.parts.white ++ number_sign ∷ (h.parts.gap ++ h.parts.word)

  abbrev now : Scan
  now = scan_after_run [] (folded_line (r ∷ rs))

  abbrev longer : Directive
  longer =
      record { kind = d.kind; keyword = d.keyword; after = rest ++ shown_behind r rs; broken = is_continued_outside_comment now }

  has_longer : HasDirective now longer
  has_longer = record {
    parts = record { white = h.parts.white; gap = h.parts.gap; word = h.parts.word; rest = rest ++ shown_behind r rs };
    are = record {
      joined = s.masked ∙ shown_parts r rs ∙ ap (λ (m : List ℕ). m ++ shown_behind r rs) h.are.joined ∙ simp append_assoc;
      white = h.are.white;
      gap = h.are.gap;
      word = h.are.word;
      gap_ends = gap_stays h.parts.word rest (shown_behind r rs) d.kind h.kind h.are.gap_ends;
      word_ends = word_stays rest (shown_behind r rs) h.are.word_ends (grind arith);
    };
    fresh = alone_fresh (folded_line (r ∷ rs));
    whole = λ k. let q : true ≡ false = sym k.joins ∙ s.ends in cc;
    kind = h.kind;
    at = h.at;
    len = h.len;
    after = refl;
    broken = refl;
  }

  masked_so : r.scan.masked ≡ front ++ rest
  masked_so = h.are.joined ∙ simp append_assoc

  size : length front + length rest ≡ length (content r.line)
  size = sym (length-append front rest) ∙ ap (λ (m : List ℕ). length m) (sym masked_so) ∙ i.0.size

  cut_size : length front ≡ length (take (length front) (content r.line))
  cut_size = sym (length-take-le (length front) (content r.line) (omega (arith, size)))

  cut_place : IsPlace true (take (length front) (content r.line) ++ (drop (length front) (content r.line) ++ bytes_behind r rs)) (front ++ (rest ++ shown_behind r rs))
  cut_place =
      subst (λ (ms : List ℕ). IsPlace true (take (length front) (content r.line) ++ (drop (length front) (content r.line) ++ bytes_behind r rs)) ms)
      (ap (λ (m : List ℕ). m ++ shown_behind r rs) masked_so ∙ append_assoc front rest (shown_behind r rs))
      (subst (λ (u : List ℕ). IsPlace true u (r.scan.masked ++ shown_behind r rs))
      (ap (λ (u : List ℕ). u ++ bytes_behind r rs) (sym (take-append-drop (length front) (content r.line)))
      ∙ append_assoc (take (length front) (content r.line)) (drop (length front) (content r.line)) (bytes_behind r rs))
      (folded_place r rs i.0 s))

  rest_place : (white : Bool) × IsPlace white (drop (length front) (content r.line) ++ bytes_behind r rs) (rest ++ shown_behind r rs)
  rest_place = place_behind (take (length front) (content r.line)) front cut_size cut_place

  rest_size : length rest ≡ length (drop (length front) (content r.line))
  rest_size = rw length-drop (omega (arith, size))

  spread : Spread (rest ++ shown_behind r rs) (rest ++ all_masked rs)
  spread =
      (rest_place.0, spread_by (drop (length front) (content r.line)) rest (is_outside r.scan.comment) r.scan.spliced rs i.1 rest_size rest_place.1)

  pub folded_has : (e : Directive) × (content_of now ≡ directive e) × IsReadAs e d rs
  folded_has = (
    longer,
    (directive_is now longer).1 has_longer,
    record {
      kind = refl;
      keyword = refl;
      bytes = spread_bytes (spread_more spread.1) ∙ ap (λ (u : List ℕ). spaced true (u ++ all_masked rs)) (sym h.after);
      tokens = spread_tokens (rest ++ shown_behind r rs) (rest ++ all_masked rs) spread ∙ ap (λ (u : List ℕ). tokens_of (u ++ all_masked rs)) (sym h.after);
    },
  )

-- 4. The lines of a text.

next_measured : (before : List Reading) (l : Line) → IsMeasured (next_reading before C l)
unfolding scan_after_run
next_measured before l = record { size = length-masked before l; spliced = refl }

pub measured : (before : List Reading) (ls : List Line) → Each IsMeasured before →
    Each IsMeasured (readings_after before (map (in_mode C) ls))
measured before [] i = i
measured before (l ∷ ls) i =
    measured (before ++ next_reading before C l ∷ []) ls (each_both IsMeasured before (next_reading before C l ∷ []) i (next_measured before l, tt))
