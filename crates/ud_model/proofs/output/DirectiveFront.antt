-- The bytes before a directive's keyword, and the keyword itself.
use Rattle.std.proofs.Common.{◌≡◌, ◌≢◌, ℕ, ◌==◌, List, [], ◌∷◌, ◌++◌, length, Bool, true, false, not, ◌&&◌, ◌||◌, Some, refl, ◌∙◌, ap₂, append_assoc, arith, length-append}
use Rattle.std.proofs.lemmas.Bool.{and_parts}
use Rattle.ud_model.specs.text.Bytes.{number_sign, slash, space, newline, is_quote, is_white, are_white}
use Rattle.ud_model.specs.text.Scans.{Scan}
use Rattle.ud_model.specs.sections.Directives.{Directive, directive, content_of, kind_of, is_continued_outside_comment}
use Rattle.ud_model.specs.aids.DirectiveParts.{DirectiveParts, HasDirective}
use Rattle.ud_model.specs.declared.kind.Kind.{Kind}
use Rattle.ud_model.proofs.output.Each.{Each}
use Rattle.ud_model.proofs.output.EditedScan.{has_quote, ends_in_slash}
use Rattle.ud_model.proofs.output.KeywordPlace.{IsInert}
use Rattle.ud_model.proofs.sections.Keywords.{each_keyword}
use Rattle.ud_model.proofs.sections.SplitLines.{directive_is}

-- Each byte is white space.
abbrev pub IsWhite : ℕ → Type 0
IsWhite b = is_white b ≡ true

-- The masked line of a directive: white space, the `#`, white space, the keyword, and the rest.
pub record Front (scan : Scan) (d : Directive) : Type 0 where
  pub white : List ℕ
  pub gap : List ℕ
  pub word : List ℕ
  pub whites : Each IsWhite white
  pub gaps : Each IsWhite gap
  pub masked_is : scan.masked ≡ (white ++ 35 ∷ gap) ++ (word ++ d.after)
  pub at_is : d.keyword.at ≡ length (white ++ 35 ∷ gap)
  pub len_is : d.keyword.len ≡ length word
  pub kind_is : kind_of word ≡ Some d.kind
  pub fresh_is : scan.fresh ≡ true
  pub broken_is : d.broken ≡ is_continued_outside_comment scan

each_is_white : (ws : List ℕ) → are_white ws ≡ true → Each IsWhite ws
each_is_white [] e = tt
each_is_white (b ∷ ws) e = let p : (is_white b ≡ true) × (are_white ws ≡ true) = and_parts (is_white b) (are_white ws) e in (p.0, each_is_white ws p.1)

-- A line with a directive is masked so.
pub directive_front : (scan : Scan) (d : Directive) → content_of scan ≡ directive d → Front scan d
directive_front scan d e = let h : HasDirective scan d = (directive_is scan d).0 e in
    let p : DirectiveParts = h.parts in
    let n = length-append p.white (number_sign ∷ p.gap) in
    record {
      white = p.white;
      gap = p.gap;
      word = p.word;
      whites = each_is_white p.white h.are.white;
      gaps = each_is_white p.gap h.are.gap;
      masked_is = cc (h.are.joined, append_assoc p.white (number_sign ∷ p.gap) (p.word ++ p.rest), h.after);
      at_is = omega (arith, h.at, n);
      len_is = h.len;
      kind_is = h.kind;
      fresh_is = h.fresh;
      broken_is = h.broken;
    }

-- A property of each byte that is white.
pub each_white : (P : ℕ → Type 0) → P 32 → P 9 → P 11 → P 12 → P 13 → (b : ℕ) → is_white b ≡ true → P b
each_white P p q r s t b e = grind arith

-- The byte begins no comment and no literal.
abbrev is_inert : ℕ → Bool
is_inert c = not (c == slash) && not (is_quote c) && not (c == newline)

-- Each of the bytes begins no comment and no literal.
abbrev pub are_inert : List ℕ → Bool
are_inert [] = true
are_inert (c ∷ w) = is_inert c && are_inert w

-- Such bytes begin nothing.
pub inert_word : (w : List ℕ) → are_inert w ≡ true → Each IsInert w
inert_word [] e = tt
inert_word (c ∷ w) e = let p : (is_inert c ≡ true) × (are_inert w ≡ true) = and_parts (is_inert c) (are_inert w) e in (grind (arith, p.0), inert_word w p.1)

-- The byte begins nothing and isn't white, as the bytes of a word.
abbrev pub is_quiet : ℕ → Bool
is_quiet c = is_inert c && not (c == space)

-- Each of the bytes begins nothing and isn't white.
abbrev pub are_quiet : List ℕ → Bool
are_quiet [] = true
are_quiet (c ∷ w) = is_quiet c && are_quiet w

quiet_inert : (c : ℕ) → is_quiet c ≡ true → IsInert c × (c ≢ space)
quiet_inert c e = grind arith

-- Such bytes begin nothing, and none is a space.
pub quiet_word : (w : List ℕ) → are_quiet w ≡ true → Each IsInert w × Each (λ c. c ≢ space) w
quiet_word [] e = (tt, tt)
quiet_word (c ∷ w) e =
    let p : (is_quiet c ≡ true) × (are_quiet w ≡ true) = and_parts (is_quiet c) (are_quiet w) e in
    let q : IsInert c × (c ≢ space) = quiet_inert c p.0 in
    let r : Each IsInert w × Each (λ c. c ≢ space) w = quiet_word w p.1 in
    ((q.0, r.0), (q.1, r.1))

-- A keyword's bytes begin nothing.
pub keyword_quiet : (w : List ℕ) (k : Kind) → kind_of w ≡ Some k → are_quiet w ≡ true
keyword_quiet w k e = each_keyword (λ row. are_quiet row.0) refl w k e

-- The first byte isn't white.
abbrev pub StartsDark : List ℕ → Type 0
StartsDark [] = ⊥
StartsDark (c ∷ w) = is_white c ≡ false

-- A keyword's first byte isn't white.
pub keyword_dark : (w : List ℕ) (k : Kind) → kind_of w ≡ Some k → StartsDark w
keyword_dark w k e = grind (arith, each_keyword)

white_unquoted : (ws t : List ℕ) → Each IsWhite ws → has_quote (ws ++ t) ≡ has_quote t
white_unquoted [] t h = refl
white_unquoted (b ∷ ws) t h = grind (arith, white_unquoted ws t h.1)

all_white_unquoted : (ws : List ℕ) → Each IsWhite ws → has_quote ws ≡ false
all_white_unquoted [] h = refl
all_white_unquoted (b ∷ ws) h = ap₂ (λ (q r : Bool). q || r) (each_white (λ c. is_quote c ≡ false) refl refl refl refl refl b h.0) (all_white_unquoted ws h.1)

white_unslashed : (x : ℕ) (ws : List ℕ) → (x == slash) ≡ false → Each IsWhite ws → ends_in_slash (x ∷ ws) ≡ false
white_unslashed x [] e h = e
white_unslashed x (b ∷ ws) e h = white_unslashed b ws (each_white (λ c. (c == slash) ≡ false) refl refl refl refl refl b h.0) h.1

slash_after : (ws : List ℕ) (x : ℕ) (t : List ℕ) → ends_in_slash (ws ++ x ∷ t) ≡ ends_in_slash (x ∷ t)
slash_after (b ∷ c ∷ ws) x t = slash_after (c ∷ ws) x t
slash_after _ _ _ = refl

-- Before a keyword no quote is shown.
pub front_unquoted : (ws gs : List ℕ) → Each IsWhite ws → Each IsWhite gs → has_quote (ws ++ 35 ∷ gs) ≡ false
front_unquoted ws gs w g = white_unquoted ws (35 ∷ gs) w ∙ all_white_unquoted gs g

-- Before a keyword no slash is last.
pub front_unslashed : (ws gs : List ℕ) → Each IsWhite gs → ends_in_slash (ws ++ 35 ∷ gs) ≡ false
front_unslashed ws gs g = slash_after ws 35 gs ∙ white_unslashed 35 gs refl g
