-- A line whose keyword is exchanged has the scan as before but for the keyword, and ends in the
-- same state.
use Rattle.std.proofs.Common.{◌≡◌, ◌≢◌, ℕ, suc, ◌+◌, ◌==◌, List, [], ◌∷◌, ◌++◌, length, take, drop, Bool, true, false, refl, sym, ◌∙◌, ap, ap₂, subst, append-nil, append_assoc, arith, length-append, length-take}
use Rattle.std.proofs.lemmas.List.{take-append-drop, take_at, drop_at}
use Rattle.ud_model.specs.text.Bytes.{space, newline, is_white}
use Rattle.ud_model.specs.text.Lines.{Line}
use Rattle.ud_model.specs.text.Splicing.{content}
use Rattle.ud_model.specs.aids.LexStates.{LexState, in_text, in_literal, at_backslash, fresh_at}
use Rattle.ud_model.specs.sections.Directives.{Directive, directive, content_of}
use Rattle.ud_model.proofs.output.Each.{Each}
use Rattle.ud_model.proofs.text.ScanLaws.{place_after, white_after, masked_after, scan_from}
use Rattle.ud_model.proofs.output.EditedScan.{has_quote, ends_in_slash, Quoted}
use Rattle.ud_model.proofs.output.KeywordPlace.{Found, found_by, length-masked_after, IsInert, word_stands, masked_other, place_other, white_other}
use Rattle.ud_model.proofs.output.DirectiveFront.{Front, directive_front, quiet_word, keyword_quiet, StartsDark, keyword_dark, front_unquoted, front_unslashed}

-- An open literal isn't white.
abbrev pub Sane : LexState → Bool → Type 0
Sane (in_literal q) white = white ≡ false
Sane (at_backslash q) white = white ≡ false
Sane _ _ = Unit {0}

-- If a line is fresh, no literal is open before it.
fresh_quoted : (w : LexState) (white : Bool) (t : List ℕ) → Sane w white → fresh_at w white t ≡ true → Quoted w []
fresh_quoted w white t s f = grind arith

-- Only the first byte of a line decides whether it is fresh.
fresh_first : (w : LexState) (white : Bool) (a t u : List ℕ) (n : ℕ) → length a ≡ suc n → fresh_at w white (a ++ t) ≡ fresh_at w white (a ++ u)
fresh_first w white [] t u n e = absurd (omega arith)
fresh_first in_text white (y ∷ a) t u n e = refl
fresh_first _ _ (_ ∷ _) _ _ n _ = refl

-- If a keyword is shown, the text before it ends between lexemes.
keyword_place : (w : LexState) (bytes prefix : List ℕ) (c : ℕ) (rest : List ℕ) (n : ℕ) → has_quote prefix ≡ false → ends_in_slash prefix ≡ false → c ≢ space → c ≢ newline →
    Quoted w [] → length prefix ≡ suc n → masked_after w [] bytes ≡ prefix ++ c ∷ rest → Found w bytes prefix c rest
keyword_place w [] prefix c rest n u s p q k l e =
    let f : 0 ≡ length (prefix ++ c ∷ rest) = ap (λ (t : List ℕ). length t) e in
    let g : length (prefix ++ c ∷ rest) ≡ length prefix + length (c ∷ rest) = length-append prefix (c ∷ rest) in absurd (omega arith)
keyword_place w (x ∷ bytes) prefix c rest n u s p q k l e =
    let split : (x ∷ take n bytes) ++ drop n bytes ≡ x ∷ bytes = ap (λ (t : List ℕ). x ∷ t) (take-append-drop n bytes) in
    let m = length-masked_after (x ∷ bytes) w [] in
    let f : length (masked_after w [] (x ∷ bytes)) ≡ length (prefix ++ c ∷ rest) = ap (λ (t : List ℕ). length t) e in
    let g : length (prefix ++ c ∷ rest) ≡ length prefix + length (c ∷ rest) = length-append prefix (c ∷ rest) in
    let long : length (x ∷ take n bytes) ≡ length prefix = omega (arith, m, f, g, l, length-take n bytes) in
    subst (λ (t : List ℕ). Found w t prefix c rest) split
    (found_by c prefix u s p q w x (take n bytes) (drop n bytes) rest k long (subst (λ (t : List ℕ). masked_after w [] t ≡ prefix ++ c ∷ rest) (sym split) e))

-- A line with a directive: the bytes before its keyword, the keyword, and the rest.
pub record Spelled (w : LexState) (white : Bool) (bytes : List ℕ) (d : Directive) : Type 0 where
  pub before : List ℕ
  pub first : ℕ
  pub word : List ℕ
  pub more : List ℕ
  pub prefix : List ℕ
  pub some : (n : ℕ) × (length before ≡ suc n)
  pub are : bytes ≡ before ++ ((first ∷ word) ++ more)
  pub at_is : d.keyword.at ≡ length before
  pub len_is : d.keyword.len ≡ length (first ∷ word)
  pub place : place_after w before ≡ in_text
  pub masks : masked_after w [] before ≡ prefix
  pub ends : masked_after in_text [] more ≡ d.after
  pub inert : Each IsInert (first ∷ word)
  pub dark : is_white first ≡ false

spelled_by : (w : LexState) (white : Bool) (bytes ws gs keyword : List ℕ) (d : Directive) → Quoted w [] → has_quote (ws ++ 35 ∷ gs) ≡ false → ends_in_slash (ws ++ 35 ∷ gs) ≡ false →
    Each IsInert keyword → Each (λ c. c ≢ space) keyword → StartsDark keyword → d.keyword.at ≡ length (ws ++ 35 ∷ gs) → d.keyword.len ≡ length keyword →
    masked_after w [] bytes ≡ (ws ++ 35 ∷ gs) ++ (keyword ++ d.after) → Spelled w white bytes d
spelled_by w white bytes ws gs [] d q u s i n k a l e = absurd k
spelled_by w white bytes ws gs (c ∷ word) d q u s i n k a l e =
    let some : length (ws ++ 35 ∷ gs) ≡ suc (length ws + length gs) = omega (arith, length-append ws (35 ∷ gs)) in
    let no_newline : c ≢ newline = λ h. let f : true ≡ false = sym (ap (λ (x : ℕ). x == newline) h) ∙ i.0.no_newline in cc in
    let f = keyword_place w bytes (ws ++ 35 ∷ gs) c (word ++ d.after) (length ws + length gs) u s n.0 no_newline q some e in
    let r = word_stands (c ∷ word) f.behind d.after i n f.goes_on in
    let long : length (ws ++ 35 ∷ gs) ≡ length f.before = ap (λ (t : List ℕ). length t) (sym f.masks) ∙ length-masked_after f.before w [] ∙ omega arith in
    record {
      before = f.before;
      first = c;
      word = word;
      more = r.0;
      prefix = ws ++ 35 ∷ gs;
      some = (length ws + length gs, sym long ∙ some);
      are = f.are ∙ ap (λ (t : List ℕ). f.before ++ t) r.1;
      at_is = a ∙ long;
      len_is = l;
      place = f.place;
      masks = f.masks;
      ends = r.2;
      inert = i;
      dark = k;
    }

-- A line with a directive is spelled so.
pub spelled : (w : LexState) (white before : Bool) (l : Line) (d : Directive) → Sane w white → content_of (scan_from w white before l) ≡ directive d → Spelled w white (content l) d
unfolding scan_from
spelled w white before l d s e =
    let f : Front (scan_from w white before l) d = directive_front (scan_from w white before l) d e in
    let q : Each IsInert f.word × Each (λ c. c ≢ space) f.word = quiet_word f.word (keyword_quiet f.word d.kind f.kind_is) in
    spelled_by w white (content l) f.white f.gap f.word d (fresh_quoted w white (content l) s f.fresh_is) (front_unquoted f.white f.gap f.whites f.gaps)
    (front_unslashed f.white f.gap f.gaps) q.0 q.1 (keyword_dark f.word d.kind f.kind_is) f.at_is f.len_is f.masked_is

-- The rest after two lists.
pub drop_two : (a b c : List ℕ) (n : ℕ) → n ≡ length a + length b → drop n (a ++ (b ++ c)) ≡ c
drop_two a b c n e = cc (append_assoc a b c, drop_at (a ++ b) c n (length-append a b ∙ sym e))

-- A line whose keyword is exchanged has the scan as before but for its keyword, and ends in the
-- same state.
pub record Exchanged (w : LexState) (white before : Bool) (l k : Line) (d : Directive) (word : List ℕ) : Type 0 where
  pub masked_is : (scan_from w white before k).masked ≡ take d.keyword.at (scan_from w white before l).masked ++ (word ++ d.after)
  pub fresh_is : (scan_from w white before k).fresh ≡ (scan_from w white before l).fresh
  pub place_is : place_after w (content k) ≡ place_after w (content l)
  pub white_is : white_after w white (content k) ≡ white_after w white (content l)

-- If the new keyword begins nothing either, a line is scanned so.
pub exchanged_scan : (w : LexState) (white before : Bool) (l k : Line) (d : Directive) (word : List ℕ) → Sane w white →
    content_of (scan_from w white before l) ≡ directive d → Each IsInert word → StartsDark word →
    content k ≡ take d.keyword.at (content l) ++ (word ++ drop (d.keyword.at + d.keyword.len) (content l)) →
    Exchanged w white before l k d word
unfolding scan_from
exchanged_scan w white before l k d [] s e i n are = absurd n
exchanged_scan w white before l k d (c ∷ word) s e i n are =
    let p : Spelled w white (content l) d = spelled w white before l d s e in
    let head : take d.keyword.at (content l) ≡ p.before =
    ap₂ (λ (m : ℕ) (t : List ℕ). take m t) p.at_is p.are ∙ take_at p.before ((p.first ∷ p.word) ++ p.more) (length p.before) refl in
    let tail : drop (d.keyword.at + d.keyword.len) (content l) ≡ p.more =
    ap (λ (t : List ℕ). drop (d.keyword.at + d.keyword.len) t) p.are
    ∙ drop_two p.before (p.first ∷ p.word) p.more (d.keyword.at + d.keyword.len) (ap₂ (λ (a b : ℕ). a + b) p.at_is p.len_is) in
    let now : content k ≡ p.before ++ ((c ∷ word) ++ p.more) = are ∙ ap₂ (λ (a b : List ℕ). a ++ ((c ∷ word) ++ b)) head tail in
    let was : masked_after w [] (content l) ≡ p.prefix ++ ((p.first ∷ p.word) ++ d.after) =
    ap (λ (t : List ℕ). masked_after w [] t) p.are ∙ masked_other w p.before p.more p.prefix d.after p.place p.masks p.ends (p.first ∷ p.word) p.inert in
    let long : length p.prefix ≡ length p.before = ap (λ (t : List ℕ). length t) (sym p.masks) ∙ length-masked_after p.before w [] ∙ omega arith in
    let prefix : take d.keyword.at (masked_after w [] (content l)) ≡ p.prefix =
    ap₂ (λ (m : ℕ) (t : List ℕ). take m t) p.at_is was ∙ take_at p.prefix ((p.first ∷ p.word) ++ d.after) (length p.before) long in
    record {
      masked_is = ap (λ (t : List ℕ). masked_after w [] t) now ∙ masked_other w p.before p.more p.prefix d.after p.place p.masks p.ends (c ∷ word) i
          ∙ ap (λ (t : List ℕ). t ++ ((c ∷ word) ++ d.after)) (sym prefix);
      fresh_is = ap (λ (t : List ℕ). fresh_at w white t) now
          ∙ fresh_first w white p.before ((c ∷ word) ++ p.more) ((p.first ∷ p.word) ++ p.more) p.some.0 p.some.1 ∙ ap (λ (t : List ℕ). fresh_at w white t) (sym p.are);
      place_is = ap (λ (t : List ℕ). place_after w t) now ∙ place_other w p.before p.more p.prefix d.after p.place p.masks p.ends (c ∷ word) i
          ∙ sym (ap (λ (t : List ℕ). place_after w t) p.are ∙ place_other w p.before p.more p.prefix d.after p.place p.masks p.ends (p.first ∷ p.word) p.inert);
      white_is = ap (λ (t : List ℕ). white_after w white t) now ∙ white_other w p.before p.more p.prefix d.after p.place p.masks p.ends white c word i n
          ∙ sym (ap (λ (t : List ℕ). white_after w white t) p.are
          ∙ white_other w p.before p.more p.prefix d.after p.place p.masks p.ends white p.first p.word p.inert p.dark);
    }

-- A line that ends after its new keyword is scanned up to there, and ends between lexemes.
pub record CutOff (w : LexState) (white before : Bool) (l k : Line) (d : Directive) (word : List ℕ) : Type 0 where
  pub masked_is : (scan_from w white before k).masked ≡ take d.keyword.at (scan_from w white before l).masked ++ word
  pub fresh_is : (scan_from w white before k).fresh ≡ (scan_from w white before l).fresh
  pub place_is : place_after w (content k) ≡ in_text

-- If the new keyword begins nothing, a line is scanned so.
pub cut_scan : (w : LexState) (white before : Bool) (l k : Line) (d : Directive) (word : List ℕ) → Sane w white →
    content_of (scan_from w white before l) ≡ directive d → Each IsInert word → content k ≡ take d.keyword.at (content l) ++ word → CutOff w white before l k d word
unfolding scan_from
cut_scan w white before l k d word s e i are =
    let p : Spelled w white (content l) d = spelled w white before l d s e in
    let head : take d.keyword.at (content l) ≡ p.before =
    ap₂ (λ (m : ℕ) (t : List ℕ). take m t) p.at_is p.are ∙ take_at p.before ((p.first ∷ p.word) ++ p.more) (length p.before) refl in
    let now : content k ≡ p.before ++ (word ++ []) = are ∙ ap₂ (λ (a b : List ℕ). a ++ b) head (sym (append-nil word)) in
    let was : masked_after w [] (content l) ≡ p.prefix ++ ((p.first ∷ p.word) ++ d.after) =
    ap (λ (t : List ℕ). masked_after w [] t) p.are ∙ masked_other w p.before p.more p.prefix d.after p.place p.masks p.ends (p.first ∷ p.word) p.inert in
    let long : length p.prefix ≡ length p.before = ap (λ (t : List ℕ). length t) (sym p.masks) ∙ length-masked_after p.before w [] ∙ omega arith in
    let prefix : take d.keyword.at (masked_after w [] (content l)) ≡ p.prefix =
    ap₂ (λ (m : ℕ) (t : List ℕ). take m t) p.at_is was ∙ take_at p.prefix ((p.first ∷ p.word) ++ d.after) (length p.before) long in
    record {
      masked_is = ap (λ (t : List ℕ). masked_after w [] t) now ∙ masked_other w p.before [] p.prefix [] p.place p.masks refl word i
          ∙ ap₂ (λ (a b : List ℕ). a ++ b) (sym prefix) (append-nil word);
      fresh_is = ap (λ (t : List ℕ). fresh_at w white t) now
          ∙ fresh_first w white p.before (word ++ []) ((p.first ∷ p.word) ++ p.more) p.some.0 p.some.1 ∙ ap (λ (t : List ℕ). fresh_at w white t) (sym p.are);
      place_is = ap (λ (t : List ℕ). place_after w t) now ∙ place_other w p.before [] p.prefix [] p.place p.masks refl word i;
    }
