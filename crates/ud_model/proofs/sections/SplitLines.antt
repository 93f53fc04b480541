-- The content of a line, by the parts of its masked line.
use Rattle.std.proofs.Common.{◌≡◌, ℕ, suc, ◌+◌, ◌-◌, List, [], ◌∷◌, ◌++◌, length, Bool, true, false, not, ◌&&◌, ◌||◌, bytes_eq, Option, Some, None, ◌⊎◌, inl, inr, if◌then◌else◌, refl, sym, ◌∙◌, ap, ap₂, subst, append-nil, arith, length-append, rules}
use Rattle.std.specs.Prelude.{◌↔◌}
use Rattle.std.proofs.lemmas.Bool.{and_parts, or_cases}
use Rattle.std.proofs.lemmas.Slice.Eq.{bytes_eq-Decides}
use Rattle.ud_model.specs.text.Bytes.{number_sign, is_white, is_word_byte, are_white, are_word_bytes, skip_white, leading_word, skip_word}
use Rattle.ud_model.specs.text.Scans.{Scan}
use Rattle.ud_model.proofs.sections.Keywords.{prefix_is_word}
use Rattle.ud_model.specs.sections.Directives.{Content, Directive, cut_keyword, directive, text, content_of, skip_white_and_hash, skip_hash, may_split_keyword, has_split_keyword, content_after_hash, directive_at, kind_of, is_in_line, is_continued_outside_comment, is_prefix_of_keyword}
use Rattle.ud_model.specs.aids.DirectiveParts.{DirectiveParts, AreParts, first_is, EndsInKeyword}
use Rattle.ud_model.specs.aids.DirectiveParts.{nothing_follows, word_follows, IsSplitKeyword, HasDirective}
use Rattle.ud_model.specs.declared.kind.Kind.{Kind}

-- White space after white space is skipped, too.
past_white_then : (ws t : List ℕ) → are_white ws ≡ true → skip_white (ws ++ t) ≡ skip_white t
past_white_then [] t h = refl
past_white_then (b ∷ ws) t h =
    let p : (is_white b ≡ true) × (are_white ws ≡ true) = and_parts (is_white b) (are_white ws) h in cc (p.0, past_white_then ws t p.1)

no_word : (t : List ℕ) → first_is is_word_byte t ≡ false → (leading_word t ≡ []) × (skip_word t ≡ t)
no_word t h = grind arith

-- A word before other bytes is the leading one.
word_then : (word rest : List ℕ) → are_word_bytes word ≡ true → first_is is_word_byte rest ≡ false → (leading_word (word ++ rest) ≡ word) × (skip_word (word ++ rest) ≡ rest)
word_then [] rest h n = no_word rest n
word_then (b ∷ word) rest h n =
    let p : (is_word_byte b ≡ true) × (are_word_bytes word ≡ true) = and_parts (is_word_byte b) (are_word_bytes word) h in
    let r : (leading_word (word ++ rest) ≡ word) × (skip_word (word ++ rest) ≡ rest) = word_then word rest p.1 n in (
      ap (λ (w : Bool). if w then b ∷ leading_word (word ++ rest) else []) p.0 ∙ ap (λ (l : List ℕ). b ∷ l) r.0,
      ap (λ (w : Bool). if w then skip_word (word ++ rest) else b ∷ (word ++ rest)) p.0 ∙ r.1,
    )

-- A text is leading white space, and the rest.
white_front : (t : List ℕ) → (ws : List ℕ) × (t ≡ ws ++ skip_white t) × (are_white ws ≡ true)
white_front [] = ([], refl, refl)
white_front (b ∷ t) = by_white (is_white b) refl (white_front t)
  where
    by_white : (w : Bool) → is_white b ≡ w → ((ws : List ℕ) × (t ≡ ws ++ skip_white t) × (are_white ws ≡ true)) →
        (ws : List ℕ) × (b ∷ t ≡ ws ++ (if w then skip_white t else b ∷ t)) × (are_white ws ≡ true)
    by_white true e r = (b ∷ r.0, ap (λ (l : List ℕ). b ∷ l) r.1, ap₂ (λ (x y : Bool). x && y) e r.2)
    by_white false e r = ([], refl, refl)

white_gone : (t : List ℕ) → first_is is_white (skip_white t) ≡ false
white_gone [] = refl
white_gone (b ∷ t) = grind (arith, white_gone t)

word_front : (t : List ℕ) → (t ≡ leading_word t ++ skip_word t) × (are_word_bytes (leading_word t) ≡ true) × (first_is is_word_byte (skip_word t) ≡ false)
word_front [] = (refl, refl, refl)
word_front (b ∷ t) = grind (arith, word_front t)

hash_front : (t rest : List ℕ) → skip_hash t ≡ Some rest → t ≡ number_sign ∷ rest
hash_front t rest e = grind arith

-- A masked line with a `#` after white space has parts.
parts_exist : (masked tail : List ℕ) → skip_white_and_hash masked ≡ Some tail → (p : DirectiveParts) × AreParts p masked
parts_exist masked tail e =
    let s : (ws : List ℕ) × (masked ≡ ws ++ skip_white masked) × (are_white ws ≡ true) = white_front masked in
    let g : (gs : List ℕ) × (tail ≡ gs ++ skip_white tail) × (are_white gs ≡ true) = white_front tail in
    let w = word_front (skip_white tail) in (
      record { white = s.0; gap = g.0; word = leading_word (skip_white tail); rest = skip_word (skip_white tail) },
      record {
        joined = cc (s.1, hash_front (skip_white masked) tail e, g.1, w.0);
        white = s.2;
        gap = g.2;
        word = w.1;
        gap_ends = ap (first_is is_white) (sym w.0) ∙ white_gone tail;
        word_ends = w.2;
      },
    )

-- The texts that are computed of a masked line with these parts.
record Computed (p : DirectiveParts) (masked : List ℕ) : Type 0 where
  pub tail : skip_white_and_hash masked ≡ Some (p.gap ++ (p.word ++ p.rest))
  pub behind : skip_white (p.gap ++ (p.word ++ p.rest)) ≡ p.word ++ p.rest
  pub word : leading_word (p.word ++ p.rest) ≡ p.word
  pub rest : skip_word (p.word ++ p.rest) ≡ p.rest

computed : (p : DirectiveParts) (masked : List ℕ) → AreParts p masked → Computed p masked
computed p masked h = let w = word_then p.word p.rest h.word h.word_ends in
    record {
      tail = ap skip_white_and_hash h.joined ∙ ap skip_hash (past_white_then p.white (number_sign ∷ (p.gap ++ (p.word ++ p.rest))) h.white);
      behind = past_white_then p.gap (p.word ++ p.rest) h.gap ∙ (grind (arith, h.gap_ends));
      word = w.0;
      rest = w.1;
    }

-- If all are word bytes, nothing is left after the longest word.
no_rest : (word rest : List ℕ) → are_word_bytes (word ++ rest) ≡ true → first_is is_word_byte rest ≡ false → rest ≡ []
no_rest (b ∷ word) rest h n = no_rest word rest (and_parts (is_word_byte b) (are_word_bytes (word ++ rest)) h).1 n
no_rest word rest h g = grind arith

module _ (scan : Scan) (p : DirectiveParts) where
  ends_by : (word rest : List ℕ) → p.word ≡ word → p.rest ≡ rest → are_word_bytes word ≡ true → first_is is_word_byte rest ≡ false →
      may_split_keyword scan (word ++ rest) ≡ true → EndsInKeyword scan p
  ends_by [] [] e f h n m = nothing_follows e f
  ends_by [] (b ∷ rest) e f h n m = grind (arith, bytes_eq-Decides)
  ends_by (b ∷ word) rest e f h n m =
      let p : (is_continued_outside_comment scan ≡ true) × ((bytes_eq (b ∷ (word ++ rest)) (47 ∷ []) || is_prefix_of_keyword (b ∷ (word ++ rest))) ≡ true) = and_parts _ _ m in
      by p.0 (or_cases _ _ p.1)
    where
      by : is_continued_outside_comment scan ≡ true → (bytes_eq (b ∷ (word ++ rest)) (47 ∷ []) ≡ true) ⊎ (is_prefix_of_keyword (b ∷ (word ++ rest)) ≡ true) → EndsInKeyword scan p
      by c (inl s) = grind (arith, bytes_eq-Decides)
      by c (inr k) = let r : rest ≡ [] = no_rest (b ∷ word) rest (prefix_is_word (b ∷ (word ++ rest)) k) n in
          word_follows (λ z. cc) (f ∙ r) (subst (λ (t : List ℕ). is_prefix_of_keyword t ≡ true) (ap (λ (t : List ℕ). b ∷ (word ++ t)) r ∙ append-nil (b ∷ word) ∙ sym e) k) c

  -- A masked line that may split a keyword ends so, and the other way round.
  to_ends : AreParts p scan.masked → may_split_keyword scan (p.word ++ p.rest) ≡ true → EndsInKeyword scan p
  to_ends h m = ends_by p.word p.rest refl refl h.word h.word_ends m

  -- The keyword is split, as it is computed.
  abbrev splits : Bool
  splits = scan.fresh && scan.joins_after && not (is_in_line scan.comment) && may_split_keyword scan (p.word ++ p.rest)

  to_split : AreParts p scan.masked → splits ≡ true → IsSplitKeyword scan p
  to_split h e = grind (arith, to_ends)

  from_split : AreParts p scan.masked → IsSplitKeyword scan p → splits ≡ true
  from_split h s = grind (arith, append-nil)

  -- The content of a line with these parts, by three choices.
  abbrev content_by : Bool → Bool → Option Kind → Content
  content_by split fresh k = if split then cut_keyword else if fresh then directive_at scan (p.word ++ p.rest) k else text

  content_is : AreParts p scan.masked → content_of scan ≡ content_by splits scan.fresh (kind_of p.word)
  content_is h = grind (arith, computed)

  -- The directive of this kind that a line with these parts has.
  abbrev directive_by : Kind → Directive
  directive_by k = record {
    kind = k;
    keyword = record { at = length scan.masked - length (p.word ++ p.rest); len = length (leading_word (p.word ++ p.rest)) };
    after = skip_word (p.word ++ p.rest);
    broken = is_continued_outside_comment scan;
  }

  place : AreParts p scan.masked → length scan.masked - length (p.word ++ p.rest) ≡ suc (length p.white + length p.gap)
  place h = grind (arith, length-append)

  has_this : AreParts p scan.masked → scan.fresh ≡ true → splits ≡ false → (k : Kind) → kind_of p.word ≡ Some k → HasDirective scan (directive_by k)
  has_this h f s k e = let c = computed p scan.masked h in
      record {
        parts = p;
        are = h;
        fresh = f;
        whole = λ t. let q : true ≡ false = sym (from_split h t) ∙ s in cc;
        kind = e;
        at = place h;
        len = ap (λ (w : List ℕ). length w) c.word;
        after = c.rest;
        broken = refl;
      }

  to_directive : AreParts p scan.masked → (split fresh : Bool) (k : Option Kind) (d : Directive) → splits ≡ split → scan.fresh ≡ fresh → kind_of p.word ≡ k →
      content_by split fresh k ≡ directive d → HasDirective scan d
  to_directive h split fresh k d s f e g = grind (arith, has_this)

  unsplit : AreParts p scan.masked → ¬ IsSplitKeyword scan p → splits ≡ false
  unsplit h n = search (rules, to_split)

-- A line without a `#` after white space is text; another one has parts.
data Split (scan : Scan) : Type 0 where
  unsigned : content_of scan ≡ text → Split scan
  signed : (p : DirectiveParts) → AreParts p scan.masked → Split scan

split_line : (scan : Scan) → Split scan
split_line scan = by_hash (skip_white_and_hash scan.masked) refl
  where
    by_hash : (o : Option (List ℕ)) → skip_white_and_hash scan.masked ≡ o → Split scan
    by_hash None e = unsigned (ap (λ (o : Option (List ℕ)). if has_split_keyword scan o then cut_keyword else content_after_hash scan o) e)
    by_hash (Some tail) e = let p : (p : DirectiveParts) × AreParts p scan.masked = parts_exist scan.masked tail e in signed p.0 p.1

-- A line has a directive exactly if its parts say so.
pub directive_is : (scan : Scan) (d : Directive) → (content_of scan ≡ directive d) ↔ HasDirective scan d
directive_is scan d = search (rules, split_line, to_directive, content_is, computed, unsplit, place)
