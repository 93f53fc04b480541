-- The content of the output for a line.
use Rattle.std.proofs.Common.{◌≡◌, ℕ, ◌+◌, ◌-◌, ◌≤◌, List, [], ◌∷◌, ◌++◌, length, take, drop, Bool, true, false, not, ◌&&◌, ◌||◌, codes, nat_eq, if◌then◌else◌, ◌⊎◌, refl, sym, ◌∙◌, ap, ap₂, append_assoc, arith}
use Rattle.std.proofs.lemmas.Bool.{and_parts}
use Rattle.std.specs.List.{ends_with}
use Rattle.std.proofs.lemmas.Bool.Decides.{Decides-eqb}
use Rattle.std.proofs.lemmas.Slice.Eq.{ends_is}
use Rattle.std.proofs.lemmas.List.{take-append-le, drop-append-le, same_from_push}
use Rattle.ud_model.specs.text.Bytes.{backslash}
use Rattle.ud_model.specs.text.Lines.{Line, line_at, IsWhole, IsUnterminated}
use Rattle.ud_model.specs.text.Splicing.{is_empty, is_spliced, content, stays_open}
use Rattle.ud_model.specs.sections.Directives.{Span}
use Rattle.ud_model.specs.answer.Printing.{opener_keyword, piece_by}
use Rattle.ud_model.specs.declared.verdict.Verdict.{Verdict}
use Rattle.ud_model.specs.declared.verdict.Verdict.TheVariants.{Keep, ToIf, ToElse, ToEndif}
use Rattle.ud_model.proofs.output.Formed.{EndsIn, edited_end, edited_body, IsLeft, left_line}
use Rattle.ud_model.proofs.text.ScanBytes.{content-prefix}

-- The second line is the output for the first one.
pub record LeftLine (u : Bool) (v : Verdict) (keyword : Span) (l k : Line) : Type 0 where
  pub body : k.body ≡ edited_body u v keyword l.body
  pub ending : k.ending ≡ l.ending

-- The piece of a line, split again.
pub piece_line : (u : Bool) (v : Verdict) (keyword : Span) (n m : ℕ) (t : List ℕ) (l : Line) → l ≡ line_at n t → IsLeft v → IsWhole t ⊎ IsUnterminated t →
    LeftLine u v keyword l (line_at m (piece_by u v keyword l))
piece_line u v keyword n m t l e h w =
    let q = ap (λ (j : Line). line_at m (piece_by u v keyword j)) e ∙ left_line u v keyword n m t h w in
    record {
      body = ap (λ (j : Line). j.body) q ∙ sym (ap (λ (j : Line). edited_body u v keyword j.body) e);
      ending = ap (λ (j : Line). j.ending) q ∙ sym (ap (λ (j : Line). j.ending) e);
    }

same_and : (a b e : Bool) → (b ≡ true → a ≡ true) → ((a && e) ≡ true → b ≡ true) → (b && e) ≡ (a && e)
same_and a b e f g = grind arith

ends_in : (b : List ℕ) → ends_with nat_eq b (backslash ∷ []) ≡ true → EndsIn backslash b
unfolding EndsIn
ends_in b e = (take (length b - 1) b, (ends_is Decides-eqb b (backslash ∷ []) (ends_with nat_eq b (backslash ∷ [])) refl).0 e)

does_end : (b : List ℕ) → EndsIn backslash b → ends_with nat_eq b (backslash ∷ []) ≡ true
unfolding EndsIn
does_end b (c, e) = (ends_is Decides-eqb b (backslash ∷ []) (ends_with nat_eq b (backslash ∷ [])) refl).1 c e

-- A spliced line's body is its content and a backslash.
pub spliced_body : (l : Line) → is_spliced l ≡ true → l.body ≡ content l ++ backslash ∷ []
spliced_body l s =
    (ends_is Decides-eqb l.body (backslash ∷ []) (ends_with nat_eq l.body (backslash ∷ [])) refl).0 (and_parts (ends_with nat_eq l.body (backslash ∷ [])) (not (is_empty l.ending)) s).0
    ∙ sym (ap (λ (t : Bool). (if t then take (length l.body - 1) l.body else l.body) ++ backslash ∷ []) s)

-- A line with the same splice and ending stays open as before.
pub same_open : (l k : Line) → is_spliced k ≡ is_spliced l → k.ending ≡ l.ending → stays_open k ≡ stays_open l
same_open l k s e = ap₂ (λ (t : Bool) (x : List ℕ). t || is_empty x) s e

-- A prefix of the body within the content is one of the content.
front_within : (l : Line) (n : ℕ) → n ≤ length (content l) → take n l.body ≡ take n (content l)
front_within l n h = let f : (rest : List ℕ) × (l.body ≡ content l ++ rest) = content-prefix l in cc (f.1, take-append-le n (content l) f.0 h)

module _ (u : Bool) (keyword : Span) (l k : Line) (within : keyword.at + keyword.len ≤ length (content l)) where
  if_spliced : l.body ≡ content l ++ backslash ∷ [] → k.body ≡ edited_body u ToIf keyword l.body →
      k.body ≡ (take keyword.at (content l) ++ (opener_keyword u keyword.len ++ drop (keyword.at + keyword.len) (content l))) ++ backslash ∷ []
  unfolding edited_body
  if_spliced s b = grind (arith, front_within, drop-append-le, append_assoc)

  -- A line that becomes an `#if` is spliced as it was.
  pub if_splice : LeftLine u ToIf keyword l k → is_spliced k ≡ is_spliced l
  unfolding EndsIn
  if_splice h =
      ap (λ (x : List ℕ). ends_with nat_eq k.body (backslash ∷ []) && not (is_empty x)) h.ending
      ∙ same_and (ends_with nat_eq l.body (backslash ∷ [])) (ends_with nat_eq k.body (backslash ∷ [])) (not (is_empty l.ending))
      (λ e. does_end l.body (edited_end backslash (record { no_space = refl; no_else = refl; no_endif = refl }) u ToIf keyword l.body
      (let f : EndsIn backslash k.body = ends_in k.body e in (f.0, sym h.body ∙ f.1))))
      (λ e. does_end k.body (take keyword.at (content l) ++ (opener_keyword u keyword.len ++ drop (keyword.at + keyword.len) (content l)), if_spliced (spliced_body l e) h.body))

  if_by : (s : Bool) → is_spliced l ≡ s → LeftLine u ToIf keyword l k → content k ≡ take keyword.at (content l) ++ (opener_keyword u keyword.len ++ drop (keyword.at + keyword.len) (content l))
  unfolding edited_body
  if_by true s h =
      (same_from_push (content k) (take keyword.at (content l) ++ (opener_keyword u keyword.len ++ drop (keyword.at + keyword.len) (content l))) backslash backslash
      (sym (spliced_body k (if_splice h ∙ s)) ∙ if_spliced (spliced_body l s) h.body)).0
  if_by false s h = grind (arith, if_splice, append_assoc)

  -- The content of a line that becomes an `#if` has its keyword exchanged.
  pub if_line_content : LeftLine u ToIf keyword l k → content k ≡ take keyword.at (content l) ++ (opener_keyword u keyword.len ++ drop (keyword.at + keyword.len) (content l))
  if_line_content h = if_by (is_spliced l) refl h

  module _ (word : List ℕ) (ends : EndsIn backslash (take keyword.at l.body ++ word) → ⊥) (b : k.body ≡ take keyword.at l.body ++ word) where
    -- A line that ends after its new keyword isn't spliced.
    pub cut_splice : is_spliced k ≡ false
    unfolding EndsIn
    cut_splice = go (is_spliced k) refl
      where
        go : (s : Bool) → is_spliced k ≡ s → s ≡ false
        go false s = refl
        go true s = absurd (ends (content k, sym b ∙ spliced_body k s))

    -- The content of a line that ends after its new keyword ends there.
    pub cut_line_content : content k ≡ take keyword.at (content l) ++ word
    cut_line_content = grind (arith, cut_splice, front_within)

-- The bodies of lines that are left, by verdict.
pub else_body : (u : Bool) (keyword : Span) (b : List ℕ) → edited_body u ToElse keyword b ≡ take keyword.at b ++ codes "else"
unfolding edited_body
else_body u keyword b = refl

pub endif_body : (u : Bool) (keyword : Span) (b : List ℕ) → edited_body u ToEndif keyword b ≡ take keyword.at b ++ codes "endif"
unfolding edited_body
endif_body u keyword b = refl

pub kept_body : (u : Bool) (keyword : Span) (b : List ℕ) → edited_body u Keep keyword b ≡ b
unfolding edited_body
kept_body u keyword b = refl
