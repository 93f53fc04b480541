-- The pieces of a text are lines: each ends with a newline and has no other one, but perhaps the
-- last piece.
use Rattle.std.proofs.Common.{◌≡◌, ◌≢◌, ℕ, ◌+◌, ◌-◌, List, [], ◌∷◌, ◌++◌, length, take, drop, ◌⊎◌, inl, inr, Bool, true, false, codes, ◌==◌, ◌||◌, if◌then◌else◌, nat_eq, refl, sym, ◌∙◌, ap, ap₂, subst, append_assoc, append-nil, arith, length-append, rules}
use Rattle.std.proofs.lemmas.Bool.{or_parts}
use Rattle.std.specs.List.{ends_with}
use Rattle.std.proofs.lemmas.Bool.Decides.{Decides-eqb}
use Rattle.std.proofs.lemmas.Slice.Eq.{ends_is}
use Rattle.std.proofs.lemmas.List.{take-append-drop, take_at, same_from_push}
use Rattle.ud_model.specs.text.Lines.{NoNewline, IsWhole, IsUnterminated, AreFormed, ending_of, Line, line_at}
use Rattle.ud_model.specs.sections.Directives.{Span}
use Rattle.ud_model.specs.answer.Printing.{opener_keyword, piece_by}
use Rattle.ud_model.specs.declared.verdict.Verdict.{Verdict}
use Rattle.ud_model.specs.declared.verdict.Verdict.TheVariants.{Keep, Remove, ToIf, ToElse, ToEndif}
use Rattle.ud_model.proofs.output.ByLength.{each_opener}
use Rattle.ud_model.proofs.text.Pushes.{ByPush, none, push, by_push}
use Rattle.ud_model.proofs.text.LinesLemmas.{no_newline-append, body-ending, some_front}

pub no_feed_parts : (p q : List ℕ) → NoNewline (p ++ q) → NoNewline p × NoNewline q
no_feed_parts [] q h = (tt, h)
no_feed_parts (b ∷ p) q h = let r : NoNewline p × NoNewline q = no_feed_parts p q h.1 in ((h.0, r.0), r.1)

pub no_feed_cut : (n : ℕ) (t : List ℕ) → NoNewline t → NoNewline (take n t) × NoNewline (drop n t)
no_feed_cut n t h = no_feed_parts (take n t) (drop n t) (subst NoNewline (sym (take-append-drop n t)) h)

-- The ending of a whole line.
abbrev pub IsEnd : List ℕ → Type 0
IsEnd e = (e ≡ 13 ∷ 10 ∷ []) ⊎ (e ≡ 10 ∷ [])

pub end_is_some : (e : List ℕ) → IsEnd e → e ≢ []
end_is_some e h = grind arith

-- A whole line has an ending.
pub whole_ending : (l : List ℕ) → IsWhole l → IsEnd (ending_of l)
whole_ending l (prefix, n, e) =
    by_tests (ends_with nat_eq l (13 ∷ 10 ∷ [])) (ends_with nat_eq l (10 ∷ [])) ((ends_is Decides-eqb l (10 ∷ []) (ends_with nat_eq l (10 ∷ [])) refl).1 prefix e)
  where
    by_tests : (a b : Bool) → b ≡ true → IsEnd (if a then 13 ∷ 10 ∷ [] else if b then 10 ∷ [] else [])
    by_tests a b h = grind arith

-- A body and an ending.
pub ended : (b e : List ℕ) → NoNewline b → IsEnd e → IsWhole (b ++ e)
ended b e n (inl h) = (b ++ 13 ∷ [], no_newline-append b (13 ∷ []) n ((λ p. omega arith), tt), ap (λ (t : List ℕ). b ++ t) h ∙ sym (append_assoc b (13 ∷ []) (10 ∷ [])))
ended b e n (inr h) = (b, n, ap (λ (t : List ℕ). b ++ t) h)

abbrev body_of : List ℕ → List ℕ
body_of t = take (length t - length (ending_of t)) t

pub whole_body : (t : List ℕ) → IsWhole t → NoNewline (body_of t)
whole_body t (prefix, n, e) = go (whole_ending t (prefix, n, e))
  where
    go : IsEnd (ending_of t) → NoNewline (body_of t)
    go (inl h) =
        let p : (body_of t ++ 13 ∷ []) ++ 10 ∷ [] ≡ prefix ++ 10 ∷ [] = cc (append_assoc (body_of t) (13 ∷ []) (10 ∷ []), h, body-ending t, e) in
        let q = same_from_push (body_of t ++ 13 ∷ []) prefix 10 10 p in
        (no_feed_parts (body_of t) (13 ∷ []) (subst NoNewline (sym q.0) n)).0
    go (inr h) =
        let p : body_of t ++ 10 ∷ [] ≡ prefix ++ 10 ∷ [] = ap (λ (x : List ℕ). body_of t ++ x) (sym h) ∙ body-ending t ∙ e in
        subst NoNewline (sym (same_from_push (body_of t) prefix 10 10 p).0) n

-- The output for a body.
unfoldable pub edited_body : Bool → Verdict → Span → List ℕ → List ℕ
edited_body u ToIf k b = (take k.at b ++ opener_keyword u k.len) ++ drop (k.at + k.len) b
edited_body u ToElse k b = take k.at b ++ codes "else"
edited_body u ToEndif k b = take k.at b ++ codes "endif"
edited_body u _ _ b = b

-- The line isn't removed.
abbrev pub IsLeft : Verdict → Type 0
IsLeft Remove = ⊥
IsLeft _ = Unit {0}

piece_parts : (u : Bool) (v : Verdict) (k : Span) (l : Line) → IsLeft v → piece_by u v k l ≡ edited_body u v k l.body ++ l.ending
unfolding edited_body
piece_parts u v k l h = grind arith

abbrev has_feed : List ℕ → Bool
has_feed [] = false
has_feed (b ∷ bs) = (b == 10) || has_feed bs

word_no_feed : (w : List ℕ) → has_feed w ≡ false → NoNewline w
word_no_feed [] e = tt
word_no_feed (b ∷ w) e =
    let p : ((b == 10) ≡ false) × (has_feed w ≡ false) = or_parts (b == 10) (has_feed w) e in
    (λ h. let f : true ≡ false = sym (ap (λ (x : ℕ). x == 10) h) ∙ p.0 in cc, word_no_feed w p.1)

edited_no_feed : (u : Bool) (v : Verdict) (k : Span) (b : List ℕ) → NoNewline b → NoNewline (edited_body u v k b)
unfolding edited_body
edited_no_feed u ToIf k b n =
    no_newline-append (take k.at b ++ opener_keyword u k.len) (drop (k.at + k.len) b)
    (no_newline-append (take k.at b) (opener_keyword u k.len) (no_feed_cut k.at b n).0 (word_no_feed (opener_keyword u k.len) (each_opener (λ w. has_feed w ≡ false) refl refl refl refl refl refl u k.len)))
    (no_feed_cut (k.at + k.len) b n).1
edited_no_feed u ToElse k b n = no_newline-append (take k.at b) (codes "else") (no_feed_cut k.at b n).0 (word_no_feed (codes "else") refl)
edited_no_feed u ToEndif k b n = no_newline-append (take k.at b) (codes "endif") (no_feed_cut k.at b n).0 (word_no_feed (codes "endif") refl)
edited_no_feed _ _ _ _ n = n

-- The piece of a whole line that is left is a whole line.
pub whole_piece : (u : Bool) (v : Verdict) (k : Span) (n : ℕ) (t : List ℕ) → IsLeft v → IsWhole t → IsWhole (piece_by u v k (line_at n t))
whole_piece u v k n t h w =
    subst IsWhole (sym (piece_parts u v k (line_at n t) h)) (ended (edited_body u v k (body_of t)) (ending_of t) (edited_no_feed u v k (body_of t) (whole_body t w)) (whole_ending t w))

not_nil : (a w : List ℕ) (c : ℕ) → a ++ (c ∷ w) ≢ []
not_nil [] w c e = cc
not_nil (x ∷ a) w c e = cc

-- The piece of an unended line that is left is an unended line.
pub unended_piece : (u : Bool) (v : Verdict) (k : Span) (n : ℕ) (t : List ℕ) → IsLeft v → IsUnterminated t → IsUnterminated (piece_by u v k (line_at n t))
unfolding edited_body
unended_piece u Keep k n t h (s, w) = (subst (λ (x : List ℕ). x ≢ []) (sym (body-ending t)) s, subst NoNewline (sym (body-ending t)) w)
unended_piece u Remove k n t h w = absurd h
unended_piece u ToIf k n t h (s, w) =
    let p = no_feed_parts (body_of t) (ending_of t) (subst NoNewline (sym (body-ending t)) w) in (
      some_front ((take k.at (body_of t) ++ opener_keyword u k.len) ++ drop (k.at + k.len) (body_of t)) (ending_of t)
          (some_front (take k.at (body_of t) ++ opener_keyword u k.len) (drop (k.at + k.len) (body_of t))
          (each_opener (λ w. take k.at (body_of t) ++ w ≢ []) (not_nil (take k.at (body_of t)) (codes "fdef") 105) (not_nil (take k.at (body_of t)) (codes "fndef") 105)
          (not_nil (take k.at (body_of t)) (codes "f") 105) (not_nil (take k.at (body_of t)) (codes "fdef  ") 105) (not_nil (take k.at (body_of t)) (codes "fndef  ") 105)
          (not_nil (take k.at (body_of t)) (codes "f  ") 105) u k.len)),
      no_newline-append ((take k.at (body_of t) ++ opener_keyword u k.len) ++ drop (k.at + k.len) (body_of t)) (ending_of t) (edited_no_feed u ToIf k (body_of t) p.0) p.1,
    )
unended_piece u ToElse k n t h (s, w) =
    let p = no_feed_parts (body_of t) (ending_of t) (subst NoNewline (sym (body-ending t)) w) in (
      some_front (take k.at (body_of t) ++ codes "else") (ending_of t) (not_nil (take k.at (body_of t)) (codes "lse") 101),
      no_newline-append (take k.at (body_of t) ++ codes "else") (ending_of t) (edited_no_feed u ToElse k (body_of t) p.0) p.1,
    )
unended_piece u ToEndif k n t h (s, w) =
    let p = no_feed_parts (body_of t) (ending_of t) (subst NoNewline (sym (body-ending t)) w) in (
      some_front (take k.at (body_of t) ++ codes "endif") (ending_of t) (not_nil (take k.at (body_of t)) (codes "ndif") 101),
      no_newline-append (take k.at (body_of t) ++ codes "endif") (ending_of t) (edited_no_feed u ToEndif k (body_of t) p.0) p.1,
    )

-- A whole line before lines.
pub formed_more : (p : List ℕ) (qs : List (List ℕ)) → IsWhole p → AreFormed qs → AreFormed (p ∷ qs)
formed_more p qs w f = grind arith

-- The list ends in this byte.
unfoldable pub EndsIn : ℕ → List ℕ → Type 0
EndsIn q b = (c : List ℕ) × (b ≡ c ++ q ∷ [])

module _ (q : ℕ) where
  end_back : (a d : List ℕ) (z : ℕ) → EndsIn q (a ++ (d ++ z ∷ [])) → z ≡ q
  unfolding EndsIn
  end_back a d z (c, e) = (same_from_push (a ++ d) c z q (append_assoc a d (z ∷ []) ∙ e)).1

  end_front : (prefix b : List ℕ) → {d : List ℕ} → ByPush d → d ≡ b → (b ≡ [] → EndsIn q prefix → ⊥) → EndsIn q (prefix ++ b) → EndsIn q b
  unfolding EndsIn
  end_front prefix b none e n (c, h) = absurd (n (sym e) (c, sym (append-nil prefix) ∙ ap (λ (t : List ℕ). prefix ++ t) e ∙ h))
  end_front prefix b (push {xs = d} z p) e n (c, h) =
      let r = end_back prefix d z (c, ap (λ (t : List ℕ). prefix ++ t) e ∙ h) in (d, sym e ∙ ap (λ (y : ℕ). d ++ y ∷ []) r)

  -- A list that ends in another byte doesn't.
  pub not_end : (a d : List ℕ) (z : ℕ) → (z == q) ≡ false → EndsIn q (a ++ (d ++ z ∷ [])) → ⊥
  not_end a d z f h = search (rules, end_back)

  end_drop : (n : ℕ) (b : List ℕ) → EndsIn q (drop n b) → EndsIn q b
  unfolding EndsIn
  end_drop n b (c, e) = (take n b ++ c, sym (take-append-drop n b) ∙ ap (λ (t : List ℕ). take n b ++ t) e ∙ sym (append_assoc (take n b) c (q ∷ [])))

-- A byte other than the last one of each new keyword.
pub record IsOther (q : ℕ) : Type 0 where
  pub no_space : (32 == q) ≡ false
  pub no_else : (101 == q) ≡ false
  pub no_endif : (102 == q) ≡ false

-- An edited body ends in such a byte only if the body does.
pub edited_end : (q : ℕ) → IsOther q → (u : Bool) (v : Verdict) (k : Span) (b : List ℕ) → EndsIn q (edited_body u v k b) → EndsIn q b
unfolding edited_body
edited_end q o u ToIf k b h = end_drop q (k.at + k.len) b
    (end_front q (take k.at b ++ opener_keyword u k.len) (drop (k.at + k.len) b) (by_push (drop (k.at + k.len) b)) refl
    (λ r. each_opener (λ w. EndsIn q (take k.at b ++ w) → ⊥) (not_end q (take k.at b) (codes "ifde") 102 o.no_endif) (not_end q (take k.at b) (codes "ifnde") 102 o.no_endif)
    (not_end q (take k.at b) (codes "i") 102 o.no_endif) (not_end q (take k.at b) (codes "ifdef ") 32 o.no_space) (not_end q (take k.at b) (codes "ifndef ") 32 o.no_space)
    (not_end q (take k.at b) (codes "if ") 32 o.no_space) u k.len) h)
edited_end q o u ToElse k b h = absurd (not_end q (take k.at b) (codes "els") 101 o.no_else h)
edited_end q o u ToEndif k b h = absurd (not_end q (take k.at b) (codes "endi") 102 o.no_endif h)
edited_end _ _ _ _ _ _ h = h

test_false : (l s : List ℕ) → ((f : List ℕ) → l ≡ f ++ s → ⊥) → ends_with nat_eq l s ≡ false
test_false l s n = go (ends_with nat_eq l s) (ends_is Decides-eqb l s (ends_with nat_eq l s) refl).0
  where
    go : (t : Bool) → (t ≡ true → l ≡ take (length l - length s) l ++ s) → t ≡ false
    go t h = grind arith

by_ends : (l : List ℕ) (a b : Bool) → ends_with nat_eq l (13 ∷ 10 ∷ []) ≡ a → ends_with nat_eq l (10 ∷ []) ≡ b →
    ending_of l ≡ (if a then 13 ∷ 10 ∷ [] else if b then 10 ∷ [] else [])
by_ends l a b e f = ap₂ (λ (x y : Bool). if x then 13 ∷ 10 ∷ [] else if y then 10 ∷ [] else []) e f

-- The ending of a body and an ending.
pub ending_both : (b : List ℕ) → ending_of (b ++ 13 ∷ 10 ∷ []) ≡ 13 ∷ 10 ∷ []
ending_both b = by_ends (b ++ 13 ∷ 10 ∷ []) true (ends_with nat_eq (b ++ 13 ∷ 10 ∷ []) (10 ∷ []))
    ((ends_is Decides-eqb (b ++ 13 ∷ 10 ∷ []) (13 ∷ 10 ∷ []) (ends_with nat_eq (b ++ 13 ∷ 10 ∷ []) (13 ∷ 10 ∷ [])) refl).1 b refl) refl

pub ending_feed : (b : List ℕ) → (EndsIn 13 b → ⊥) → ending_of (b ++ 10 ∷ []) ≡ 10 ∷ []
unfolding EndsIn
ending_feed b n = by_ends (b ++ 10 ∷ []) false true
    (test_false (b ++ 10 ∷ []) (13 ∷ 10 ∷ []) (λ f e. n (f, (same_from_push b (f ++ 13 ∷ []) 10 10 (e ∙ sym (append_assoc f (13 ∷ []) (10 ∷ [])))).0)))
    ((ends_is Decides-eqb (b ++ 10 ∷ []) (10 ∷ []) (ends_with nat_eq (b ++ 10 ∷ []) (10 ∷ [])) refl).1 b refl)

pub feed_inside : (f : List ℕ) → NoNewline (f ++ 10 ∷ []) → ⊥
feed_inside [] h = h.0 refl
feed_inside (x ∷ f) h = feed_inside f h.1

feed_inside_both : (f : List ℕ) → NoNewline (f ++ 13 ∷ 10 ∷ []) → ⊥
feed_inside_both [] h = h.1.0 refl
feed_inside_both (x ∷ f) h = feed_inside_both f h.1

pub ending_none : (b : List ℕ) → NoNewline b → ending_of b ≡ []
ending_none b n =
    by_ends b false false (test_false b (13 ∷ 10 ∷ []) (λ f e. feed_inside_both f (subst NoNewline e n))) (test_false b (10 ∷ []) (λ f e. feed_inside f (subst NoNewline e n)))

cr_or_not : (t : List ℕ) → ending_of t ≡ 10 ∷ [] → EndsIn 13 (body_of t) → ⊥
unfolding EndsIn
cr_or_not t e (c, h) = let whole : t ≡ c ++ 13 ∷ 10 ∷ [] =
    sym (body-ending t) ∙ ap₂ (λ (x y : List ℕ). x ++ y) h e ∙ append_assoc c (13 ∷ []) (10 ∷ []) in
    let f : ending_of t ≡ 13 ∷ 10 ∷ [] = ap ending_of whole ∙ ending_both c in
    let g : 13 ∷ 10 ∷ [] ≡ 10 ∷ [] = sym f ∙ e in cc

-- The output for a whole line keeps its ending.
pub whole_keeps : (u : Bool) (v : Verdict) (k : Span) (t : List ℕ) → IsWhole t → ending_of (edited_body u v k (body_of t) ++ ending_of t) ≡ ending_of t
whole_keeps u v k t w = go (whole_ending t w)
  where
    go : IsEnd (ending_of t) → ending_of (edited_body u v k (body_of t) ++ ending_of t) ≡ ending_of t
    go h = grind (arith, ending_both, ending_feed, cr_or_not, edited_end)

unended_keeps : (u : Bool) (v : Verdict) (k : Span) (t : List ℕ) → IsUnterminated t → ending_of (edited_body u v k (body_of t) ++ ending_of t) ≡ ending_of t
unended_keeps u v k t (s, w) = let none : ending_of t ≡ [] = ending_none t w in
    let b : NoNewline (body_of t) = (no_feed_parts (body_of t) (ending_of t) (subst NoNewline (sym (body-ending t)) w)).0 in
    cc (none, append-nil (edited_body u v k (body_of t)), ending_none (edited_body u v k (body_of t)) (edited_no_feed u v k (body_of t) b))

-- The output for a line, split again into body and ending.
pub left_line : (u : Bool) (v : Verdict) (k : Span) (n m : ℕ) (t : List ℕ) → IsLeft v → IsWhole t ⊎ IsUnterminated t →
    line_at m (piece_by u v k (line_at n t)) ≡ record { body = edited_body u v k (body_of t); ending = ending_of t; number = m }
left_line u v k n m t h w = grind (arith, piece_parts, whole_keeps, unended_keeps, take_at, length-append)
