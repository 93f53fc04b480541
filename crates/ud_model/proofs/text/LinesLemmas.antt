-- Lines: lemmas on the lines of a text, and on those of a longer one.
use Rattle.std.proofs.Common.{◌≡◌, ◌≢◌, ℕ, suc, ◌+◌, ◌-◌, List, [], ◌∷◌, ◌++◌, length, take, map, ◌⊎◌, inl, inr, refl, sym, ◌∙◌, ap, ap₂, subst, append_assoc, append-nil, take_all, ne_eqb, nat_eq, Bool, true, if◌then◌else◌, arith}
use Rattle.std.specs.List.{concat, ends_with}
use Rattle.std.proofs.lemmas.List.Folds.{concat-append}
use Rattle.std.proofs.lemmas.Bool.{cases_eq}
use Rattle.std.proofs.lemmas.Bool.Decides.{Decides-eqb}
use Rattle.std.proofs.lemmas.Slice.Eq.{ends_is}
pub use Rattle.ud_model.specs.text.Lines.{AreWhole}
use Rattle.ud_model.specs.text.Lines.{NoNewline, IsWhole, AreFormed, AreLines, SplitLines, AreSplitLines, prepend_byte, prepend_to_first, split_lines, whole_lines, partial_line, last_line, texts_of, ending_of, Line, text_of, line_at, numbered_from, lines_of}

-- A byte that isn't a newline goes before the first part.
pub prepend_byte-other : (b : ℕ) (p : SplitLines) → b ≢ 10 → prepend_byte b p ≡ prepend_to_first b p.whole p.rest
prepend_byte-other b p other = rw (ne_eqb b 10 other) refl

-- A nonempty rest is a line of its own.
pub last_line-some : (r : List ℕ) → r ≢ [] → last_line r ≡ r ∷ []
last_line-some r some = grind arith

-- A text with a nonempty prefix isn't empty.
pub some_front : (p q : List ℕ) → p ≢ [] → p ++ q ≢ []
some_front [] q some e = some refl
some_front (b ∷ bs) q some e = cc

-- If neither of two texts has a newline, both joined have none.
pub no_newline-append : (p q : List ℕ) → NoNewline p → NoNewline q → NoNewline (p ++ q)
no_newline-append [] q hp hq = hq
no_newline-append (b ∷ bs) q hp hq = (hp.0, no_newline-append bs q hp.1 hq)

-- A text without a newline is all rest.
pub split_lines-open : (p : List ℕ) → NoNewline p → split_lines p ≡ record { whole = []; rest = p }
unfolding split_lines
split_lines-open [] h = refl
split_lines-open (b ∷ bs) h = grind (arith, split_lines-open bs h.1)

-- Up to its first newline a text is its first line.
pub split_lines-prefix : (p t : List ℕ) → NoNewline p →
    split_lines (p ++ 10 ∷ t) ≡ record { whole = (p ++ 10 ∷ []) ∷ whole_lines t; rest = partial_line t }
unfolding split_lines
split_lines-prefix [] t h = refl
split_lines-prefix (b ∷ bs) t h = grind (arith, split_lines-prefix bs t h.1)

-- A whole line that a text begins with is its first line.
pub split_lines-line-prefix : (l t : List ℕ) → IsWhole l → split_lines (l ++ t) ≡ record { whole = l ∷ whole_lines t; rest = partial_line t }
split_lines-line-prefix l t h = grind (arith, append_assoc, split_lines-prefix)

-- The parts of a text that goes on from these parts.
abbrev pub going_on : SplitLines → List ℕ → SplitLines
going_on q s = record { whole = q.whole ++ whole_lines (q.rest ++ s); rest = partial_line (q.rest ++ s) }

-- A byte before a text comes before the text that goes on.
pub prepend_byte-going_on : (b : ℕ) (q : SplitLines) (s : List ℕ) → (b ≡ 10) ⊎ (b ≢ 10) → prepend_byte b (going_on q s) ≡ going_on (prepend_byte b q) s
unfolding split_lines
prepend_byte-going_on b q s h = grind arith

-- The parts of two texts joined: the second goes on from the rest of the first.
pub split_lines-append : (t s : List ℕ) → split_lines (t ++ s) ≡ going_on (split_lines t) s
unfolding split_lines
split_lines-append [] s = refl
split_lines-append (b ∷ bs) s = ap (prepend_byte b) (split_lines-append bs s) ∙ prepend_byte-going_on b (split_lines bs) s (cases_eq b 10)

-- A byte before parts of a text gives parts of the text with the byte before it.
pub put_parts : (b : ℕ) (bs : List ℕ) (q : SplitLines) → (b ≡ 10) ⊎ (b ≢ 10) → AreSplitLines bs q → AreSplitLines (b ∷ bs) (prepend_byte b q)
put_parts b bs q (inl e) h = grind arith
put_parts b bs q (inr other) h =
    subst (AreSplitLines (b ∷ bs)) (sym (prepend_byte-other b q other)) (by_whole q.whole q.rest h.joined h.whole h.no_newline)
  where
    by_whole : (ls : List (List ℕ)) (r : List ℕ) → bs ≡ concat ls ++ r → AreWhole ls → NoNewline r → AreSplitLines (b ∷ bs) (prepend_to_first b ls r)
    by_whole [] r joined whole no_newline = record { joined = ap (λ (x : List ℕ). b ∷ x) joined; whole = tt; no_newline = (other, no_newline) }
    by_whole (l ∷ ls) r joined whole no_newline = record {
      joined = ap (λ (x : List ℕ). b ∷ x) joined;
      whole = ((b ∷ whole.0.0, (other, whole.0.1), ap (λ (x : List ℕ). b ∷ x) whole.0.2), whole.1);
      no_newline = no_newline;
    }

-- The computed parts of a text are parts of it.
pub split_lines-are : (t : List ℕ) → AreSplitLines t (split_lines t)
unfolding split_lines
split_lines-are [] = record { joined = refl; whole = tt; no_newline = tt }
split_lines-are (b ∷ bs) = put_parts b bs (split_lines bs) (cases_eq b 10) (split_lines-are bs)

-- A text is its whole lines and its rest.
pub parts_joined : (t : List ℕ) → t ≡ concat (whole_lines t) ++ partial_line t
parts_joined t = (split_lines-are t).joined

-- Each of the whole lines is whole.
pub are_whole : (t : List ℕ) → AreWhole (whole_lines t)
are_whole t = (split_lines-are t).whole

-- No newline follows the last one.
pub partial_line-open : (t : List ℕ) → NoNewline (partial_line t)
partial_line-open t = (split_lines-are t).no_newline

-- Bytes without a newline are added to the rest.
pub split_lines-append-open : (t p : List ℕ) → NoNewline p → split_lines (t ++ p) ≡ record { whole = whole_lines t; rest = partial_line t ++ p }
split_lines-append-open t p h = grind (arith, split_lines-append, split_lines-open, no_newline-append, partial_line-open, append-nil)

-- A newline ends the line that the rest begins.
pub split_lines-append-line : (t p : List ℕ) → NoNewline p →
    split_lines (t ++ (p ++ 10 ∷ [])) ≡ record { whole = whole_lines t ++ (partial_line t ++ (p ++ 10 ∷ [])) ∷ []; rest = [] }
unfolding split_lines
split_lines-append-line t p h =
    split_lines-append t (p ++ 10 ∷ []) ∙ ap (λ (q : SplitLines). record { whole = whole_lines t ++ q.whole; rest = q.rest }) line
  where
    line : split_lines (partial_line t ++ (p ++ 10 ∷ [])) ≡ record { whole = (partial_line t ++ (p ++ 10 ∷ [])) ∷ []; rest = [] }
    line = grind (arith, append_assoc, split_lines-prefix, no_newline-append, partial_line-open)

-- The whole lines of a longer text begin with those of the text. Its rest is that of the text's
-- rest with the bytes after.
pub whole_grows : (t more : List ℕ) → (later : List (List ℕ)) × (whole_lines (t ++ more) ≡ whole_lines t ++ later)
whole_grows t more = (whole_lines (partial_line t ++ more), ap (λ (q : SplitLines). q.whole) (split_lines-append t more))

-- The parts of a text that goes on from this rest: the rest is still open, or a whole line begins
-- with it.
pub data GoesOn (r more : List ℕ) : SplitLines → Type 0 where
  still_open : GoesOn r more (record { whole = []; rest = r ++ more })
  made_whole : (x : List ℕ) (ls : List (List ℕ)) (rest : List ℕ) → GoesOn r more (record { whole = (r ++ x) ∷ ls; rest = rest })

-- A rest that goes on has such parts.
pub rest_goes_on : (r more : List ℕ) → NoNewline r → GoesOn r more (split_lines (r ++ more))
unfolding split_lines
rest_goes_on [] more h = by_whole (whole_lines more) (partial_line more) (parts_joined more)
  where
    by_whole : (ls : List (List ℕ)) (r : List ℕ) → more ≡ concat ls ++ r → GoesOn [] more (record { whole = ls; rest = r })
    by_whole [] r e = subst (λ (x : List ℕ). GoesOn [] more (record { whole = []; rest = x })) e still_open
    by_whole (l ∷ ls) r e = made_whole l ls r
rest_goes_on (b ∷ r) more h =
    subst (GoesOn (b ∷ r) more) (sym (prepend_byte-other b (split_lines (r ++ more)) h.0)) (put_in (split_lines (r ++ more)) (rest_goes_on r more h.1))
  where
    put_in : (q : SplitLines) → GoesOn r more q → GoesOn (b ∷ r) more (prepend_to_first b q.whole q.rest)
    put_in _ still_open = still_open
    put_in _ (made_whole x ls rest) = made_whole x ls rest

-- A text that goes on: its rest is still open, and longer, or a whole line begins with it.
pub data Growth (t more : List ℕ) : Type 0 where
  stays_open : whole_lines (t ++ more) ≡ whole_lines t → partial_line (t ++ more) ≡ partial_line t ++ more → Growth t more
  ends_line : (x : List ℕ) (later : List (List ℕ)) → whole_lines (t ++ more) ≡ whole_lines t ++ (partial_line t ++ x) ∷ later → Growth t more

-- The rest of a text that goes on does so in one of these ways.
pub grows : (t more : List ℕ) → Growth t more
grows t more = by_parts (split_lines (partial_line t ++ more)) (split_lines-append t more) (rest_goes_on (partial_line t) more (partial_line-open t))
  where
    by_parts : (q : SplitLines) → split_lines (t ++ more) ≡ record { whole = whole_lines t ++ q.whole; rest = q.rest } →
        GoesOn (partial_line t) more q → Growth t more
    by_parts _ e still_open = grind (arith, append-nil)
    by_parts _ e (made_whole x ls rest) = ends_line x ls (ap (λ (p : SplitLines). p.whole) e)

-- If a text has a rest, one of the lines of a longer text begins with it.
pub texts_of_grows : (t more : List ℕ) → partial_line t ≢ [] →
    (x : List ℕ) × (later : List (List ℕ)) × (texts_of (t ++ more) ≡ whole_lines t ++ (partial_line t ++ x) ∷ later)
texts_of_grows t more some = by_growth (grows t more)
  where
    by_growth : Growth t more →
        (x : List ℕ) × (later : List (List ℕ)) × (texts_of (t ++ more) ≡ whole_lines t ++ (partial_line t ++ x) ∷ later)
    by_growth (stays_open e r) = (
      more,
      [],
      ap₂ (λ (ls : List (List ℕ)) (x : List ℕ). ls ++ last_line x) e r
          ∙ ap (λ (ls : List (List ℕ)). whole_lines t ++ ls) (last_line-some (partial_line t ++ more) (some_front (partial_line t) more some)),
    )
    by_growth (ends_line x later e) = (
      x,
      later ++ last_line (partial_line (t ++ more)),
      ap (λ (ls : List (List ℕ)). ls ++ last_line (partial_line (t ++ more))) e
          ∙ append_assoc (whole_lines t) ((partial_line t ++ x) ∷ later) (last_line (partial_line (t ++ more))),
    )

-- Whole lines stay lines when the text goes on or ends.
pub texts_of-whole : (t more : List ℕ) → (later : List (List ℕ)) × (texts_of (t ++ more) ≡ whole_lines t ++ later)
texts_of-whole t more = (
  whole_lines (partial_line t ++ more) ++ last_line (partial_line (t ++ more)),
  ap (λ (ls : List (List ℕ)). ls ++ last_line (partial_line (t ++ more))) (ap (λ (q : SplitLines). q.whole) (split_lines-append t more))
      ∙ append_assoc (whole_lines t) (whole_lines (partial_line t ++ more)) (last_line (partial_line (t ++ more))),
)

-- Whole lines and a last one without a newline are formed.
pub formed : (ls : List (List ℕ)) (r : List ℕ) → AreWhole ls → NoNewline r → AreFormed (ls ++ last_line r)
formed (l ∷ []) (b ∷ bs) whole h = (whole.0, formed [] (b ∷ bs) tt h)
formed (l ∷ m ∷ ls) r whole h = (whole.0, formed (m ∷ ls) r whole.1 h)
formed ls r h g = grind arith

-- A text has lines.
pub lines_exist : (t : List ℕ) → AreLines t (texts_of t)
lines_exist t = grind (arith, parts_joined, append-nil, concat-append, formed, are_whole, partial_line-open)

-- Formed lines are the lines of the text that they form when joined.
pub texts_of-formed : (ls : List (List ℕ)) → AreFormed ls → ls ≡ texts_of (concat ls)
unfolding split_lines
texts_of-formed [] h = refl
texts_of-formed (l ∷ []) (inl whole) = grind (arith, split_lines-line-prefix)
texts_of-formed (l ∷ []) (inr (some, none)) =
    sym (ap texts_of (append-nil l) ∙ ap (λ (q : SplitLines). q.whole ++ last_line q.rest) (split_lines-open l none) ∙ last_line-some l some)
texts_of-formed (l ∷ m ∷ ls) (whole, rest) = grind (arith, split_lines-line-prefix, texts_of-formed (m ∷ ls) rest)

-- The lines of a text are these and no others.
pub lines_are : (t : List ℕ) (ls : List (List ℕ)) → AreLines t ls → ls ≡ texts_of t
lines_are t ls h = texts_of-formed ls h.formed ∙ ap texts_of (sym h.joined)

-- A line is its body and its ending.
pub body-ending : (l : List ℕ) → take (length l - length (ending_of l)) l ++ ending_of l ≡ l
body-ending l = by_tests (ends_with nat_eq l (13 ∷ 10 ∷ [])) (ends_with nat_eq l (10 ∷ []))
    (ends_is Decides-eqb l (13 ∷ 10 ∷ []) (ends_with nat_eq l (13 ∷ 10 ∷ [])) refl).0
    (ends_is Decides-eqb l (10 ∷ []) (ends_with nat_eq l (10 ∷ [])) refl).0
  where
    cut_at : List ℕ → List ℕ
    cut_at e = take (length l - length e) l ++ e

    by_tests : (a b : Bool) → (a ≡ true → l ≡ cut_at (13 ∷ 10 ∷ [])) → (b ≡ true → l ≡ cut_at (10 ∷ [])) →
        cut_at (if a then 13 ∷ 10 ∷ [] else if b then 10 ∷ [] else []) ≡ l
    by_tests a b both one = grind (arith, append-nil, take_all)

-- The line of a number and a text has this text.
pub text_of-line_at : (n : ℕ) (l : List ℕ) → text_of (line_at n l) ≡ l
text_of-line_at n l = body-ending l

-- Numbered lines have their texts.
pub map-numbered_from : (n : ℕ) (ls : List (List ℕ)) → map text_of (numbered_from n ls) ≡ ls
map-numbered_from n [] = refl
map-numbered_from n (l ∷ ls) = ap₂ (λ (x : List ℕ) (xs : List (List ℕ)). x ∷ xs) (text_of-line_at n l) (map-numbered_from (suc n) ls)

-- The lines after these are numbered on from them.
pub numbered_from-append : (n : ℕ) (xs ys : List (List ℕ)) → numbered_from n (xs ++ ys) ≡ numbered_from n xs ++ numbered_from (n + length xs) ys
numbered_from-append n [] ys = ap (λ (k : ℕ). numbered_from k ys) (omega arith)
numbered_from-append n (x ∷ xs) ys = grind (arith, numbered_from-append (suc n) xs ys)

-- A line after these is numbered on from them, if the first has the number 1.
pub numbered_from-next : (xs : List (List ℕ)) (l : List ℕ) (ys : List (List ℕ)) →
    numbered_from 1 (xs ++ l ∷ ys) ≡ numbered_from 1 xs ++ line_at (suc (length xs)) l ∷ numbered_from (suc (suc (length xs))) ys
numbered_from-next xs l ys = grind (arith, numbered_from-append)

-- The whole lines of a text are the first lines of a longer one that goes on.
pub lines_so_far-append : (t more : List ℕ) → (later : List Line) × (numbered_from 1 (whole_lines (t ++ more)) ≡ numbered_from 1 (whole_lines t) ++ later)
lines_so_far-append t more = (
  numbered_from (1 + length (whole_lines t)) (whole_grows t more).0,
  ap (numbered_from 1) (whole_grows t more).1 ∙ numbered_from-append 1 (whole_lines t) (whole_grows t more).0,
)

-- The whole lines of a text are the first lines of a longer one that has ended.
pub lines_of-append : (t more : List ℕ) → (later : List Line) × (lines_of (t ++ more) ≡ numbered_from 1 (whole_lines t) ++ later)
lines_of-append t more = (
  numbered_from (1 + length (whole_lines t)) (texts_of-whole t more).0,
  ap (numbered_from 1) (texts_of-whole t more).1 ∙ numbered_from-append 1 (whole_lines t) (texts_of-whole t more).0,
)

-- Whole lines and the bytes after them are the parts of the text that they form when joined.
split_lines-whole : (ls : List (List ℕ)) (r : List ℕ) → AreWhole ls → NoNewline r → split_lines (concat ls ++ r) ≡ record { whole = ls; rest = r }
split_lines-whole [] r whole none = split_lines-open r none
split_lines-whole (l ∷ ls) r whole none =
    grind (arith, append_assoc, split_lines-line-prefix, split_lines-whole ls r whole.1 none)

-- The parts of a text are these and no others.
pub parts_are : (t : List ℕ) (p : SplitLines) → AreSplitLines t p → p ≡ split_lines t
parts_are t p h = sym (ap split_lines h.joined ∙ split_lines-whole p.whole p.rest h.whole h.no_newline)

-- The lines that come after so many are numbered on from them.
pub number_at : (n : ℕ) (ls : List (List ℕ)) (prefix : List Line) (l : Line) (later : List Line) →
    numbered_from n ls ≡ prefix ++ l ∷ later → l.number ≡ n + length prefix
number_at n [] [] l later e = cc
number_at n [] (f ∷ prefix) l later e = cc
number_at n (k ∷ ls) [] l later e = let q : line_at n k ≡ l = cc in ap (λ (m : Line). m.number) (sym q) ∙ omega arith
number_at n (k ∷ ls) (f ∷ prefix) l later e = let q : numbered_from (suc n) ls ≡ prefix ++ l ∷ later = cc in number_at (suc n) ls prefix l later q ∙ omega arith

-- Line k of a text has the number k.
pub number_is : (t : List ℕ) (prefix : List Line) (l : Line) (later : List Line) → lines_of t ≡ prefix ++ l ∷ later → l.number ≡ suc (length prefix)
number_is t prefix l later e = number_at 1 (texts_of t) prefix l later e ∙ omega arith

-- The lines of a text have its bytes.
pub map-lines_of : (t : List ℕ) → map text_of (lines_of t) ≡ texts_of t
map-lines_of t = map-numbered_from 1 (texts_of t)
