-- Folded readings: the logical lines of a folded text are those of the text, each folded.
use Rattle.std.proofs.Common.{◌≡◌, ◌≢◌, ℕ, suc, List, [], ◌∷◌, ◌++◌, map, Bool, true, false, if◌then◌else◌, ◌⊎◌, inl, inr, refl, sym, ◌∙◌, ap, ap₂, subst, append-nil, append_assoc, arith}
use Rattle.std.specs.List.{concat, flat_map}
use Rattle.std.proofs.lemmas.Bool.{and_parts}
use Rattle.std.proofs.lemmas.List.{map-append}
use Rattle.std.proofs.lemmas.List.Folds.{concat-append, flat_map-map}
use Rattle.std.proofs.lemmas.Slice.Eq.{bytes_eq-Decides}
use Rattle.ud_model.specs.text.Lines.{Line, NoNewline, IsWhole, IsUnterminated, AreFormed, text_of, ending_of, line_at, numbered_from, lines_of, texts_of}
use Rattle.ud_model.specs.text.Scans.{Scan, Reading, plain_scan}
use Rattle.ud_model.specs.text.Splicing.{content}
use Rattle.ud_model.specs.text.Scanning.{scan_after_run, scan_after, next_reading, readings_after}
use Rattle.ud_model.specs.sections.Directives.{Content, directive, Directive, content_of, is_outside}
use Rattle.ud_model.specs.aids.ReadAs.{in_mode, read_in, read_as}
use Rattle.ud_simplified.specs.FoldedTexts.{IsReadAs, vertical_tab, has_tab, continued, continued_part, folded_body, last_ending, folded_line, is_foldable, is_directive, logical_lines, folded_bytes, folded_lines, folded_text, folded_readings, unnumbered, CLine, other_lines, c_line_by, c_line, c_lines}
use Rattle.ud_model.specs.declared.kind.Mode.TheVariants.{C}
use Rattle.ud_model.proofs.text.ScanBytes.{bare, content-prefix, scan_after-same, unnumbered as unnumbered_line}
use Rattle.ud_model.proofs.text.ScanLaws.{joins_before-code, joins_after-code, with_next}
use Rattle.ud_model.proofs.text.ScanLaws.{EndsLogicalLine, ends_with, after_end}
use Rattle.ud_model.proofs.text.ScanLaws.{readings_after-append, read_more}
use Rattle.ud_model.proofs.text.ScanLemmas.{run_of_last}
use Rattle.ud_model.proofs.text.LinesLemmas.{no_newline-append, text_of-line_at, lines_exist}
use Rattle.ud_model.proofs.sections.SplitLines.{directive_is}
use Rattle.ud_model.proofs.output.Each.{Each, each_both}
use Rattle.ud_model.proofs.output.Formed.{IsEnd, whole_ending, no_feed_parts, no_feed_cut, whole_body, ended, ending_none}
use Rattle.ud_model.proofs.output.LeavesOff.{joins_none}
use Rattle.ud_model.proofs.output.RereadChain.{AllButLast, IsInner, lines_end}
use Rattle.ud_model.proofs.output.RereadMore.{IsLine}
use Rattle.ud_model.proofs.output.OutputPieces.{output_lines}
use Rattle.ud_simplified.proofs.SimplifiedLineTexts.{own_line}
use Rattle.ud_simplified.proofs.FoldedLines.{IsMeasured, measured, folded_shown, folded_has}

-- A line without a directive begins no directive that is folded.
pub not_foldable : (r : Reading) (rs : List Reading) → is_directive (content_of r.scan) ≡ false → is_foldable (r ∷ rs) ≡ false
not_foldable r rs t = grind (arith, t)

-- 1. Logical lines, each of which is read by itself.

abbrev line_of : Reading → Line
line_of r = r.line

abbrev all_of : List (List Reading) → List Reading
all_of gs = flat_map (λ (g : List Reading). g) gs

abbrev pub IsJoined : Reading → Type 0
IsJoined r = r.scan.joins_before ≡ true

-- The lines are one logical line.
abbrev IsOne : List Reading → Type 0
IsOne [] = ⊥
IsOne (r ∷ rs) = (r.scan.joins_before ≡ false) × Each IsJoined rs

-- No line before joins the first of the lines.
abbrev StartsAnew : List Reading → Type 0
StartsAnew [] = Unit {0}
StartsAnew (r ∷ rs) = r.scan.joins_before ≡ false

-- No line is lost.
none_lost : (rs : List Reading) → continued rs ++ all_of (logical_lines rs) ≡ rs
none_lost [] = refl
none_lost (r ∷ rs) = grind (arith, none_lost rs)

joined_first : (rs more : List Reading) → Each IsJoined rs → StartsAnew more →
    (continued (rs ++ more) ≡ rs) × (logical_lines (rs ++ more) ≡ logical_lines more)
joined_first [] [] j s = (refl, refl)
joined_first [] (r ∷ more) j s = (ap (λ (b : Bool). if b then r ∷ continued more else []) s, refl)
joined_first (r ∷ rs) more j s = let q = joined_first rs more j.1 s in grind (arith, q)

one_first : (g more : List Reading) → IsOne g → StartsAnew more → logical_lines (g ++ more) ≡ g ∷ logical_lines more
one_first rs more o s = grind (arith, joined_first)

-- The lines are one logical line, read by itself.
pub record IsLogical (g : List Reading) : Type 0 where
  pub read : read_in C (map line_of g) ≡ g
  pub one : IsOne g

-- The logical line ends before others, or is the last one of a text.
abbrev Ends : List Reading → List (List Reading) → Type 0
Ends g gs = (EndsLogicalLine g × Each IsInner (map line_of g)) ⊎ ((gs ≡ []) × AllButLast (map line_of g))

-- The logical lines of a text.
abbrev pub AreLogical : List (List Reading) → Type 0
AreLogical [] = Unit {0}
AreLogical (g ∷ gs) = IsLogical g × Ends g gs × AreLogical gs

start_anew : (gs : List (List Reading)) → AreLogical gs → StartsAnew (all_of gs)
start_anew [] a = tt
start_anew ([] ∷ gs) a = absurd a.0.one
start_anew ((r ∷ rs) ∷ gs) a = a.0.one.0

regrouped : (gs : List (List Reading)) → AreLogical gs → logical_lines (all_of gs) ≡ gs
regrouped [] a = refl
regrouped (g ∷ gs) a = grind (arith, one_first g (all_of gs) a.0.one (start_anew gs a.2), regrouped gs a.2)

-- 2. Further lines.

-- The readings of lines after those before.
abbrev read_on : List Reading → List Line → List Reading
read_on before [] = []
read_on before (l ∷ ls) = next_reading before C l ∷ read_on (with_next before C l) ls

read_on_is : (before : List Reading) (ls : List Line) → readings_after before (map (in_mode C) ls) ≡ before ++ read_on before ls
read_on_is before [] = sym (append-nil before)
read_on_is before (l ∷ ls) = grind (arith, read_on_is (with_next before C l) ls, append_assoc)

next_alone : (before group : List Reading) (l : Line) → EndsLogicalLine before → next_reading (before ++ group) C l ≡ next_reading group C l
next_alone before group l e = ap (λ (s : Scan). record { line = l; mode = C; scan = s }) (after_end before group C l e)

on_alone : (before group : List Reading) (ls : List Line) → EndsLogicalLine before → read_on (before ++ group) ls ≡ read_on group ls
on_alone before group [] e = refl
on_alone before group (l ∷ ls) e = grind (arith, next_alone before group l e, append_assoc, on_alone before (with_next group C l) ls e)

both_read : (g : List Reading) (ls : List Line) → read_in C (map line_of g) ≡ g → EndsLogicalLine g →
    read_in C (map line_of g ++ ls) ≡ g ++ read_in C ls
both_read g ls r e = grind (arith, map-append, readings_after-append, read_on_is, on_alone g [] ls e, append-nil, r)

reread : (gs : List (List Reading)) → AreLogical gs → read_in C (map line_of (all_of gs)) ≡ all_of gs
reread [] a = refl
reread (g ∷ gs) (i, inl (e, n), a) = grind (arith, map-append, both_read g (map line_of (all_of gs)) i.read e, reread gs a)
reread (g ∷ gs) (i, inr (e, n), a) = grind (arith, append-nil, i.read, e)

-- 3. The logical lines of a text.

joins_next : (before : List Reading) (l k : Line) →
    (scan_after (with_next before C l) C k).joins_before ≡ (scan_after before C l).joins_after
joins_next before l k = simp (joins_before-code, joins_after-code, run_of_last) refl

-- A line of a logical line joins the next one, if that is joined.
pub next_joined : (r s : Reading) (rs : List Reading) → IsLogical (r ∷ s ∷ rs) → r.scan.joins_after ≡ s.scan.joins_before
next_joined r s rs i = let e = sym (read_on_is [] (r.line ∷ s.line ∷ map line_of rs)) ∙ i.read in
    let p : next_reading [] C r.line ≡ r = cc in
    let q : next_reading (next_reading [] C r.line ∷ []) C s.line ≡ s = cc in
    ap (λ (x : Reading). x.scan.joins_after) (sym p) ∙ sym (joins_next [] r.line s.line) ∙ ap (λ (x : Reading). x.scan.joins_before) q

one_more : (g : List Reading) (r : Reading) → IsOne g → IsJoined r → IsOne (g ++ r ∷ [])
one_more rs r o j = grind (arith, each_both)

grown : (g : List Reading) (l : Line) → IsLogical g → IsJoined (next_reading g C l) → IsLogical (with_next g C l)
grown g l i j = record {
  read = grind (arith, map-append, read_more, i.read);
  one = one_more g (next_reading g C l) i.one j;
}

first_logical : (l : Line) → IsLogical (next_reading [] C l ∷ [])
first_logical l = record { read = refl; one = (joins_before-code [] l ∙ joins_none, tt) }

and_last : (ls ks : List Line) → Each IsInner ls → AllButLast ks → AllButLast (ls ++ ks)
and_last [] ks n a = a
and_last (l ∷ []) [] n a = n.0.1
and_last (l ∷ []) (k ∷ ks) n a = (n.0, a)
and_last (l ∷ m ∷ ls) ks n a = (n.0, and_last (m ∷ ls) ks n.1 a)

-- The logical lines of `p`, `l` and `ls`, if the lines `p` and `l` are of the first one.
lines_from : (p : List Reading) (l : Line) (ls : List Line) → IsLogical (with_next p C l) → Each IsInner (map line_of p) → AllButLast (l ∷ ls) →
    AreLogical ((with_next p C l ++ continued (read_on (with_next p C l) ls)) ∷ logical_lines (read_on (with_next p C l) ls))
lines_from p l [] i n a = (rw (append-nil (with_next p C l)) i, inr (refl, last), tt)
  where
    last : AllButLast (map line_of (with_next p C l ++ []))
    last = rw (append-nil (with_next p C l), map-append line_of p (next_reading p C l ∷ [])) (and_last (map line_of p) (l ∷ []) n a)
lines_from p l (k ∷ ks) i n a =
    by (next_reading g C k).scan.joins_before refl (λ m. lines_from g k ks m inner a.1) (lines_from [] k ks (first_logical k) tt a.1)
  where
    g : List Reading
    g = with_next p C l

    r : Reading
    r = next_reading g C k

    rest : List Reading
    rest = read_on (with_next g C k) ks

    inner : Each IsInner (map line_of g)
    inner = rw (map-append line_of p (next_reading p C l ∷ [])) (each_both IsInner (map line_of p) (l ∷ []) n (a.0, tt))

    by : (b : Bool) → r.scan.joins_before ≡ b → (IsLogical (with_next g C k) → AreLogical ((with_next g C k ++ continued rest) ∷ logical_lines rest)) →
        AreLogical ((next_reading [] C k ∷ continued (read_on (with_next [] C k) ks)) ∷ logical_lines (read_on (with_next [] C k) ks)) →
        AreLogical ((g ++ (if b then r ∷ continued rest else [])) ∷ (if b then logical_lines rest else (r ∷ continued rest) ∷ logical_lines rest))
    by true e f h = rw (sym (append_assoc g (r ∷ []) (continued rest))) (f (grown g k i e))
    by false e f h =
        let end : EndsLogicalLine g = ends_with p C l (sym (joins_next p l k) ∙ e) a.0.0 in
        let same = ap (λ (rs : List Reading). next_reading rs C k) (sym (append-nil g)) ∙ next_alone g [] k end in (
          rw (append-nil g) i,
          inl (rw (append-nil g) (end, inner)),
          rw (on_alone g (r ∷ []) ks end, same) h,
        )

lines_logical : (ls : List Line) → AllButLast ls → AreLogical (logical_lines (read_in C ls))
lines_logical [] a = tt
lines_logical (l ∷ ls) a =
    subst (λ (rs : List Reading). AreLogical (logical_lines rs)) (sym (read_on_is [] (l ∷ ls)))
    (subst AreLogical (sym (ap (λ (b : Bool). if b then logical_lines rest else (next_reading [] C l ∷ continued rest) ∷ logical_lines rest) (first_logical l).one.0))
    (lines_from [] l ls (first_logical l) tt a))
  where
    rest : List Reading
    rest = read_on (next_reading [] C l ∷ []) ls

pub text_logical : (bytes : List ℕ) → AreLogical (logical_lines (read_as C bytes))
text_logical bytes = lines_logical (lines_of bytes) (lines_end 1 (texts_of bytes) (lines_exist bytes).formed)

-- 4. Folded logical lines.

are_lines : (ls : List Line) → AllButLast ls → Each IsLine ls
are_lines [] a = tt
are_lines (l ∷ []) a = (a, tt)
are_lines (l ∷ k ∷ ls) a = (a.0.1, are_lines (k ∷ ls) a.1)

inner_lines : (ls : List Line) → Each IsInner ls → Each IsLine ls
inner_lines [] n = tt
inner_lines (l ∷ ls) n = (n.0.1, inner_lines ls n.1)

lines_of_one : (g : List Reading) (gs : List (List Reading)) → Ends g gs → Each IsLine (map line_of g)
lines_of_one g gs c = grind (arith, inner_lines, are_lines)

-- A line has no newline in its body.
body_open : (l : Line) → IsLine l → NoNewline l.body
body_open l h = grind (arith, whole_body, no_feed_cut)

part_open : (outside : Bool) (l : Line) → NoNewline l.body → NoNewline ((if outside then content l else l.body) ++ vertical_tab ∷ [])
part_open true l n = let p = content-prefix l in
    no_newline-append (content l) (vertical_tab ∷ []) (no_feed_parts (content l) p.0 (subst NoNewline p.1 n)).0 ((λ q. omega arith), tt)
part_open false l n = no_newline-append l.body (vertical_tab ∷ []) n ((λ q. omega arith), tt)

folded_open : (g : List Reading) → Each IsLine (map line_of g) → NoNewline (folded_body g)
folded_open [] h = tt
folded_open (r ∷ []) h = body_open r.line h.0
folded_open (r ∷ s ∷ rs) h =
    no_newline-append (continued_part r) (folded_body (s ∷ rs)) (part_open (is_outside r.scan.comment) r.line (body_open r.line h.0)) (folded_open (s ∷ rs) h.1)

-- The ending of the folded line.
record HasEnding (k : Line) : Type 0 where
  pub some : k.ending ≢ []
  pub own : ending_of (text_of k) ≡ k.ending

has_ending : (g : List Reading) → is_foldable g ≡ true → HasEnding (folded_line g)
has_ending g e = record { some = λ q. grind (arith, and_parts); own = grind (arith, and_parts, bytes_eq-Decides) }

last_end : (g : List Reading) → Each IsLine (map line_of g) → last_ending g ≢ [] → IsEnd (last_ending g)
last_end [] h some = absurd (some refl)
last_end (r ∷ []) ((n, t, e, inl w), h) some = subst (λ (l : Line). IsEnd l.ending) (sym e) (whole_ending t w)
last_end (r ∷ []) ((n, t, e, inr w), h) some = absurd (some (ap (λ (l : Line). l.ending) e ∙ ending_none t w.1))
last_end (r ∷ s ∷ rs) h some = last_end (s ∷ rs) h.1 some

folded_inner : (g : List Reading) → Each IsLine (map line_of g) → HasEnding (folded_line g) → IsInner (folded_line g)
folded_inner g h i = let k : Line = folded_line g in
    (i.some, (1, text_of k, own_line k i.own, inl (ended k.body k.ending (folded_open g h) (last_end g h i.some))))

folded_one : (g : List Reading) (gs : List (List Reading)) → IsLogical g → Ends g gs → IsLogical (folded_readings g) × Ends (folded_readings g) (map folded_readings gs)
folded_one g gs i n = by (is_foldable g) refl n
  where
    k : Line
    k = folded_line g

    by : (b : Bool) → is_foldable g ≡ b → Ends g gs →
        IsLogical (if b then next_reading [] C k ∷ [] else g) × Ends (if b then next_reading [] C k ∷ [] else g) (map folded_readings gs)
    by true e n = let h : HasEnding k = has_ending g e in
        (first_logical k, inl (ends_with [] C k (folded_shown g e).ends h.some, (folded_inner g (lines_of_one g gs n) h, tt)))
    by false e (inl n) = (i, inl n)
    by false e (inr n) = (i, inr (ap (λ (hs : List (List Reading)). map folded_readings hs) n.0, n.1))

folded_logical : (gs : List (List Reading)) → AreLogical gs → AreLogical (map folded_readings gs)
folded_logical [] a = tt
folded_logical (g ∷ gs) a = let f = folded_one g gs a.0 a.1 in (f.0, f.1, folded_logical gs a.2)

-- 5. The lines of the folded text.

abbrev bytes_of : List Reading → List (List ℕ)
bytes_of rs = map text_of (map line_of rs)

plain_bytes : (rs : List Reading) → flat_map (λ (r : Reading). text_of r.line) rs ≡ concat (bytes_of rs)
plain_bytes [] = refl
plain_bytes (r ∷ rs) = ap (λ (t : List ℕ). text_of r.line ++ t) (plain_bytes rs)

one_bytes : (g : List Reading) → folded_bytes g ≡ concat (bytes_of (folded_readings g))
one_bytes g = by (is_foldable g)
  where
    by : (b : Bool) → (if b then text_of (folded_line g) else flat_map (λ (r : Reading). text_of r.line) g) ≡ concat (bytes_of (if b then next_reading [] C (folded_line g) ∷ [] else g))
    by true = sym (append-nil (text_of (folded_line g)))
    by false = plain_bytes g

all_bytes : (gs : List (List Reading)) → flat_map folded_bytes gs ≡ concat (bytes_of (all_of (map folded_readings gs)))
all_bytes [] = refl
all_bytes (g ∷ gs) = grind (arith, one_bytes, all_bytes gs, concat-append, map-append)

-- The lines of logical lines.
all_lines : (gs : List (List Reading)) → AreLogical gs → AllButLast (map line_of (all_of gs))
all_lines [] a = tt
all_lines (g ∷ gs) (i, inl (e, n), a) = rw (map-append line_of g (all_of gs)) (and_last (map line_of g) (map line_of (all_of gs)) n (all_lines gs a))
all_lines (g ∷ gs) (i, inr (e, n), a) = rw (e, append-nil g) n

line_text : (l : Line) → IsLine l → IsWhole (text_of l) ⊎ IsUnterminated (text_of l)
line_text l (n, t, e, inl w) = inl (rw (e, text_of-line_at n t) w)
line_text l (n, t, e, inr w) = inr (rw (e, text_of-line_at n t) w)

inner_text : (l : Line) → IsInner l → IsWhole (text_of l)
inner_text l (h, (n, t, e, inl w)) = rw (e, text_of-line_at n t) w
inner_text l (h, (n, t, e, inr w)) = absurd (h (ap (λ (k : Line). k.ending) e ∙ ending_none t w.1))

formed : (ls : List Line) → AllButLast ls → AreFormed (map text_of ls)
formed [] a = tt
formed (l ∷ []) a = line_text l a
formed (l ∷ k ∷ ls) a = (inner_text l a.0, formed (k ∷ ls) a.1)

-- Lines that are numbered anew.
renumbered : (n : ℕ) (l : Line) → IsLine l → unnumbered_line (line_at n (text_of l)) ≡ unnumbered_line l
renumbered n l (m, t, e, w) = rw (e, text_of-line_at m t) refl

all_renumbered : (n : ℕ) (ls : List Line) → Each IsLine ls → map unnumbered_line (numbered_from n (map text_of ls)) ≡ map unnumbered_line ls
all_renumbered n [] h = refl
all_renumbered n (l ∷ ls) h = grind (arith, renumbered n l h.0, all_renumbered (suc n) ls h.1)

-- Numbers never count.
abbrev unscanned : Reading → Reading
unscanned r = record { line = r.line; mode = r.mode; scan = plain_scan r.line }

bare_all : (rs : List Reading) → map bare rs ≡ map unscanned (map unnumbered rs)
bare_all [] = refl
bare_all (r ∷ rs) = ap (λ (ss : List Reading). bare r ∷ ss) (bare_all rs)

read_alike : (before others : List Reading) (ls ks : List Line) → map unnumbered before ≡ map unnumbered others → map unnumbered_line ls ≡ map unnumbered_line ks →
    map unnumbered (readings_after before (map (in_mode C) ls)) ≡ map unnumbered (readings_after others (map (in_mode C) ks))
read_alike before others [] [] e q = e
read_alike before others (l ∷ ls) (k ∷ ks) e q =
    let same : unnumbered_line l ≡ unnumbered_line k = cc in
    let more : map unnumbered_line ls ≡ map unnumbered_line ks = cc in
    let scans : scan_after before C l ≡ scan_after others C k =
    scan_after-same before others C l k (bare_all before ∙ ap (λ (rs : List Reading). map unscanned rs) e
    ∙ sym (bare_all others)) (ap (λ (j : Line). j.body) same) (ap (λ (j : Line). j.ending) same) in
    let next : unnumbered (next_reading before C l) ≡ unnumbered (next_reading others C k) = ap₂ (λ (j : Line) (s : Scan). record { line = j; mode = C; scan = s }) same scans in
    read_alike (with_next before C l) (with_next others C k) ls ks
    (rw (map-append unnumbered before (next_reading before C l ∷ []), map-append unnumbered others (next_reading others C k ∷ []), e, next) refl) more
read_alike before others [] (k ∷ ks) e q = cc
read_alike before others (l ∷ ls) [] e q = cc

module _ (bytes : List ℕ) (no_tab : has_tab bytes ≡ false) where
  abbrev groups : List (List Reading)
  groups = logical_lines (read_as C bytes)

  abbrev result : List Reading
  result = all_of (map folded_readings groups)

  logical : AreLogical (map folded_readings groups)
  logical = folded_logical groups (text_logical bytes)

  lines_there : lines_of (folded_text bytes) ≡ numbered_from 1 (bytes_of result)
  lines_there =
      ap lines_of (ap (λ (b : Bool). if b then bytes else folded_lines (read_as C bytes)) no_tab ∙ all_bytes groups)
      ∙ output_lines (bytes_of result) (formed (map line_of result) (all_lines (map folded_readings groups) logical))

  -- The readings of the folded text.
  readings_there : map unnumbered (read_as C (folded_text bytes)) ≡ map unnumbered result
  readings_there = ap (λ (ls : List Line). map unnumbered (read_in C ls)) lines_there
      ∙ read_alike [] [] (numbered_from 1 (bytes_of result)) (map line_of result) refl
      (all_renumbered 1 (map line_of result)
      (are_lines (map line_of result) (all_lines (map folded_readings groups) logical)))
      ∙ ap (λ (rs : List Reading). map unnumbered rs) (reread (map folded_readings groups) logical)

-- 6. What C reads.

pub has_directive : (c : Content) → is_directive c ≡ true → (d : Directive) × (c ≡ directive d)
has_directive c e = grind arith

-- A logical line without numbers, as C reads it.
abbrev c_line_of : List Reading → CLine
c_line_of g = c_line (map unnumbered g)

-- The directive of a logical line, and that of its folded line.
pub record BothDirectives (r : Reading) (rs : List Reading) : Type 0 where
  pub before : Directive
  pub has : content_of r.scan ≡ directive before
  pub now : Directive
  pub has_now : content_of (scan_after_run [] (folded_line (r ∷ rs))) ≡ directive now
  pub alike : IsReadAs now before rs

pub both_directives : (r : Reading) (rs : List Reading) → IsLogical (r ∷ rs) → is_foldable (r ∷ rs) ≡ true → BothDirectives r rs
both_directives r rs i f = let d = has_directive (content_of r.scan) (begins f) in
    let e = folded_has r rs d.0 (subst (Each IsMeasured) i.read (measured [] (map line_of (r ∷ rs)) tt)) (folded_shown (r ∷ rs) f) ((directive_is r.scan d.0).0 d.1) in
    record { before = d.0; has = d.1; now = e.0; has_now = e.1; alike = e.2 }
  where
    begins : is_foldable (r ∷ rs) ≡ true → is_directive (content_of r.scan) ≡ true
    begins f = grind (arith, and_parts)

same_directive : (r : Reading) (rs : List Reading) → BothDirectives r rs → (other : CLine) →
    c_line_by (content_of (scan_after_run [] (folded_line (r ∷ rs)))) [] other ≡ c_line_of (r ∷ rs)
same_directive r rs h other = grind (arith, append-nil, flat_map-map)

same_c_line : (g : List Reading) → IsLogical g → c_line_of (folded_readings g) ≡ c_line_of g
same_c_line [] i = absurd i.one
same_c_line (r ∷ rs) i = by (is_foldable (r ∷ rs)) refl
  where
    by : (b : Bool) → is_foldable (r ∷ rs) ≡ b → c_line_of (if b then next_reading [] C (folded_line (r ∷ rs)) ∷ [] else r ∷ rs) ≡ c_line_of (r ∷ rs)
    by true f = same_directive r rs (both_directives r rs i f) (other_lines (unnumbered (next_reading [] C (folded_line (r ∷ rs))) ∷ []))
    by false f = refl

each_c_line : (gs : List (List Reading)) → AreLogical gs → map c_line (map (map unnumbered) (map folded_readings gs)) ≡ map c_line (map (map unnumbered) gs)
each_c_line [] a = refl
each_c_line (g ∷ gs) a = ap₂ (λ (c : CLine) (cs : List CLine). c ∷ cs) (same_c_line g a.0) (each_c_line gs a.2)

-- Numbers never count.
continued_unnumbered : (rs : List Reading) → continued (map unnumbered rs) ≡ map unnumbered (continued rs)
continued_unnumbered [] = refl
continued_unnumbered (r ∷ rs) = grind (arith, continued_unnumbered rs)

pub logical_unnumbered : (rs : List Reading) → logical_lines (map unnumbered rs) ≡ map (map unnumbered) (logical_lines rs)
logical_unnumbered [] = refl
logical_unnumbered (r ∷ rs) = grind (arith, continued_unnumbered rs, logical_unnumbered rs)

-- Each line of a text is one of a logical line.
pub all_there : (bytes : List ℕ) → flat_map (λ (g : List Reading). g) (logical_lines (read_as C bytes)) ≡ read_as C bytes
all_there bytes =
    ap (λ (rs : List Reading). rs ++ all_of (logical_lines (read_as C bytes))) (sym (joined_first [] (read_as C bytes) tt (starts (lines_of bytes))).0)
    ∙ none_lost (read_as C bytes)
  where
    starts : (ls : List Line) → StartsAnew (read_in C ls)
    starts [] = tt
    starts (l ∷ ls) = subst StartsAnew (sym (read_on_is [] (l ∷ ls))) (first_logical l).one.0

-- The readings of the folded text.
pub readings_folded : (bytes : List ℕ) → has_tab bytes ≡ false →
    map unnumbered (read_as C (folded_text bytes)) ≡ map unnumbered (flat_map folded_readings (logical_lines (read_as C bytes)))
readings_folded bytes e = grind (arith, readings_there, flat_map-map)

-- C reads the logical lines of the text in the folded text.
pub same_c_lines : (bytes : List ℕ) → c_lines (folded_text bytes) ≡ c_lines bytes
same_c_lines bytes = by (has_tab bytes) refl
  where
    by : (b : Bool) → has_tab bytes ≡ b → c_lines (folded_text bytes) ≡ c_lines bytes
    by true e = ap c_lines (ap (λ (b : Bool). if b then bytes else folded_lines (read_as C bytes)) e)
    by false e = ap (λ (rs : List Reading). map c_line (logical_lines rs)) (readings_there bytes e)
        ∙ ap (map c_line) (logical_unnumbered (result bytes e) ∙ ap (map (map unnumbered)) (regrouped (map folded_readings (groups bytes e)) (logical bytes e)))
        ∙ each_c_line (groups bytes e) (text_logical bytes)
        ∙ ap (map c_line) (sym (logical_unnumbered (read_as C bytes)))
