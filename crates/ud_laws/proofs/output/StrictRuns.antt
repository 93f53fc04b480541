-- Runs with and without `-K`, line by line: a text line that the one with `-K` removes is removed
-- by the other.
use Rattle.std.proofs.Common.{◌≡◌, ℕ, ◌≤◌, List, [], ◌∷◌, ◌++◌, map, false, Option, None, inl, inr, ◌⊎◌, refl, sym, ◌∙◌, ap, subst, append_assoc, append-nil, arith, Bool, true, ◌&&◌, ◌||◌, ap₂}
use Rattle.std.proofs.lemmas.List.{same_from_push, map-append}
use Rattle.ud_model.specs.text.Lines.{Line, lines_of}
use Rattle.ud_model.specs.text.Scans.{Reading}
use Rattle.ud_model.specs.sections.Directives.{content_of}
use Rattle.ud_model.specs.sections.Tree.{Item, Tree, text_line, if_line, elif_line, else_line, endif_line, lines, Opener, Nodes, Elifs, Head, nothing, text, section, first, elif, if_head, elif_head, else_head, closed, open_section, opener_of_elifs, opener_of_head, is_ignoring}
use Rattle.ud_model.specs.sections.Pruning.{Mark, marks, marked, any_true, is_kept, is_inside_kept, conds_of_elifs, is_removed}
use Rattle.ud_model.specs.sections.Items.{Options, reading_of, line_of, item_of, mode_after, read_after, next_item}
use Rattle.ud_model.specs.sections.Faults.{Fault, AreFaultless, no_lines, one_more}
use Rattle.ud_model.specs.answer.Printing.{Judged, judged_line, judged_lines, keyword_in}
use Rattle.ud_model.specs.answer.Outcomes.{Outcome, ReadsAs, HasOutcome, ran_as}
use Rattle.ud_laws.specs.answer.Successes.{JudgedAs, judged_as}
use Rattle.ud_model.specs.answer.Outcomes.ReadsAs.{stops, ends}
use Rattle.ud_laws.specs.output.SharedLines.{OnlyDecides}
use Rattle.ud_laws.specs.output.StrictLines.{under_strict, KeepsAsMuch, KeepAsMuch, pieces_of}
use Rattle.ud_model.proofs.text.Pushes.{ByPush, none, push, by_push, push_not_nil}
use Rattle.ud_laws.proofs.conditions.StrictItems.{LooserItem, a_text, an_if, an_elif, an_else, an_endif, item_loose, Looser, alike, unknown, LooserOpener}
use Rattle.ud_model.proofs.sections.Growth.{Adds, adds-once, adds_text, adds_if, elif_after_if, elif_after_elif, else_after_if, else_after_elif, adds_endif, adds_under, complete}
use Rattle.ud_model.proofs.sections.Unique.{grows}
use Rattle.ud_model.proofs.sections.Stays.{marks_more, length_marks, marks_so_far_same}
use Rattle.ud_model.proofs.sections.Soundness.{reading_of-item_of, lines_with_next, sound_lines, one_run}
use Rattle.ud_laws.proofs.output.BlankedLineLemmas.{judged_read}
use Rattle.ud_model.proofs.output.Each.{Pairs, no_pair, pair, pairs_both}
use Rattle.ud_model.proofs.output.KeywordSizes.{content_size}
use Rattle.ud_laws.proofs.output.SharedLineLemmas.{printed_lone}
use Rattle.ud_model.proofs.answer.Onward.{judged_more}
use Rattle.std.proofs.lemmas.Bool.{and_parts}
use Rattle.ud_model.specs.aids.SoFar.{marks_so_far}
use Rattle.ud_model.specs.declared.cond.Cond.{Cond}
use Rattle.ud_model.specs.declared.cond.Cond.TheVariants.{Yes, No, Unknown}
use Rattle.ud_model.specs.declared.verdict.Verdict.TheVariants.{Keep}

-- The trees of a text with and without `-K`: the same sections are open, and a group that is kept
-- without is kept with `-K`.

-- 1. Open sections.

-- The groups have the same first directive, and their conditions go together.
pub record LooserElifs (es fs : Elifs Reading) : Type 0 where
  pub conds : Pairs Looser (conds_of_elifs es) (conds_of_elifs fs)
  pub ignoring : (opener_of_elifs fs).ignoring ≡ (opener_of_elifs es).ignoring

-- The heads have the same parts, and their conditions go together.
pub data LooserHead : Head Reading → Head Reading → Type 0 where
  with_if : {o p : Opener Reading} → LooserOpener o p → LooserHead (if_head o) (if_head p)
  with_elif : {es fs : Elifs Reading} {o p : Opener Reading} → LooserElifs es fs → LooserOpener o p → LooserHead (elif_head es o) (elif_head fs p)
  with_else : {es fs : Elifs Reading} {r s : Reading} → LooserElifs es fs → LooserHead (else_head es r) (else_head fs s)

-- Trees with the same open sections.
pub data LooserTree : Tree Reading → Tree Reading → Type 0 where
  none_open : {ns ms : Nodes Reading} → LooserTree (closed ns) (closed ms)
  one_open : {ns ms : Nodes Reading} {h k : Head Reading} {t u : Tree Reading} → LooserHead h k → LooserTree t u → LooserTree (open_section ns h t) (open_section ms k u)

first_loose : {o p : Opener Reading} {a b : Nodes Reading} → LooserOpener o p → LooserElifs (first o a) (first p b)
first_loose k = record { conds = pair k.cond no_pair; ignoring = k.ignoring }

elif_loose : {es fs : Elifs Reading} {o p : Opener Reading} {a b : Nodes Reading} → LooserElifs es fs → LooserOpener o p → LooserElifs (elif es o a) (elif fs p b)
elif_loose e k = record { conds = pairs_both Looser e.conds (pair k.cond no_pair); ignoring = e.ignoring }

-- One line more opens and closes the same sections.
pub loose_grows : {t u : Tree Reading} {x : Item Reading} → Adds t x u → {v : Tree Reading} {y : Item Reading} → LooserTree t v → LooserItem x y →
    (w : Tree Reading) × Adds v y w × LooserTree u w
loose_grows adds_text (none_open {ms = ms}) (a_text {r = r}) = (closed (text ms r), adds_text, none_open)
loose_grows adds_if (none_open {ms = ms}) (an_if {p = p} k) = (open_section ms (if_head p) (closed nothing), adds_if, one_open (with_if k) none_open)
loose_grows elif_after_if (one_open {ms = ms} (with_if {p = q} h) (none_open {ms = b})) (an_elif {p = p} k) =
    (open_section ms (elif_head (first q b) p) (closed nothing), elif_after_if, one_open (with_elif (first_loose h) k) none_open)
loose_grows elif_after_elif (one_open {ms = ms} (with_elif {fs = fs} {p = q} e h) (none_open {ms = b})) (an_elif {p = p} k) =
    (open_section ms (elif_head (elif fs q b) p) (closed nothing), elif_after_elif, one_open (with_elif (elif_loose e h) k) none_open)
loose_grows else_after_if (one_open {ms = ms} (with_if {p = q} h) (none_open {ms = b})) (an_else {r = r}) =
    (open_section ms (else_head (first q b) r) (closed nothing), else_after_if, one_open (with_else (first_loose h)) none_open)
loose_grows else_after_elif (one_open {ms = ms} (with_elif {fs = fs} {p = q} e h) (none_open {ms = b})) (an_else {r = r}) =
    (open_section ms (else_head (elif fs q b) r) (closed nothing), else_after_elif, one_open (with_else (elif_loose e h)) none_open)
loose_grows adds_endif (one_open {ms = ms} {k = k} h (none_open {ms = b})) (an_endif {r = r}) = (closed (section ms (complete k b) r), adds_endif, none_open)
loose_grows (adds_under a) (one_open {ms = ms} {k = k} h t) i =
    let g = loose_grows a t i in (open_section ms k g.0, adds_under g.1, one_open h g.2)

head_ignoring : {h k : Head Reading} → LooserHead h k → (opener_of_head k).ignoring ≡ (opener_of_head h).ignoring
head_ignoring h = grind arith

-- Both trees are ignoring, or neither is.
pub loose_ignoring : {t u : Tree Reading} → LooserTree t u → is_ignoring u ≡ is_ignoring t
loose_ignoring none_open = refl
loose_ignoring (one_open h t) = ap₂ (λ (a b : Bool). a || b) (head_ignoring h) (loose_ignoring t)

-- 2. Kept groups.

any_loose : {cs ds : List Cond} → Pairs Looser cs ds → any_true ds ≡ false → any_true cs ≡ false
any_loose (pair (alike {c = No}) p) e = any_loose p e
any_loose (pair (alike {c = Unknown}) p) e = any_loose p e
any_loose (pair (unknown {d = No}) p) e = any_loose p e
any_loose (pair (unknown {d = Unknown}) p) e = any_loose p e
any_loose h g = grind arith

kept_loose : {cs ds : List Cond} {c d : Cond} → Pairs Looser cs ds → Looser c d → is_kept ds d ≡ true → is_kept cs c ≡ true
kept_loose p l e = grind (arith, any_loose)

inside_loose : {h k : Head Reading} → LooserHead h k → is_inside_kept k ≡ true → is_inside_kept h ≡ true
inside_loose (with_if o) e = kept_loose no_pair o.cond e
inside_loose (with_elif es o) e = kept_loose es.conds o.cond e
inside_loose (with_else es) e = kept_loose es.conds (alike {c = Yes}) e

-- All groups around the end of the text are kept.
abbrev pub kept_at_end : Bool → Tree Reading → Bool
kept_at_end kept (closed ns) = kept
kept_at_end kept (open_section ns h t) = kept_at_end (kept && is_inside_kept h) t

-- The end of a text that is kept without `-K` is kept with it.
pub end_loose : {t u : Tree Reading} → LooserTree t u → (a b : Bool) → (b ≡ true → a ≡ true) → kept_at_end b u ≡ true → kept_at_end a t ≡ true
end_loose none_open a b h e = h e
end_loose (one_open {h = k} {k = l} s t) a b h e =
    end_loose t (a && is_inside_kept k) (b && is_inside_kept l) (λ f. let q = and_parts b (is_inside_kept l) f in ap₂ (λ (x y : Bool). x && y) (h q.0) (inside_loose s q.1)) e

-- 3. The mark of a text line.

text_mark_in : {t u : Tree Reading} {x : Item Reading} → Adds t x u → (r : Reading) → x ≡ text_line r → (kept : Bool) →
    marks_so_far kept u ≡ marks_so_far kept t ++ marked (kept_at_end kept t) Keep ∷ []
text_mark_in (adds_under {h = h} a) r e kept =
    simp (append_assoc, text_mark_in a r e (kept && is_inside_kept h))
text_mark_in h r g kept = grind arith

-- A text line is kept if all groups around it are.
pub text_mark : {t u : Tree Reading} {x : Item Reading} → Adds t x u → (r : Reading) → x ≡ text_line r →
    marks u ≡ marks t ++ marked (kept_at_end true t) Keep ∷ []
text_mark a r e = grind (arith, marks_so_far_same, text_mark_in)

-- A text line that is removed with `-K` is removed without.
pub removed_loose : {t u : Tree Reading} → LooserTree t u → is_removed (marked (kept_at_end true t) Keep).verdict ≡ true →
    is_removed (marked (kept_at_end true u) Keep).verdict ≡ true
removed_loose k = grind (arith, end_loose)

-- 4. One line more.

-- The directive has a keyword.
abbrev HasSome : Item Reading → Type 0
HasSome (text_line r) = Unit {0}
HasSome (if_line o) = 1 ≤ (keyword_in (content_of o.line.scan)).len
HasSome (elif_line o) = 1 ≤ (keyword_in (content_of o.line.scan)).len
HasSome (else_line r) = 1 ≤ (keyword_in (content_of r.scan)).len
HasSome (endif_line r) = 1 ≤ (keyword_in (content_of r.scan)).len

-- One line more has marks by which it keeps as much.
record MarkedMore (t t2 u u2 : Tree Reading) (x y : Item Reading) : Type 0 where
  pub with : Mark
  pub without : Mark
  pub marks_with : marks t2 ≡ marks t ++ with ∷ []
  pub marks_without : marks u2 ≡ marks u ++ without ∷ []
  pub keeps : KeepsAsMuch (judged_line y without) (judged_line x with)

-- A directive keeps as much, since it is no text.
directive_keeps : (x y : Item Reading) (m n : Mark) → reading_of y ≡ reading_of x →
    1 ≤ (keyword_in (content_of (reading_of x).scan)).len → KeepsAsMuch (judged_line y n) (judged_line x m)
directive_keeps x y m n e h = grind arith

marked_more : {t t2 u u2 : Tree Reading} {x y : Item Reading} → Adds t x t2 → Adds u y u2 → LooserTree t u → LooserItem x y → HasSome x → MarkedMore t t2 u u2 x y
marked_more a b k (a_text {r = r}) h = record {
  with = _;
  without = _;
  marks_with = text_mark a r refl;
  marks_without = text_mark b r refl;
  keeps = record { line = refl; keyword = refl; text = λ e. removed_loose k };
}
marked_more a b k (an_if i) h = grind (arith, marks_more, directive_keeps)
marked_more a b k (an_elif i) h = grind (arith, marks_more, directive_keeps)
marked_more a b k an_else h = grind (arith, marks_more, directive_keeps)
marked_more a b k an_endif h = grind (arith, marks_more, directive_keeps)

judged_grown : (xs : List (Item Reading)) (t u : Tree Reading) (x : Item Reading) (m : Mark) → lines t ≡ xs → marks u ≡ marks t ++ m ∷ [] →
    judged_lines (xs ++ x ∷ []) (marks u) ≡ judged_lines xs (marks t) ++ judged_line x m ∷ []
judged_grown xs t u x m q e = grind (arith, judged_more, length_marks)

-- 5. As many lines with and without `-K`.

record Alongside (xs : List (Item Reading)) (t : Tree Reading) (ys : List (Item Reading)) (u : Tree Reading) : Type 0 where
  pub sections : LooserTree t u
  pub readings : map reading_of xs ≡ map reading_of ys
  pub judged : Pairs KeepsAsMuch (judged_lines ys (marks u)) (judged_lines xs (marks t))

grown : {o : Options} (xs : List (Item Reading)) (t u : Tree Reading) (x : Item Reading) → AreFaultless o xs t → lines u ≡ xs ++ x ∷ [] → Adds t x u
grown xs t u x a e = grows t u x (e ∙ ap (λ (ys : List (Item Reading)). ys ++ x ∷ []) (sym (sound_lines a)))

module _ (o : Options) where
  abbrev with_k : Options
  with_k = under_strict o

  one_alongside : (xs ys : List (Item Reading)) (t t2 u u2 : Tree Reading) (r s : Reading) → AreFaultless with_k xs t → AreFaultless o ys u → Alongside xs t ys u → r ≡ s →
      lines t2 ≡ xs ++ item_of with_k r ∷ [] → lines u2 ≡ ys ++ item_of o s ∷ [] → Alongside (xs ++ item_of with_k r ∷ []) t2 (ys ++ item_of o s ∷ []) u2
  one_alongside xs ys t t2 u u2 r s a b k e f g = let x : Item Reading = item_of with_k r in
      let y : Item Reading = item_of o s in
      let i : LooserItem x y = subst (λ (z : Reading). LooserItem x (item_of o z)) e (item_loose o r) in
      let p : Adds t x t2 = grown xs t t2 x a f in
      let q : Adds u y u2 = grown ys u u2 y b g in
      let w = loose_grows p k.sections i in
      let m : MarkedMore t t2 u u2 x y = marked_more p q k.sections i (grind (arith, content_size)) in
      record {
        sections = subst (λ (v : Tree Reading). LooserTree t2 v) (adds-once w.1 q) w.2;
        readings = cc (map-append reading_of xs (x ∷ []), k.readings, reading_of-item_of with_k r, e, reading_of-item_of o s, map-append reading_of ys (y ∷ []));
        judged = subst (λ (js : List Judged). Pairs KeepsAsMuch js (judged_lines (xs ++ x ∷ []) (marks t2))) (sym (judged_grown ys u u2 y m.without (sound_lines b) m.marks_without))
            (subst (λ (ks : List Judged). Pairs KeepsAsMuch (judged_lines ys (marks u) ++ judged_line y m.without ∷ []) ks) (sym (judged_grown xs t t2 x m.with (sound_lines a) m.marks_with))
            (pairs_both KeepsAsMuch k.judged (pair m.keeps no_pair)));
      }

  -- Runs over as many lines go together.
  alongside : {xs ys : List (Item Reading)} {t u : Tree Reading} → AreFaultless with_k xs t → AreFaultless o ys u → map line_of xs ≡ map line_of ys → Alongside xs t ys u
  alongside no_lines no_lines e = record { sections = none_open; readings = refl; judged = no_pair }
  alongside no_lines (one_more ys u b k v d m) e = absurd (push_not_nil (map line_of ys) k (sym (lines_with_next o ys u k) ∙ sym e))
  alongside (one_more xs t a l w c n) no_lines e = absurd (push_not_nil (map line_of xs) l (sym (lines_with_next with_k xs t l) ∙ e))
  alongside (one_more xs t a l w c n) (one_more ys u b k v d m) e =
      let s : (map line_of xs ≡ map line_of ys) × (l ≡ k) =
      same_from_push (map line_of xs) (map line_of ys) l k (sym (lines_with_next with_k xs t l) ∙ e ∙ lines_with_next o ys u k) in
      let z : Alongside xs t ys u = alongside a b s.0 in
      one_alongside xs ys t w u v (read_after xs (mode_after with_k t) l) (read_after ys (mode_after o u) k) a b z (rw (loose_ignoring z.sections, z.readings, s.1)) c d

-- 6. One run stops before the other.

-- Faultless items of the first lines, with the judged lines of all.
record Front (o : Options) (ls : List Line) (js : List Judged) : Type 0 where
  pub items : List (Item Reading)
  pub tree : Tree Reading
  pub sound : AreFaultless o items tree
  pub are : map line_of items ≡ ls
  pub rest : List Judged
  pub judged : js ≡ judged_lines items (marks tree) ++ rest

front : (o : Options) (ls : List Line) {more : List Line} → ByPush more → (ys : List (Item Reading)) (u : Tree Reading) → AreFaultless o ys u →
    map line_of ys ≡ ls ++ more → Front o ls (judged_lines ys (marks u))
front o ls none ys u b e = record { items = ys; tree = u; sound = b; are = e ∙ append-nil ls; rest = []; judged = sym (append-nil (judged_lines ys (marks u))) }
front o ls (push {xs = ms} l p) _ _ no_lines e = absurd (push_not_nil (ls ++ ms) l (append_assoc ls ms (l ∷ []) ∙ sym e))
front o ls (push {xs = ms} l p) _ _ (one_more ys u b k v d m) e =
    let s : (map line_of ys ≡ ls ++ ms) × (k ≡ l) =
    same_from_push (map line_of ys) (ls ++ ms) k l (sym (lines_with_next o ys u k) ∙ e ∙ sym (append_assoc ls ms (l ∷ []))) in
    let f : Front o ls (judged_lines ys (marks u)) = front o ls p ys u b s.0 in
    let y : Item Reading = next_item o ys u k in
    let n = marks_more (grown ys u v y b d) in
    record {
      items = f.items;
      tree = f.tree;
      sound = f.sound;
      are = f.are;
      rest = f.rest ++ judged_line y n.0 ∷ [];
      judged = cc (judged_grown ys u v y n.0 (sound_lines b) n.1, f.judged, append_assoc (judged_lines f.items (marks f.tree)) f.rest (judged_line y n.0 ∷ []));
    }

-- Two lists with which one list begins: one of them begins with the other.
fronts : (cs bs ws vs : List Line) → cs ++ ws ≡ bs ++ vs → ((m : List Line) × (cs ≡ bs ++ m)) ⊎ ((m : List Line) × (bs ≡ cs ++ m))
fronts (a ∷ cs) (b ∷ bs) ws vs e = grind (arith, fronts cs bs ws vs (cc))
fronts cs bs ws vs h = grind arith

more_without : {js ks : List Judged} → Pairs KeepsAsMuch js ks → (more : List Judged) → KeepAsMuch (js ++ more) ks
more_without no_pair [] = tt
more_without no_pair (j ∷ more) = tt
more_without (pair k p) more = (k, more_without p more)

more_with : {js ks : List Judged} → Pairs KeepsAsMuch js ks → (more : List Judged) → KeepAsMuch js (ks ++ more)
more_with no_pair more = tt
more_with (pair k p) more = (k, more_with p more)

-- The lines that were read, and the others.
record LinesRead (o : Options) (input : List ℕ) (xs : List (Item Reading)) (t : Tree Reading) : Type 0 where
  pub sound : AreFaultless o xs t
  pub later : List Line
  pub are : lines_of input ≡ map line_of xs ++ later

lines_read : {o : Options} {input : List ℕ} {xs : List (Item Reading)} {t : Tree Reading} {f : Option Fault} → ReadsAs o input xs t f → LinesRead o input xs t
lines_read (stops xs t f s) = record { sound = s.sound; later = s.faulty ∷ s.later; are = s.are }
lines_read (ends xs t g) = record { sound = g.sound; later = []; are = g.are ∙ sym (append-nil (map line_of xs)) }

keep_by : (o : Options) (input : List ℕ) (xs ys : List (Item Reading)) (t u : Tree Reading) → LinesRead (under_strict o) input xs t → LinesRead o input ys u →
    KeepAsMuch (judged_lines ys (marks u)) (judged_lines xs (marks t))
keep_by o input xs ys t u a b = go (fronts (map line_of xs) (map line_of ys) a.later b.later (sym a.are ∙ b.are))
  where
    go : ((m : List Line) × (map line_of xs ≡ map line_of ys ++ m)) ⊎ ((m : List Line) × (map line_of ys ≡ map line_of xs ++ m)) →
        KeepAsMuch (judged_lines ys (marks u)) (judged_lines xs (marks t))
    go (inl k) = let f = front (under_strict o) (map line_of ys) (by_push k.0) xs t a.sound k.1 in
        subst (λ (ks : List Judged). KeepAsMuch (judged_lines ys (marks u)) ks) (sym f.judged) (more_with (alongside o f.sound b.sound f.are).judged f.rest)
    go (inr k) =
        let f : Front o (map line_of xs) (judged_lines ys (marks u)) = front o (map line_of xs) (by_push k.0) ys u b.sound k.1 in
        subst (λ (js : List Judged). KeepAsMuch js (judged_lines xs (marks t))) (sym f.judged) (more_without (alongside o a.sound f.sound (sym f.are)).judged f.rest)

-- Text that is removed under `-K` is removed without it.
pub strict_keeps : (o : Options) (input : List ℕ) {js ks : List Judged} → JudgedAs o input js → JudgedAs (under_strict o) input ks → KeepAsMuch js ks
strict_keeps o input (judged_as {xs = ys} {t = u} b) (judged_as {xs = xs} {t = t} a) = keep_by o input xs ys t u (lines_read a) (lines_read b)

-- 7. The output.

-- The judged lines of a text without a fault are its lines.
pub judged_are_all : (o : Options) (input : List ℕ) {js : List Judged} {r : Outcome} → JudgedAs o input js → HasOutcome o input r → r.fault ≡ None →
    map (λ (j : Judged). j.line) js ≡ lines_of input
judged_are_all o input (judged_as a) run e =
    by_reading a (ap (λ (s : Outcome). s.fault) (one_run (ran_as a) run) ∙ e)
  where
    by_reading : {xs : List (Item Reading)} {t : Tree Reading} {f : Option Fault} → ReadsAs o input xs t f → f ≡ None →
        map (λ (j : Judged). j.line) (judged_lines xs (marks t)) ≡ lines_of input
    by_reading h g = grind (arith, judged_read)

-- The output is the pieces of the judged lines.
pub judged_output : (o : Options) (input : List ℕ) {js : List Judged} {r : Outcome} → OnlyDecides o → JudgedAs o input js → HasOutcome o input r →
    r.output ≡ pieces_of js
judged_output o input d (judged_as a) run = printed_lone o false d.unlisted d.unblanked d.unnumbered d.padded d.uncomplemented a run
