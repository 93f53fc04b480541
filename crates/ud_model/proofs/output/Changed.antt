-- Changed: some line of a text differs exactly if the output isn't the input.
use Rattle.std.proofs.lemmas.List.Folds.{concat-append}
use Rattle.std.proofs.lemmas.List.{map-append}
use Rattle.std.proofs.Common.{◌≡◌, ℕ, ◌+◌, ◌≤◌, List, [], ◌∷◌, ◌++◌, length, map, Bool, true, false, not, ◌&&◌, bytes_eq, Option, None, refl, sym, ◌∙◌, ap, ap₂, subst, arith, append-nil, append_assoc, length-append, rules}
use Rattle.std.specs.List.{concat}
use Rattle.ud_model.specs.text.Lines.{Line, text_of, lines_of}
use Rattle.ud_model.specs.text.Scans.{Reading}
use Rattle.ud_model.specs.sections.Directives.{content_of}
use Rattle.ud_model.specs.text.Scanning.{scan_after}
use Rattle.ud_model.specs.sections.Tree.{Item, Opener, Nodes, Groups, Elifs, Head, Tree, text_line, if_line, elif_line, else_line, endif_line, nothing, text, section, conditional, otherwise, first, elif, closed, open_section, lines, lines_of_nodes, lines_of_groups, lines_of_elifs, innermost}
use Rattle.ud_model.specs.sections.Items.{Options, reading_of, line_of, mode_after, read_after, next_item}
use Rattle.ud_model.specs.sections.Pruning.{Mark, Part, an_if, an_elif, an_else, marked, marks, is_kept, endif_verdict, conds_of_elifs, conds_of_groups}
use Rattle.ud_model.specs.aids.SoFar.{verdict_so_far, nodes_so_far, groups_so_far, elifs_so_far}
use Rattle.ud_model.specs.sections.Faults.{AreFaultless, no_lines, one_more, end_by}
use Rattle.ud_model.specs.answer.Printing.{Judged, piece_alone, piece_after, pieces_by, some_other, judged_line, judged_lines, keyword_in, complemented, printed_by, some_differ_by}
use Rattle.ud_model.specs.answer.Outcomes.{Outcome, HasOutcome}
use Rattle.ud_model.specs.declared.cond.Cond.{Cond}
use Rattle.ud_model.specs.declared.cond.Cond.TheVariants.{Yes}
use Rattle.ud_model.specs.declared.verdict.Verdict.{Verdict}
use Rattle.ud_model.specs.declared.verdict.Verdict.TheVariants.{Keep, Remove, ToEndif}
use Rattle.ud_model.specs.declared.kind.Mode.{Mode}
use Rattle.ud_model.specs.declared.settings.Settings.{Settings}
use Rattle.ud_model.specs.declared.settings.Listing.TheVariants.{Off}
use Rattle.ud_model.proofs.output.Each.{Each, each_parts, each_both}
use Rattle.ud_model.proofs.text.LinesLemmas.{lines_exist, map-numbered_from}
use Rattle.ud_model.proofs.text.ScanBytes.{length-masked, content-prefix}
use Rattle.ud_model.proofs.sections.Stays.{marks_so_far_same}
use Rattle.ud_model.proofs.sections.Soundness.{sound_lines}
use Rattle.ud_model.proofs.output.KeywordSizes.{HasWord, HasKeyword, has_keyword}
use Rattle.ud_model.proofs.output.Sizes.{out, whole, Fits, Loose, fits-append, loose_fits, fits_loose, fits_one, fits_none, fits_all, fits_differs}
use Rattle.ud_model.proofs.output.Edits.{is_past, Moves, opener_moves, endif_past, KeepsOrGoes, endif_keeps, if_keeps, removed_size, keeps_size, AtMost, edited_size}
use Rattle.ud_model.proofs.answer.Onward.{judged_more}

-- Each line has one mark.
module _ {L : Type 0} where
  mutual
    pub as_many_nodes : (kept : Bool) (ns : Nodes L) → length (lines_of_nodes ns) ≡ length (nodes_so_far kept ns)
    as_many_nodes kept nothing = refl
    as_many_nodes kept (text ns l) = let a = as_many_nodes kept ns in simp length-append (omega (arith, a))
    as_many_nodes kept (section ns gs e) =
        let a = as_many_nodes kept ns in let b = as_many_groups kept gs in simp length-append (omega (arith, a, b))

    pub as_many_groups : (kept : Bool) (gs : Groups L) → length (lines_of_groups gs) ≡ length (groups_so_far kept gs)
    as_many_groups kept (conditional es) = as_many_elifs kept es
    as_many_groups kept (otherwise es l ns) =
        let a = as_many_elifs kept es in let b = as_many_nodes (kept && is_kept (conds_of_elifs es) Yes) ns in simp length-append (omega (arith, a, b))

    pub as_many_elifs : (kept : Bool) (es : Elifs L) → length (lines_of_elifs es) ≡ length (elifs_so_far kept es)
    as_many_elifs kept (first o ns) = let b = as_many_nodes (kept && is_kept [] o.cond) ns in simp length-append (omega (arith, b))
    as_many_elifs kept (elif es o ns) =
        let a = as_many_elifs kept es in let b = as_many_nodes (kept && is_kept (conds_of_elifs es) o.cond) ns in simp length-append (omega (arith, a, b))

module _ (u blank : Bool) where
  abbrev f : Judged → List ℕ
  f j = piece_alone u blank j

  -- Lines with their marks fit.
  abbrev pub ItemsFit : List (Item Reading) → List Mark → Type 0
  ItemsFit xs ms = Fits f (judged_lines xs ms)

  -- The lines of a section up to some opener fit, or at most one byte more is printed.
  abbrev pub Held : Bool → List (Item Reading) → List Mark → Type 0
  Held true xs ms = Loose f (judged_lines xs ms)
  Held false xs ms = Fits f (judged_lines xs ms)

  items_then : (xs ys : List (Item Reading)) (ms ns : List Mark) → length xs ≡ length ms → ItemsFit xs ms → ItemsFit ys ns → ItemsFit (xs ++ ys) (ms ++ ns)
  items_then xs ys ms ns e a b = grind (arith, judged_more, fits-append)

  held_then : (h : Bool) (xs ys : List (Item Reading)) (ms ns : List Mark) → length xs ≡ length ms → Held h xs ms → ItemsFit ys ns → Held h (xs ++ ys) (ms ++ ns)
  held_then h xs ys ms ns e a b = grind (arith, items_then, judged_more, loose_fits)

  then_loose : (xs ys : List (Item Reading)) (ms ns : List Mark) → length xs ≡ length ms → ItemsFit xs ms → Loose f (judged_lines ys ns) → Loose f (judged_lines (xs ++ ys) (ms ++ ns))
  then_loose xs ys ms ns e a b = grind (arith, judged_more, fits_loose)

  -- A line that stays or is removed fits.
  one_fits : (x : Item Reading) (kept : Bool) (v : Verdict) → KeepsOrGoes v → ItemsFit (x ∷ []) (marked kept v ∷ [])
  one_fits x kept v h = search (rules, fits_one, keeps_size)

  -- The case of a line whose keyword has four bytes at least.
  word_size : (x : Item Reading) → HasWord (reading_of x) 4 → (v : Verdict) →
      AtMost v (length (f (judged_line x (record { kept = true; verdict = v })))) (length (text_of (line_of x)))
  word_size x w v = edited_size u blank v (keyword_in (content_of (reading_of x).scan)) (line_of x) w.size w.within

  fits_to_loose : (js : List Judged) → Fits f js → Loose f js
  fits_to_loose js a = subst (Loose f) (append-nil js) (fits_loose f js [] a (record { bound = omega arith }))

  to_held : (now : Bool) (xs : List (Item Reading)) (ms : List Mark) → ItemsFit xs ms → Held now xs ms
  to_held now xs ms a = grind (arith, fits_to_loose)

  -- The case of an opener after the first.
  opener_step : (xs : List (Item Reading)) (ms : List Mark) (x : Item Reading) (was now : Bool) (v : Verdict) → length xs ≡ length ms → HasWord (reading_of x) 4 →
      Moves was v now → Held was xs ms → Held now (xs ++ x ∷ []) (ms ++ marked true v ∷ [])
  opener_step xs ms x true true Remove e w m a = held_then true xs (x ∷ []) ms (marked true Remove ∷ []) e a (one_fits x true Remove tt)
  opener_step xs ms x true false v e w m a = let q : false ≡ true = m.1 in cc
  opener_step xs ms x true true v e w m a = let q : v ≡ Remove = m.0 in cc
  opener_step xs ms x false true ToEndif e w m a =
      then_loose xs (x ∷ []) ms (marked true ToEndif ∷ []) e a (grind (arith, append-nil, word_size x w ToEndif))
  opener_step xs ms x false false ToEndif e w m a = let q : false ≡ true = m in cc
  opener_step xs ms x false now v e w m a = to_held now (xs ++ x ∷ []) (ms ++ marked true v ∷ [])
      (items_then xs (x ∷ []) ms (marked true v ∷ []) e a (fits_one f (judged_line x (marked true v)) (word_size x w v)))

  opener_any : (kept : Bool) (xs : List (Item Reading)) (ms : List Mark) (x : Item Reading) (was now : Bool) (v : Verdict) → length xs ≡ length ms →
      HasWord (reading_of x) 4 → Moves was v now → Held (kept && was) xs ms → Held (kept && now) (xs ++ x ∷ []) (ms ++ marked kept v ∷ [])
  opener_any true xs ms x was now v e w m a = opener_step xs ms x was now v e w m a
  opener_any false xs ms x was now v e w m a = items_then xs (x ∷ []) ms (marked false Remove ∷ []) e a (one_fits x false Remove tt)

  closing_size : (x : Item Reading) → HasWord (reading_of x) 5 → length (f (judged_line x (marked true Remove))) + 2 ≤ length (whole (judged_line x (marked true Remove)))
  closing_size x w = omega (arith, removed_size u blank (keyword_in (content_of (reading_of x).scan)) (line_of x), w.size, w.within)

  endif_step : (kept past : Bool) (xs : List (Item Reading)) (ms : List Mark) (x : Item Reading) (v : Verdict) → length xs ≡ length ms → HasWord (reading_of x) 5 →
      KeepsOrGoes v → (past ≡ true → v ≡ Remove) → Held (kept && past) xs ms → ItemsFit (xs ++ x ∷ []) (ms ++ marked kept v ∷ [])
  endif_step false past xs ms x v e w k h a = items_then xs (x ∷ []) ms (marked false Remove ∷ []) e a (one_fits x false Remove tt)
  endif_step true false xs ms x v e w k h a = items_then xs (x ∷ []) ms (marked true v ∷ []) e a (one_fits x true v k)
  endif_step true true xs ms x v e w k h a = grind (arith, judged_more, append-nil, map-append, concat-append, length-append, closing_size)

  more_long : (xs : List (Item Reading)) (ms : List Mark) (x : Item Reading) (m : Mark) → length xs ≡ length ms → length (xs ++ x ∷ []) ≡ length (ms ++ m ∷ [])
  more_long xs ms x m e = simp length-append (omega (arith, e))

  -- The case of a group after others.
  group_held : (kept : Bool) (cs : List Cond) (part : Part) (c : Cond) (xs : List (Item Reading)) (ms : List Mark) (x : Item Reading) (ys : List (Item Reading)) (ns : List Mark) →
      length xs ≡ length ms → HasWord (reading_of x) 4 → Held (kept && is_past cs) xs ms → ItemsFit ys ns →
      Held (kept && is_past (cs ++ c ∷ [])) ((xs ++ x ∷ []) ++ ys) ((ms ++ marked kept (verdict_so_far cs part c) ∷ []) ++ ns)
  group_held kept cs part c xs ms x ys ns e w a b = grind (arith, held_then, more_long, opener_any, opener_moves)

  -- The case of nodes, and then a section.
  section_fits : (kept past : Bool) (xs ys : List (Item Reading)) (ms ns : List Mark) (l : Reading) (v : Verdict) → length xs ≡ length ms → length ys ≡ length ns →
      HasWord l 5 → KeepsOrGoes v → (past ≡ true → v ≡ Remove) → ItemsFit xs ms → Held (kept && past) ys ns →
      ItemsFit ((xs ++ ys) ++ endif_line l ∷ []) ((ms ++ ns) ++ marked kept v ∷ [])
  section_fits kept past xs ys ms ns l v d e w k h a b = search (rules, endif_step, items_then, append_assoc)

  mutual
    pub nodes_fit : (kept : Bool) (ns : Nodes Reading) → Each HasKeyword (lines_of_nodes ns) → ItemsFit (lines_of_nodes ns) (nodes_so_far kept ns)
    nodes_fit kept nothing h = fits_none f
    nodes_fit kept (text ns l) h =
        let p = each_parts HasKeyword (lines_of_nodes ns) (text_line l ∷ []) h in
        items_then (lines_of_nodes ns) (text_line l ∷ []) (nodes_so_far kept ns) (marked kept Keep ∷ []) (as_many_nodes kept ns)
        (nodes_fit kept ns p.0) (one_fits (text_line l) kept Keep tt)
    nodes_fit kept (section ns gs e) h =
        let p = each_parts HasKeyword (lines_of_nodes ns ++ lines_of_groups gs) (endif_line e ∷ []) h in
        let q = each_parts HasKeyword (lines_of_nodes ns) (lines_of_groups gs) p.0 in
        let here : Bool = is_past (conds_of_groups gs) in
        section_fits kept here (lines_of_nodes ns) (lines_of_groups gs) (nodes_so_far kept ns) (groups_so_far kept gs) e (endif_verdict (conds_of_groups gs))
        (as_many_nodes kept ns) (as_many_groups kept gs) p.1.0 (endif_keeps (conds_of_groups gs)) (λ d. endif_past (conds_of_groups gs) d)
        (nodes_fit kept ns q.0) (groups_held kept gs q.1)

    pub groups_held : (kept : Bool) (gs : Groups Reading) → Each HasKeyword (lines_of_groups gs) →
        Held (kept && is_past (conds_of_groups gs)) (lines_of_groups gs) (groups_so_far kept gs)
    groups_held kept (conditional es) h = elifs_held kept es h
    groups_held kept (otherwise es l ns) h =
        let p = each_parts HasKeyword (lines_of_elifs es ++ else_line l ∷ []) (lines_of_nodes ns) h in
        let q = each_parts HasKeyword (lines_of_elifs es) (else_line l ∷ []) p.0 in
        group_held kept (conds_of_elifs es) an_else Yes (lines_of_elifs es) (elifs_so_far kept es) (else_line l) (lines_of_nodes ns)
        (nodes_so_far (kept && is_kept (conds_of_elifs es) Yes) ns) (as_many_elifs kept es) q.1.0 (elifs_held kept es q.0)
        (nodes_fit (kept && is_kept (conds_of_elifs es) Yes) ns p.1)

    pub elifs_held : (kept : Bool) (es : Elifs Reading) → Each HasKeyword (lines_of_elifs es) →
        Held (kept && is_past (conds_of_elifs es)) (lines_of_elifs es) (elifs_so_far kept es)
    elifs_held kept (first o ns) h =
        let p = each_parts HasKeyword (if_line o ∷ []) (lines_of_nodes ns) h in
        to_held (kept && is_past (o.cond ∷ [])) ((if_line o ∷ []) ++ lines_of_nodes ns)
        ((marked kept (verdict_so_far [] an_if o.cond) ∷ []) ++ nodes_so_far (kept && is_kept [] o.cond) ns)
        (items_then (if_line o ∷ []) (lines_of_nodes ns) (marked kept (verdict_so_far [] an_if o.cond) ∷ []) (nodes_so_far (kept && is_kept [] o.cond) ns) refl
        (one_fits (if_line o) kept (verdict_so_far [] an_if o.cond) (if_keeps o.cond)) (nodes_fit (kept && is_kept [] o.cond) ns p.1))
    elifs_held kept (elif es o ns) h =
        let p = each_parts HasKeyword (lines_of_elifs es ++ elif_line o ∷ []) (lines_of_nodes ns) h in
        let q = each_parts HasKeyword (lines_of_elifs es) (elif_line o ∷ []) p.0 in
        group_held kept (conds_of_elifs es) an_elif o.cond (lines_of_elifs es) (elifs_so_far kept es) (elif_line o) (lines_of_nodes ns)
        (nodes_so_far (kept && is_kept (conds_of_elifs es) o.cond) ns) (as_many_elifs kept es) q.1.0 (elifs_held kept es q.0)
        (nodes_fit (kept && is_kept (conds_of_elifs es) o.cond) ns p.1)

-- The output for a line by itself, kept and removed lines exchanged or not.
abbrev pub lone : Bool → Bool → Bool → Judged → List ℕ
lone u blank true j = piece_alone u blank (complemented j)
lone u blank false j = piece_alone u blank j

-- If lines aren't numbered, each is printed by itself.
pub pieces_lone : (u b c n : Bool) (before js : List Judged) → n ≡ false →
    pieces_by (piece_after (record { blank = b; complement = c; renumber = n; unpadded = u })) before js ≡ map (lone u b c) js
pieces_lone u b c n before [] e = refl
pieces_lone u b c n before (j ∷ js) e = grind (arith, pieces_lone u b c n (before ++ j ∷ []) js e)

nodes_lone : (u b c : Bool) (ns : Nodes Reading) → Each HasKeyword (lines_of_nodes ns) → Fits (lone u b c) (judged_lines (lines_of_nodes ns) (marks (closed ns)))
nodes_lone u b true ns h = fits_all (lone u b true) (judged_lines (lines_of_nodes ns) (marks (closed ns))) (λ j. (grind (arith, keeps_size)))
nodes_lone u b false ns h =
    subst (λ (ms : List Mark). Fits (lone u b false) (judged_lines (lines_of_nodes ns) ms)) (sym (marks_so_far_same true (closed ns))) (nodes_fit u b true ns h)

masked_size : (xs : List Reading) (m : Mode) (l : Line) → length (scan_after xs m l).masked ≤ length l.body
masked_size xs m l = search (rules, length-masked, content-prefix, length-append)

-- The keywords of faultless lines lie in them.
pub keywords : {o : Options} {xs : List (Item Reading)} {t : Tree Reading} → AreFaultless o xs t → Each HasKeyword xs
keywords no_lines = tt
keywords {o = o} (one_more xs t s l u e n) =
    each_both HasKeyword xs (next_item o xs t l ∷ []) (keywords s)
    (has_keyword o (read_after xs (mode_after o t) l) (masked_size (map reading_of xs) (mode_after o t) l), tt)

-- The lines of items.
pub whole_lines_are : (xs : List (Item Reading)) (ms : List Mark) → length xs ≡ length ms → map whole (judged_lines xs ms) ≡ map text_of (map line_of xs)
whole_lines_are (x ∷ xs) (m ∷ ms) e = ap (λ (ls : List (List ℕ)). text_of (line_of x) ∷ ls) (whole_lines_are xs ms (omega arith))
whole_lines_are xs ms h = grind arith

-- The lines of a text, joined, are the text.
pub lines_join : (input : List ℕ) → concat (map text_of (lines_of input)) ≡ input
lines_join input = search (rules, map-numbered_from, lines_exist)

module _ (s : Settings) (n : s.renumber ≡ false) where
  closed_differs : (input : List ℕ) (ns : Nodes Reading) → Each HasKeyword (lines_of_nodes ns) → map line_of (lines_of_nodes ns) ≡ lines_of input →
      some_differ_by s (lines_of_nodes ns) (marks (closed ns)) ≡ not (bytes_eq (printed_by s (lines_of_nodes ns) (marks (closed ns))) input)
  closed_differs input ns h e =
      let js : List Judged = judged_lines (lines_of_nodes ns) (marks (closed ns)) in
      let ps = pieces_lone s.unpadded s.blank s.complement s.renumber [] js n in
      let many : length (lines_of_nodes ns) ≡ length (marks (closed ns)) = cc (as_many_nodes true ns, marks_so_far_same true (closed ns)) in
      let back : out whole js ≡ input = cc (whole_lines_are (lines_of_nodes ns) (marks (closed ns)) many, e, lines_join input) in
      ap (λ (qs : List (List ℕ)). some_other qs js) ps
      ∙ fits_differs (lone s.unpadded s.blank s.complement) js (nodes_lone s.unpadded s.blank s.complement ns h)
      ∙ ap₂ (λ (a b : List ℕ). not (bytes_eq a b)) (ap (λ (qs : List (List ℕ)). concat qs) (sym ps)) back

-- If some section is open, the innermost one has a first directive.
pub no_innermost : (ns : Nodes Reading) (t : Tree Reading) (h : Head Reading) → innermost (open_section ns h t) ≡ None → ⊥
no_innermost ns (closed b) h e = cc
no_innermost ns (open_section ms t k) h e = no_innermost ms k t e

-- If a text ends without a fault, it ends in no comment, and no section is open.
pub end_parts : (c : Bool) (n : ℕ) (o : Option (Opener Reading)) → end_by c n o ≡ None → (c ≡ false) × (o ≡ None)
end_parts c n o e = grind arith

module _ (o : Options) (n : o.settings.renumber ≡ false) (off : o.settings.listing ≡ Off) (input : List ℕ) where
  tree_differs : (xs : List (Item Reading)) (t : Tree Reading) → innermost t ≡ None → Each HasKeyword xs → lines t ≡ xs → map line_of xs ≡ lines_of input →
      some_differ_by o.settings xs (marks t) ≡ not (bytes_eq (printed_by o.settings xs (marks t)) input)
  tree_differs xs (open_section ns h t) e k l m = absurd (no_innermost ns t h e)
  tree_differs xs (closed ns) e k l m = grind (arith, closed_differs)

  -- Some line differs exactly if the output isn't the input.
  pub changed : {r : Outcome} → HasOutcome o input r → r.fault ≡ None → r.differs ≡ not (bytes_eq r.output input)
  changed h e = grind (arith, tree_differs, keywords, sound_lines)
