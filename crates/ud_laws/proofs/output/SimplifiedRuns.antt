-- Simplified runs: a run over the simplified output copies it.
use Rattle.std.proofs.Common.{◌≡◌, ◌≢◌, ℕ, suc, ◌≤◌, max, List, [], ◌++◌, length, Bool, false, not, ◌&&◌, None, if◌then◌else◌, refl, sym, ◌∙◌, ap, ap₂, subst, arith, map, Option, Some}
use Rattle.std.proofs.lemmas.Bool.{or_parts}
use Rattle.ud_model.specs.text.Lines.{Line, text_of, lines_of}
use Rattle.ud_model.specs.text.Scans.{Scan, Reading}
use Rattle.ud_model.specs.text.Splicing.{is_spliced, spliced_text, spliced_part}
use Rattle.ud_model.specs.text.Lexemes.{kind_at_end, Cell, shown}
use Rattle.ud_model.specs.text.Scanning.{is_block, comment_at, scan_after_run}
use Rattle.ud_model.specs.sections.Directives.{Directive, content_of, is_outside, role_of, test_of}
use Rattle.ud_model.specs.aids.DirectiveParts.{HasDirective}
use Rattle.ud_model.specs.conditions.Table.{Argument}
use Rattle.ud_model.specs.conditions.Conditions.{Rules, Decision, undecided, decision_on, condition_of, expression_cond, tree_cond_if}
use Rattle.ud_model.specs.sections.Tree.{Tree, Item, Nodes, Groups, Elifs, closed}
use Rattle.ud_model.specs.sections.Items.{Options, reading_of, item_of, directive_item, rules_of}
use Rattle.ud_model.specs.sections.Faults.{is_cut, is_in_block, ends_in_comment}
use Rattle.ud_model.specs.laws.Pruned.{IsUndecided, IsUnknown, Any}
use Rattle.ud_model.proofs.output.EachLines.{IsOf, to_items, from_items}
use Rattle.ud_model.specs.aids.Height.{height_of_nodes, height_of_groups, height_of_elifs}
use Rattle.ud_model.specs.answer.CommandLine.{options_of}
use Rattle.ud_model.specs.answer.Outcomes.{Outcome, HasOutcome}
use Rattle.ud_model.specs.answer.Answer.{Answer, IsAnswer, refused, ran}
use Rattle.ud_laws.specs.answer.Successes.{copy_answer}
use Rattle.ud_model.specs.laws.Rereading.{IsPlainC, IsTreeOf, LinesFit}
use Rattle.ud_model.specs.aids.ReadAs.{read_as}
use Rattle.ud_laws.proofs.output.NodesAlike.{nothing_alike, text_alike, section_alike, conditional_alike, otherwise_alike, first_alike, elif_alike}
use Rattle.ud_simplified.specs.SimplifiedTexts.{condition_cells, is_closing, simplified_line, simplified_under}
use Rattle.ud_model.specs.declared.cond.Cond.TheVariants.{Unknown}
use Rattle.ud_model.specs.declared.kind.Kind.{Kind}
use Rattle.ud_model.specs.declared.kind.Test.TheVariants.{Nonzero}
use Rattle.ud_model.specs.declared.kind.Mode.TheVariants.{C}
use Rattle.ud_model.specs.declared.limits.TheConstants.{MAX_LINE_BYTES, MAX_LINES, MAX_DEPTH}
use Rattle.ud_model.proofs.text.ScanLaws.{joins_after-code}
use Rattle.ud_model.proofs.text.ScanLemmas.{joins_last}
use Rattle.ud_model.proofs.sections.Soundness.{reading_of-item_of, read_lines}
use Rattle.ud_model.proofs.sections.SplitLines.{directive_is}
use Rattle.ud_model.proofs.output.Each.{Each, Pairs, no_pair, pair}
use Rattle.ud_model.proofs.output.RereadMore.{IsUncut}
use Rattle.ud_model.proofs.output.SoundAgain.{IsFew, IsShort, fit_short, sound_again}
use Rattle.ud_model.proofs.output.Undecided.{undecided_stay}
use Rattle.ud_model.proofs.output.RereadLaws.{Result, reread, input_tree, output_undecided, runs_again}
use Rattle.ud_laws.proofs.output.AnswerLaws.{faultless}
use Rattle.ud_laws.proofs.output.InsertedText.{items_are}
use Rattle.ud_simplified.proofs.SimplifiedLineTexts.{lines_left, line_bytes}
use Rattle.ud_laws.proofs.output.SimplifiedTree.{Like, GroupsLike, ElifsLike, simplified_tree}
use Rattle.ud_laws.proofs.output.InsertedTree.{items}
use Rattle.ud_simplified.proofs.SimplifiedLines.{SameKind, both_if, both_elif, becomes, after_is}
use Rattle.ud_simplified.proofs.SimplifiedLines.{after_left}
use Rattle.ud_simplified.proofs.SimplifiedReadings.{IsLeft, ReadingSimplified, reading_stays, reading_edited, readings_simplified}
use Rattle.ud_laws.proofs.output.SimplifiedAgain.{lone, sub_fewer}
use Rattle.ud_model.specs.conditions.Expressions.{Expression}
use Rattle.ud_model.specs.conditions.Parsing.{expression_of}
use Rattle.ud_model.specs.aids.Residuals.{keeps}
use Rattle.ud_simplified.specs.ResidualTexts.{left_cells, may_go, is_read, simplified_by, simplified_cells}
use Rattle.ud_simplified.proofs.ResidualRead.{written_left}

-- The simplified text of an unknown condition is unknown.

module _ (table : List Argument) (rules : Rules) where
  -- The simplified text is unknown.
  pub left_unknown : (cells : List Cell) → expression_cond (map shown cells) table rules ≡ Unknown → expression_cond (map shown (simplified_cells table rules cells)) table rules ≡ Unknown
  unfolding simplified_cells expression_cond
  left_unknown cells h = by (expression_of (map shown cells)) refl
    where
      go : (e : Expression) → expression_of (map shown cells) ≡ Some e → (b : Bool) → (may_go table rules e cells && is_read table rules e (left_cells (keeps table rules e) cells)) ≡ b →
          tree_cond_if (expression_of (map shown (if b then left_cells (keeps table rules e) cells else cells))) table rules ≡ Unknown
      go e p b q = grind (arith, written_left)

      by : (o : Option Expression) → expression_of (map shown cells) ≡ o →
          tree_cond_if (expression_of (map shown (simplified_by table rules (expression_of (map shown cells)) cells)))
          table rules ≡ Unknown
      by o p = grind (arith, go)

-- 1. Items with an unknown condition.

abbrev pub IsOpen : Item Reading → Type 0
IsOpen x = IsOf Any IsUnknown x

-- 2. A line of the simplified text.

comment-code : (line : Line) → (scan_after_run [] line).comment ≡ comment_at (is_spliced line) (kind_at_end (spliced_text [] ++ spliced_part line))
unfolding scan_after_run
comment-code line = refl

spliced-code : (line : Line) → (scan_after_run [] line).spliced ≡ is_spliced line
unfolding scan_after_run
spliced-code line = refl

-- No comment is open at the end of a line that doesn't join the next one.
out_of_comment : (l : Line) → (scan_after_run [] l).joins_after ≡ false → is_in_block (scan_after_run [] l).comment ≡ false
out_of_comment l h = ap is_in_block (comment-code l)
    ∙ (grind (arith, (or_parts (is_spliced l) (is_block (kind_at_end (spliced_text [] ++ spliced_part l))) (sym (joins_last [] l) ∙ sym (joins_after-code [] l) ∙ h)).1))

module _ (table : List Argument) (rules : Rules) where
  uncut_left : (r s : Reading) → ReadingSimplified table rules r s → is_cut (content_of r.scan) ≡ false → is_cut (content_of s.scan) ≡ false
  uncut_left r s h g = grind arith

  number_left : (r s : Reading) → ReadingSimplified table rules r s → s.line.number ≡ r.line.number
  number_left r s h = grind arith

  line_left : (r s : Reading) → ReadingSimplified table rules r s → simplified_line table rules r ≡ s.line
  line_left r s h = grind arith

  short_left : (r s : Reading) → ReadingSimplified table rules r s → length (text_of s.line) ≤ length (text_of r.line)
  short_left r s i = grind (arith, line_left r s i, sub_fewer (line_bytes table rules r.line r.scan (simplified_line table rules r) (becomes table rules r)))

  cond_first : (k : Kind) (after : List ℕ) → test_of k ≡ Nonzero → (condition_of k after table rules).cond ≡ expression_cond after table rules
  cond_first k after h = grind arith

  -- The decision on a directive, by whether it is broken.
  abbrev decision_by : Scan → Directive → Bool → Decision
  decision_by scan d b =
      if b then undecided else record (condition_of d.kind d.after table rules) { ignoring = (condition_of d.kind d.after table rules).ignoring && not scan.joins_after }

  unknown_by : (scan : Scan) (d : Directive) (b : Bool) → (condition_of d.kind d.after table rules).cond ≡ Unknown → (decision_by scan d b).cond ≡ Unknown
  unknown_by scan d b h = grind arith

  known_by : (scan : Scan) (d : Directive) (b : Bool) → b ≡ false → (decision_by scan d b).cond ≡ Unknown → (condition_of d.kind d.after table rules).cond ≡ Unknown
  known_by scan d b p h = grind arith

  -- A directive on a line that joins no other isn't broken.
  unbroken : (r s : Reading) (d : Directive) → IsLeft table rules r s d → d.broken ≡ false
  unbroken r s d i = let h : HasDirective r.scan d = (directive_is r.scan d).0 i.edited.has in
      let p : r.scan.spliced ≡ false = ap (λ (c : Scan). c.spliced) i.before ∙ spliced-code r.line ∙ lone table rules r s d i in
      h.broken ∙ ap (λ (b : Bool). b && is_outside r.scan.comment) p

  -- The condition of an edited line stays unknown.
  still_unknown : (r s : Reading) (d : Directive) (i : IsLeft table rules r s d) → test_of d.kind ≡ Nonzero → test_of i.edited.now.kind ≡ Nonzero → is_closing d.kind ≡ false →
      (decision_on r.scan d table rules).cond ≡ Unknown → (decision_on s.scan i.edited.now table rules).cond ≡ Unknown
  still_unknown r s d i t u v h = let now : Directive = i.edited.now in
      let a = sym (cond_first d.kind d.after t) ∙ known_by r.scan d d.broken (unbroken r s d i) h in
      let b = ap (λ (xs : List ℕ). expression_cond xs table rules) (after_is table rules r.line r.scan d i.before i.edited.has) ∙ a in
      let c = ap (λ (xs : List ℕ). expression_cond xs table rules) (after_left table rules r.line r.scan d i.edited v) ∙ left_unknown table rules (condition_cells r.line d) b in
      unknown_by s.scan now now.broken (cond_first now.kind now.after u ∙ c)

-- 3. The items of the simplified text.

module _ (o : Options) where
  abbrev Simplified : Reading → Reading → Type 0
  Simplified r s = ReadingSimplified o.table (rules_of o.settings) r s

  open_by : (r s : Reading) {j k : Kind} (d e : Decision) → SameKind j k → (test_of j ≡ Nonzero → test_of k ≡ Nonzero → is_closing j ≡ false → d.cond ≡ Unknown → e.cond ≡ Unknown) →
      IsOpen (directive_item r (role_of j) d) → IsOpen (directive_item s (role_of k) e)
  open_by r s d e both_if f g = f refl refl refl g
  open_by r s d e both_elif f g = f refl refl refl g
  open_by r s d e _ f g = tt

  open_left : (r s : Reading) → Simplified r s → IsOpen (item_of o r) → IsOpen (item_of o s)
  open_left r s h g = grind (arith, reading_stays, reading_edited, open_by, still_unknown)

  -- A property of the lines is one of the items.
  of_reading : (P : Reading → Type 0) (r s : Reading) → (P r → P s) → P (reading_of (item_of o r)) → P (reading_of (item_of o s))
  of_reading P r s f h = subst P (sym (reading_of-item_of o s)) (f (subst P (reading_of-item_of o r) h))

  each_left : (P : Item Reading → Type 0) → ((r s : Reading) → Simplified r s → P (item_of o r) → P (item_of o s)) →
      {rs ss : List Reading} → Pairs Simplified rs ss → Each P (items o rs) → Each P (items o ss)
  each_left P f no_pair h = tt
  each_left P f (pair {x = r} {y = s} i p) h = (f r s i h.0, each_left P f p h.1)

  pub all_open : {rs ss : List Reading} → Pairs Simplified rs ss → Each IsOpen (items o rs) → Each IsOpen (items o ss)
  all_open p h = each_left IsOpen open_left p h

  pub all_uncut : {rs ss : List Reading} → Pairs Simplified rs ss → Each IsUncut (items o rs) → Each IsUncut (items o ss)
  all_uncut p h = grind (arith, each_left, of_reading, uncut_left)

  pub all_few : {rs ss : List Reading} → Pairs Simplified rs ss → Each IsFew (items o rs) → Each IsFew (items o ss)
  all_few p h = each_left IsFew
      (λ r s i. of_reading (λ (x : Reading). x.line.number ≤ MAX_LINES) r s
      (λ l. subst (λ (n : ℕ). n ≤ MAX_LINES) (sym (number_left o.table (rules_of o.settings) r s i)) l)) p h

  pub all_short : {rs ss : List Reading} → Pairs Simplified rs ss → Each IsShort (items o rs) → Each IsShort (items o ss)
  all_short p h = each_left IsShort
      (λ r s i. of_reading (λ (x : Reading). length (text_of x.line) ≤ MAX_LINE_BYTES) r s
      (λ l. let m = short_left o.table (rules_of o.settings) r s i in omega (arith, l, m))) p h

  pub all_calm : {rs ss : List Reading} → Pairs Simplified rs ss → ends_in_comment (items o rs) ≡ false → ends_in_comment (items o ss) ≡ false
  all_calm no_pair h = refl
  all_calm (pair {x = r} {y = s} i no_pair) h = of_reading (λ (x : Reading). is_in_block x.scan.comment ≡ false) r s (grind (arith, out_of_comment)) h
  all_calm (pair i (pair {x = q} {y = t} {xs = rs} {ys = ss} j p)) h = all_calm (pair {x = q} {y = t} {xs = rs} {ys = ss} j p) h

  -- 4. Heights.

  mutual
    pub height_left : {ns us : Nodes Reading} → Like o ns us → height_of_nodes us ≡ height_of_nodes ns
    height_left nothing_alike = refl
    height_left (text_alike p e) = height_left p
    height_left (section_alike p q) = ap₂ (λ (m n : ℕ). max m (suc n)) (height_left p) (height_groups q)

    height_groups : {gs hs : Groups Reading} → GroupsLike o gs hs → height_of_groups hs ≡ height_of_groups gs
    height_groups (conditional_alike p) = height_elifs p
    height_groups (otherwise_alike p q) = ap₂ (λ (m n : ℕ). max m n) (height_elifs p) (height_left q)

    height_elifs : {es fs : Elifs Reading} → ElifsLike o es fs → height_of_elifs fs ≡ height_of_elifs es
    height_elifs (first_alike i n) = height_left n
    height_elifs (elif_alike p i n) = ap₂ (λ (m n : ℕ). max m n) (height_elifs p) (height_left n)

-- 4. The run.

module _ (o : Options) (p : IsPlainC o) (input : List ℕ) {r : Outcome} (d : HasOutcome o input r) (n : r.fault ≡ None) (f : LinesFit (lines_of r.output)) where
  abbrev left_text : List ℕ
  left_text = simplified_under o r.output

  read_so : (bytes : List ℕ) (t : Tree Reading) (i : IsTreeOf o bytes t) → i.items ≡ items o (read_as C bytes)
  read_so bytes t i = grind (arith, items_are)

  both_read : Pairs (ReadingSimplified o.table (rules_of o.settings)) (read_as C r.output) (read_as C left_text)
  both_read = grind (arith, lines_left, readings_simplified)

  module _ (us ss : Nodes Reading) (i : IsTreeOf o r.output (closed us)) (j : IsTreeOf o left_text (closed ss)) (like : Like o us ss) where
    ys : i.items ≡ items o (read_as C r.output)
    ys = read_so r.output (closed us) i

    zs : items o (read_as C left_text) ≡ j.items
    zs = sym (read_so left_text (closed ss) j)

    uncut_now : Each IsUncut i.items → Each IsUncut j.items
    uncut_now h = subst (Each IsUncut) zs (all_uncut o both_read (subst (Each IsUncut) ys h))

    few_now : Each IsFew i.items → Each IsFew j.items
    few_now h = subst (Each IsFew) zs (all_few o both_read (subst (Each IsFew) ys h))

    short_now : Each IsShort j.items
    short_now = subst (Each IsShort) zs (all_short o both_read (subst (Each IsShort) ys (fit_short i.items (subst LinesFit i.are f))))

    calm_now : ends_in_comment i.items ≡ false → ends_in_comment j.items ≡ false
    calm_now h = ap ends_in_comment (sym zs) ∙ all_calm o both_read (ap ends_in_comment (sym ys) ∙ h)

    undecided_now : IsUndecided us → IsUndecided ss
    undecided_now h =
        let before = subst (Each IsOpen) (read_lines i.read ∙ ys) (to_items Any IsUnknown us h) in
        from_items Any IsUnknown ss (subst (Each IsOpen) (zs ∙ sym (read_lines j.read)) (all_open o both_read before))

    copies_by : Each IsUncut i.items → Each IsFew i.items → height_of_nodes us ≤ MAX_DEPTH → ends_in_comment i.items ≡ false → IsUndecided us →
        HasOutcome o left_text (record { output = left_text; fault = None; differs = false })
    copies_by a b c e u =
        let n = undecided_now u in
        let s = undecided_stay ss n in
        let m = calm_now e in
        grind (arith, runs_again, sound_again, uncut_now, few_now, short_now, height_left, s, n, m)

  copies_with : (us : Nodes Reading) (i : IsTreeOf o r.output (closed us)) → Each IsUncut i.items → Each IsFew i.items →
      height_of_nodes us ≤ MAX_DEPTH → ends_in_comment i.items ≡ false → IsUndecided us →
      (ss : Nodes Reading) × IsTreeOf o left_text (closed ss) × Like o us ss →
      HasOutcome o left_text (record { output = left_text; fault = None; differs = false })
  copies_with us i a b c e u (ss, j, like) = copies_by us ss i j like a b c e u

  copies_from : (ns : Nodes Reading) → Result o p.plain input r ns → HasOutcome o left_text (record { output = left_text; fault = None; differs = false })
  copies_from ns z = grind (arith, copies_with, output_undecided, simplified_tree, lines_left)

  copies_of : (ns : Nodes Reading) × IsTreeOf o input (closed ns) → HasOutcome o left_text (record { output = left_text; fault = None; differs = false })
  copies_of (ns, k) = copies_from ns (reread o p.plain input d n ns k)

  -- The simplified output is copied.
  pub copies_left : HasOutcome o left_text (record { output = left_text; fault = None; differs = false })
  copies_left = copies_of (input_tree o input d n)

-- So does the answer.
pub answered_left : {args : List (List ℕ)} {input : List ℕ} {a : Answer} →
    IsAnswer args input a → a.status ≢ 2 → IsPlainC (options_of args) → LinesFit (lines_of a.output) →
    let text : List ℕ = simplified_under (options_of args) a.output in
    IsAnswer args text (copy_answer args text)
answered_left (refused f e) n p fit = absurd (n refl)
answered_left {args = args} {input = input} (ran r e d) n p fit =
    let o : Options = options_of args in
    ran (record { output = simplified_under o r.output; fault = None; differs = false }) e
    (copies_left o p input d (faultless o.settings r.differs r.fault n) fit)
