-- Simplified again: a simplified text stays as it is, and each of its conditions is reduced, or may
-- stay.
use Rattle.std.proofs.Common.{◌≡◌, ℕ, List, [], ◌∷◌, ◌++◌, length, map, take, drop, Bool, false, Some, None, if◌then◌else◌, refl, sym, ◌∙◌, ap, ap₂, subst, ◌⊎◌, inl, inr, arith, ◌≤◌, true, not, Option, length-append, ◌&&◌}
use Rattle.std.proofs.lemmas.List.{take-append-drop, length-map}
use Rattle.std.proofs.lemmas.Bool.{or_parts, cases_Bool, and_from, and_parts, not-true}
use Rattle.ud_model.specs.aids.SpacedBytes.{spaced}
use Rattle.ud_model.specs.text.Bytes.{space, is_white, are_white}
use Rattle.ud_model.specs.text.Lines.{Line, text_of}
use Rattle.ud_model.specs.text.Scans.{Reading, is_spanning}
use Rattle.ud_model.specs.text.Splicing.{is_spliced, is_empty}
use Rattle.ud_model.specs.text.Lexemes.{Cell, shown}
use Rattle.ud_model.specs.text.Scanning.{scan_after_run, scan_after}
use Rattle.ud_model.specs.sections.Directives.{Content, directive, Directive, content_of, test_of}
use Rattle.ud_model.specs.conditions.Table.{Argument}
use Rattle.ud_model.specs.conditions.Expressions.{Expression, unary, binary, parens}
use Rattle.ud_model.specs.conditions.Conditions.{Rules, tree_cond}
use Rattle.ud_model.specs.aids.Residuals.{residual, is_unknown, is_undecided, keeps, is_unit, stands_alone, joined_flags}
use Rattle.ud_simplified.specs.ResidualTexts.{simplified_cells, left_cells, is_literal, may_go, is_read, simplified_by}
use Rattle.ud_model.specs.conditions.Parsing.{expression_of}
use Rattle.ud_simplified.specs.SimplifiedTexts.{keyword_end, condition_cells, is_closing, text_cells, left_line, may_change, line_by, simplified_line, simplified_text, is_lone, left_cells_of, is_read_alone}
use Rattle.ud_simplified.proofs.ResidualRead.{same_or_left, untouched, cells_go, written_left}
use Rattle.ud_model.proofs.output.Each.{Pairs, no_pair, pair}
use Rattle.ud_simplified.proofs.SimplifiedLines.{SameKind, byte_of, option_is, after_is, comment_left, condition_text, text_bytes, text_now}
use Rattle.ud_simplified.proofs.SimplifiedLineTexts.{lines_left}
use Rattle.ud_simplified.proofs.SimplifiedReadings.{IsLeft, ReadingSimplified, reading_stays, reading_edited, readings_simplified}
use Rattle.std.specs.List.{list_any}
use Rattle.ud_simplified.specs.Sublists.{IsSublist, nothing, without, with_same}
use Rattle.ud_model.specs.aids.ReadAs.{read_in, read_as}
use Rattle.ud_laws.specs.output.LeftOperands.{IsReduced, IsSimplified, joins_line, not_understood}
use Rattle.ud_laws.specs.output.LeftOperands.{has_quote, decided, rest_decided, rest_misread}
use Rattle.ud_laws.specs.output.LeftOperands.{line_misread, HasNoUnit}
use Rattle.ud_model.specs.declared.kind.Kind.{Kind}
use Rattle.ud_model.specs.declared.kind.Test.TheVariants.{Nonzero, Nothing}
use Rattle.ud_model.specs.declared.kind.Mode.TheVariants.{C}
use Rattle.ud_model.proofs.text.ScanLaws.{unspliced}
use Rattle.ud_laws.proofs.conditions.ResidualAgain.{residual_stays, AreTrue, fixed_true}
use Rattle.ud_model.specs.declared.operator.Operator.TheVariants.{Or, And, Not}
use Rattle.ud_laws.proofs.conditions.ResidualOperands.{operands_undecided}

-- A tree that is its own residual has no operand that can be removed.

true_parts : (xs ys : List Bool) → AreTrue (xs ++ ys) → AreTrue xs × AreTrue ys
true_parts [] ys h = (tt, h)
true_parts (x ∷ xs) ys h = let r : AreTrue xs × AreTrue ys = true_parts xs ys h.1 in ((h.0, r.0), r.1)

-- If all tokens of an operator stay, neither operand is a unit.
no_unit_by : (b d : Bool) (e f : Expression) (xs ys : List Bool) → AreTrue (joined_flags b d e f xs ys) → (b ≡ false) × (d ≡ false) × AreTrue xs × AreTrue ys
no_unit_by b d e f xs ys h = grind (arith, true_parts)

module _ (table : List Argument) (rules : Rules) where
  no_unit : (e : Expression) → AreTrue (keeps table rules e) → HasNoUnit table rules e
  no_unit (unary Not a) h = no_unit a h.1
  no_unit (binary And a b) h =
      let p = no_unit_by (is_unit And (residual table rules a).cond) (is_unit And (residual table rules b).cond) a b (keeps table rules a) (keeps table rules b) h in
      (p.0, p.1, no_unit a p.2, no_unit b p.3)
  no_unit (binary Or a b) h =
      let p = no_unit_by (is_unit Or (residual table rules a).cond) (is_unit Or (residual table rules b).cond) a b (keeps table rules a) (keeps table rules b) h in
      (p.0, p.1, no_unit a p.2, no_unit b p.3)
  no_unit (parens a) h =
      let f : Bool = not ((residual table rules a).lost && stands_alone (residual table rules a).tree) in
      no_unit a (true_parts (keeps table rules a) (f ∷ []) h.1).0
  no_unit _ _ = tt

  -- A tree that is its own unknown residual is reduced.
  pub fixed_reduced : (e : Expression) → (residual table rules e).tree ≡ e → is_unknown (residual table rules e).cond ≡ true → IsReduced table rules e
  fixed_reduced e p u = grind (arith, no_unit, fixed_true, operands_undecided)

abbrev TrueOrFalse : Bool → Type 0
TrueOrFalse b = (b ≡ true) ⊎ (b ≡ false)

module _ (table : List Argument) (rules : Rules) where
  -- A line of which all cells are left is the line.
  whole_line : (l : Line) (d : Directive) → is_spliced l ≡ false → simplified_cells table rules (text_cells l d) ≡ text_cells l d → left_line table rules l d ≡ l
  whole_line l d s e = let n : ℕ = keyword_end d in
      ap (λ (b : List ℕ). record { body = b; ending = l.ending; number = l.number })
      (ap (λ (cells : List Cell). take n l.body ++ map byte_of cells) e ∙ ap (λ (x : List ℕ). take n l.body ++ x) (text_bytes table rules l d s) ∙ take-append-drop n l.body)

  -- The line is edited to itself.
  module _ (r s : Reading) (d : Directive) (i : IsLeft table rules r s d) where
    abbrev cells_before : List Cell
    cells_before = text_cells r.line d

    same_line : left_line table rules r.line d ≡ r.line → simplified_line table rules s ≡ s.line
    same_line w = grind arith

    pub lone : is_spliced r.line ≡ false
    lone = grind (arith, unspliced, or_parts)

    still_lone : is_spliced s.line ≡ false
    still_lone = unspliced s.line (ap (λ (k : Line). (scan_after_run [] k).joins_after) i.line ∙ i.edited.alone)

    has_now : content_of s.scan ≡ directive i.edited.now
    has_now = ap content_of i.after ∙ i.edited.has_now

    -- The edited line has the residual, which stays.
    left_again : (e : Expression) → expression_of (map shown (simplified_cells table rules cells_before)) ≡ Some (residual table rules e).tree →
        simplified_line table rules s ≡ s.line
    left_again e p = let now : Directive = i.edited.now in
        let q : expression_of (map shown (text_cells s.line now)) ≡ Some (residual table rules e).tree =
        ap (λ (k : Line). expression_of (map shown (text_cells k now))) i.line ∙ ap expression_of (text_now table rules r.line r.scan d i.edited) ∙ p in
        let w = whole_line s.line now still_lone (residual_stays table rules e (text_cells s.line now) q) in
        ap (λ (c : Content). line_by table rules s.scan s.line c) has_now ∙ by (may_change table rules s.scan s.line now) w
      where
        by : (b : Bool) → left_line table rules s.line i.edited.now ≡ s.line → (if b then left_line table rules s.line i.edited.now else s.line) ≡ s.line
        by b w = grind arith

    edited_again : simplified_line table rules s ≡ s.line
    edited_again = by (option_is (expression_of (map shown cells_before)))
      where
        go : (e : Expression) → (simplified_cells table rules cells_before ≡ cells_before) ⊎
            (expression_of (map shown (simplified_cells table rules cells_before)) ≡ Some (residual table rules e).tree) →
            simplified_line table rules s ≡ s.line
        go e h = grind (arith, whole_line, lone, left_again)

        by : (expression_of (map shown cells_before) ≡ None) ⊎
            ((e : Expression) × (expression_of (map shown cells_before) ≡ Some e)) → simplified_line table rules s ≡ s.line
        by (inl n) = same_line (whole_line r.line d lone (untouched table rules cells_before n))
        by (inr (e, p)) = go e (same_or_left table rules e cells_before p)

  abbrev left_text : Reading → List ℕ
  left_text r = text_of (simplified_line table rules r)

  -- A line of a simplified text is simplified as the line of the text.
  pub line_again : (r s : Reading) → ReadingSimplified table rules r s → simplified_line table rules s ≡ simplified_line table rules r
  line_again r s (reading_stays e q h) = ap (simplified_line table rules) q
  line_again r s (reading_edited d i) = edited_again r s d i ∙ sym i.simplified

  -- A line of a simplified text stays.
  pub line_stays : (r s : Reading) → ReadingSimplified table rules r s → simplified_line table rules s ≡ s.line
  line_stays r s (reading_stays e q h) = subst (λ (x : Reading). simplified_line table rules x ≡ x.line) (sym q) e
  line_stays r s (reading_edited d i) = edited_again r s d i

  texts_again : {rs ss : List Reading} → Pairs (ReadingSimplified table rules) rs ss → map left_text ss ≡ map left_text rs
  texts_again no_pair = refl
  texts_again (pair {x = r} {y = s} i p) = ap₂ (λ (t : List ℕ) (ts : List (List ℕ)). t ∷ ts) (ap text_of (line_again r s i)) (texts_again p)

  -- A simplified text stays.
  pub text_again : (bytes : List ℕ) → simplified_text table rules (simplified_text table rules bytes) ≡ simplified_text table rules bytes
  text_again bytes = grind (arith, lines_left, texts_again, readings_simplified)

-- Operands left: each condition is reduced, or may stay.

-- 1. Sublists of the same length.

pub sub_fewer : {A : Type 0} {xs ys : List A} → IsSublist xs ys → length xs ≤ length ys
sub_fewer nothing = omega arith
sub_fewer (without p) = let h = sub_fewer p in omega (arith, h)
sub_fewer (with_same p) = let h = sub_fewer p in omega (arith, h)

sub_same : {A : Type 0} {xs ys : List A} → IsSublist xs ys → length xs ≡ length ys → xs ≡ ys
sub_same nothing e = refl
sub_same (without p) e = let h = sub_fewer p in absurd (omega (arith, h, e))
sub_same (with_same {y = y} p) e = ap (λ zs. y ∷ zs) (sub_same p (omega (arith, e)))

is_some : {A : Type 0} {x y : A} → ◌≡◌ {A = Option A} (Some x) (Some y) → x ≡ y
is_some e = cc

module _ (table : List Argument) (rules : Rules) where
  -- 2. If a line is edited to itself, all cells of its text are left.
  all_left : (l : Line) (d : Directive) → is_spliced l ≡ false → left_line table rules l d ≡ l → left_cells_of table rules l d ≡ text_cells l d
  all_left l d s e = let n : ℕ = keyword_end d in
      let left : List Cell = left_cells_of table rules l d in
      let cells : List Cell = text_cells l d in
      let k = sym (text_bytes table rules l d s) in
      let a : length (take n l.body ++ map byte_of left) ≡ length l.body = ap (λ (x : Line). length x.body) e in
      let b = length-append (take n l.body) (map byte_of left) in
      let f = length-append (take n l.body) (drop n l.body) in
      let g = ap (λ (x : List ℕ). length x) (take-append-drop n l.body) in
      let i : length (map byte_of left) ≡ length left = length-map left byte_of in
      let j : length (drop n l.body) ≡ length cells = ap (λ (x : List ℕ). length x) k ∙ length-map cells byte_of in
      sub_same (cells_go table rules cells) (omega (arith, a, b, f, g, i, j))

  -- 3. A line that stays, whose condition may change.
  module _ (r : Reading) (d : Directive) (has : content_of r.scan ≡ directive d) (value : test_of d.kind ≡ Nonzero) (same : simplified_line table rules r ≡ r.line)
      (alone : r.scan.joins_before ≡ false → r.scan ≡ scan_after [] C r.line) where
    abbrev cells : List Cell
    cells = condition_cells r.line d

    cells_are : text_cells r.line d ≡ cells
    cells_are = condition_text table rules r.line d (grind arith)

    abbrev Reason : Type 0
    Reason = IsSimplified table rules r d

    -- The line is edited to itself.
    same_now : may_change table rules r.scan r.line d ≡ true → left_line table rules r.line d ≡ r.line
    same_now m = grind arith

    module _ (lone : is_lone r.scan r.line ≡ true) where
      joins_none : is_spanning r.scan ≡ false
      joins_none = not-true (is_spanning r.scan) (and_parts (not (is_spanning r.scan)) (not (is_empty r.line.ending)) lone).0

      scan_is : r.scan ≡ scan_after [] C r.line
      scan_is = alone (or_parts r.scan.joins_before r.scan.joins_after joins_none).0

      unspliced_line : is_spliced r.line ≡ false
      unspliced_line = grind (arith, unspliced, scan_is, or_parts, joins_none)

      text_is : map shown cells ≡ d.after
      text_is = after_is table rules r.line r.scan d scan_is has

      module _ (e : Expression) (p : expression_of d.after ≡ Some e) where
        tree_is : expression_of (map shown cells) ≡ Some e
        tree_is = ap expression_of text_is ∙ p

        abbrev rest : List Cell
        rest = left_cells (keeps table rules e) cells

        module _ (g : may_go table rules e cells ≡ true) (u : is_undecided table rules (residual table rules e) ≡ true) where
          -- All cells are left, so the tree is its own residual.
          reduced : is_read table rules e rest ≡ true → is_read_alone table rules r.line d ≡ true → IsReduced table rules e
          unfolding simplified_cells
          reduced q z =
              let a = all_left r.line d unspliced_line (same_now (and_from (is_lone r.scan r.line) (is_read_alone table rules r.line d) lone z)) in
              let b : left_cells_of table rules r.line d ≡ rest =
              ap (simplified_cells table rules) cells_are ∙ ap (λ o. simplified_by table rules o cells) tree_is
              ∙ ap (λ (t : Bool). if t then rest else cells) (and_from (may_go table rules e cells) (is_read table rules e rest) g q) in
              let w = written_left table rules e cells tree_is rest q in
              let f = is_some (sym w ∙ ap (λ (cs : List Cell). expression_of (map shown cs)) (sym b ∙ a ∙ cells_are) ∙ tree_is) in
              fixed_reduced table rules e f (and_parts (is_unknown (residual table rules e).cond) (is_unknown (tree_cond (residual table rules e).tree table rules)) u).0

        by_text : may_go table rules e cells ≡ true →
            is_undecided table rules (residual table rules e) ≡ true →
            (m z : Bool) → is_read table rules e rest ≡ m → is_read_alone table rules r.line d ≡ z → Reason
        by_text g u false z a b = inl (rest_misread e p a)
        by_text g u true false a b = inl (line_misread b)
        by_text g u true true a b = inr (e, p, reduced g u a b)

        by_cond : (k u q : Bool) → is_unknown (tree_cond e table rules) ≡ k →
            is_undecided table rules (residual table rules e) ≡ u →
            list_any is_literal cells ≡ q → Reason
        by_cond false u q a b c = inl (decided e p a)
        by_cond true false q a b c = inl (rest_decided e p b)
        by_cond true true true a b c = inl (has_quote c)
        by_cond true true false a b c = by_text (rw (a, b, c) refl) b _ _ refl refl

      by_tree : (expression_of d.after ≡ None) ⊎ ((e : Expression) × (expression_of d.after ≡ Some e)) → Reason
      by_tree (inl n) = inl (not_understood n)
      by_tree (inr (e, p)) = by_cond e p _ _ _ refl refl refl

    reason : Reason
    reason = by (cases_Bool (is_lone r.scan r.line))
      where
        by : TrueOrFalse (is_lone r.scan r.line) → Reason
        by (inl l) = by_tree l (option_is (expression_of d.after))
        by (inr l) = inl (joins_line l)

  -- 4. The lines of a simplified text.

  lone_scan : (r s : Reading) → ReadingSimplified table rules r s → s.scan.joins_before ≡ false → s.scan ≡ scan_after [] C s.line
  lone_scan r s h = grind arith

  from : {rs ss : List Reading} → Pairs (ReadingSimplified table rules) rs ss →
      (before after : List Reading) (s : Reading) → ss ≡ before ++ s ∷ after →
      (r : Reading) × ReadingSimplified table rules r s
  from no_pair [] after s e = cc
  from no_pair (b ∷ before) after s e = cc
  from (pair {x = r} {y = t} i p) [] after s e = let q : t ≡ s = cc in (r, subst (λ (x : Reading). ReadingSimplified table rules r x) q i)
  from (pair {ys = ss} i p) (b ∷ before) after s e = let q : ss ≡ before ++ s ∷ after = cc in from p before after s q

  -- Each condition is reduced, or may stay.
  pub operands_left : (bytes : List ℕ) (before after : List Reading) (s : Reading) (d : Directive) →
      read_as C (simplified_text table rules bytes) ≡ before ++ s ∷ after → content_of s.scan ≡ directive d →
      test_of d.kind ≡ Nonzero → IsSimplified table rules s d
  operands_left bytes before after s d e h v =
      let f = from (readings_simplified table rules bytes) before after s (ap (λ (ls : List Line). read_in C ls) (sym (lines_left table rules bytes)) ∙ e) in
      reason s d h v (line_stays table rules f.0 s f.1) (lone_scan f.0 s f.1)

-- `#else` and `#endif` lines: C reads the same.

white_spaced : (bytes : List ℕ) → are_white bytes ≡ true → spaced true bytes ≡ []
white_spaced [] e = refl
white_spaced (b ∷ bytes) e = let p = and_parts (is_white b) (are_white bytes) e in
    ap (λ (w : Bool). if w then spaced true bytes else (space ∷ b ∷ []) ++ spaced false bytes) p.0 ∙ white_spaced bytes p.1

closing_kind : (k : Kind) → test_of k ≡ Nothing → is_closing k ≡ true
closing_kind k e = grind arith

same_closing : (j k : Kind) → SameKind j k → k ≡ j
same_closing j k h = grind arith

-- The line `s` has a directive of the kind of `d`, and C reads the same after the keyword.
abbrev IsSameToC : Directive → Reading → Type 0
IsSameToC d s = (e : Directive) × (content_of s.scan ≡ directive e) × (e.kind ≡ d.kind) × (spaced true e.after ≡ spaced true d.after)

module _ (table : List Argument) (rules : Rules) where
  closing_same : (r s : Reading) (d : Directive) → ReadingSimplified table rules r s → content_of r.scan ≡ directive d → test_of d.kind ≡ Nothing → IsSameToC d s
  closing_same r s d (reading_stays e q h) has t = (d, ap (λ (x : Reading). content_of x.scan) q ∙ has, refl, refl)
  closing_same r s d (reading_edited f i) has t =
      let same : f ≡ d = cc (i.edited.has, has) in
      let c = comment_left table rules r.line r.scan f i.edited (closing_kind f.kind (ap (λ (x : Directive). test_of x.kind) same ∙ t)) in (
        i.edited.now,
        ap content_of i.after ∙ i.edited.has_now,
        same_closing f.kind i.edited.now.kind i.edited.kind ∙ ap (λ (x : Directive). x.kind) same,
        white_spaced i.edited.now.after c.1 ∙ sym (white_spaced f.after c.0) ∙ ap (λ (x : Directive). spaced true x.after) same,
      )

  at_pair : {rs ss : List Reading} → Pairs (ReadingSimplified table rules) rs ss → (before after others more : List Reading) (r s : Reading) →
      rs ≡ before ++ r ∷ after → ss ≡ others ++ s ∷ more → length others ≡ length before → ReadingSimplified table rules r s
  at_pair no_pair [] after others more r s e f n = cc
  at_pair no_pair (b ∷ before) after others more r s e f n = cc
  at_pair (pair {x = a} {y = b} i p) [] after [] more r s e f n =
      let x : a ≡ r = cc in
      let y : b ≡ s = cc in subst (λ (q : Reading). ReadingSimplified table rules q s) x (subst (ReadingSimplified table rules a) y i)
  at_pair (pair i p) [] after (o ∷ others) more r s e f n = absurd (omega (arith, n))
  at_pair (pair i p) (b ∷ before) after [] more r s e f n = absurd (omega (arith, n))
  at_pair (pair {xs = rs} {ys = ss} i p) (b ∷ before) after (o ∷ others) more r s e f n =
      let x : rs ≡ before ++ r ∷ after = cc in
      let y : ss ≡ others ++ s ∷ more = cc in at_pair p before after others more r s x y (omega (arith, n))

  -- C reads these lines of the simplified text as before.
  pub closings_same : (bytes : List ℕ) (before after others more : List Reading) (r s : Reading) (d : Directive) →
      read_as C bytes ≡ before ++ r ∷ after → read_as C (simplified_text table rules bytes) ≡ others ++ s ∷ more → length others ≡ length before →
      content_of r.scan ≡ directive d → test_of d.kind ≡ Nothing → IsSameToC d s
  closings_same bytes before after others more r s d e f n has t =
      closing_same r s d (at_pair (readings_simplified table rules bytes) before after others more r s e (ap (λ (ls : List Line). read_in C ls) (sym (lines_left table rules bytes)) ∙ f) n) has t
