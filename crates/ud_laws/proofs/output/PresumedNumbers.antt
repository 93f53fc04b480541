-- The presumed numbers of an output under `-n` or `-b` are those that the count of its lines gives.
use Rattle.std.proofs.Common.{◌≡◌, ℕ, suc, ◌+◌, ◌%◌, ◌<◌, ◌≤◌, ◌^◌, List, [], ◌∷◌, ◌++◌, Bool, true}
use Rattle.std.proofs.Common.{false, not, ◌&&◌, Some, None, is_some, if◌then◌else◌, codes, decimal}
use Rattle.std.proofs.Common.{inl, ◌⊎◌, refl, sym, ◌∙◌, ap, append_assoc, arith}
use Rattle.std.proofs.lemmas.Fmt.{decimal_by_steps, decimal_injective}
use Rattle.std.proofs.lemmas.List.{same_from_push}
use Rattle.ud_model.specs.text.Bytes.{is_white, skip_white}
use Rattle.ud_model.specs.text.Scans.{Scan, Reading, plain_scan}
use Rattle.ud_model.specs.answer.Printing.{Judged}
use Rattle.ud_laws.specs.output.InsertedLines.{IsLone, IsBlankLine, IsNumberLine, IsPrinted, Counted, no_line, goes, blanked, counts_on, starts_anew}
use Rattle.ud_laws.specs.output.InsertedNodes.{IsInserted}
use Rattle.ud_laws.specs.output.PresumedLines.{line_operand, HaveNoLineDirective, GivesNumber, Presumed, Presumes, no_lines, passes, processes, obeys, IsLineFor, HasInputNumber, HaveInputNumbers}
use Rattle.ud_model.proofs.text.Pushes.{push_not_nil}
use Rattle.ud_model.proofs.output.Each.{Each, each_both, each_parts}
use Rattle.std.proofs.lemmas.Grind.{common_steps}

-- 1. The operand of an inserted line.

abbrev NotWhite : ℕ → Type 0
NotWhite b = is_white b ≡ false

decimal_not_white : (n : ℕ) → n < 2 ^ 64 → Each NotWhite (decimal n)
decimal_not_white n h =
    decimal_by_steps (λ k ds. Each NotWhite ds) (λ k l. (grind arith, tt))
    (λ k ds l q. each_both NotWhite ds ((48 + k % 10) ∷ []) q (grind arith, tt)) n h

nothing_skipped : (ds : List ℕ) → Each NotWhite ds → skip_white ds ≡ ds
nothing_skipped [] h = refl
nothing_skipped (b ∷ bs) h = ap (λ (w : Bool). if w then skip_white bs else b ∷ bs) h.0

-- The scan of a line with this body, by itself.
abbrev lone : List ℕ → Scan
lone b = plain_scan (record { body = b; ending = []; number = 0 })

lone_operand : (d : Reading) (b : List ℕ) → d.line.body ≡ b → IsLone d → line_operand d.scan ≡ line_operand (lone b)
lone_operand d b e k = ap line_operand k ∙ ap (λ (x : List ℕ). line_operand (lone x)) e

number_operand : (n : ℕ) → line_operand (lone (codes "#line " ++ decimal n)) ≡ Some (skip_white (decimal n))
number_operand n = refl

-- An inserted `#line` has its number as its operand.
pub inserted_operand : (n : ℕ) (d : Reading) → n < 2 ^ 64 → IsNumberLine n d → line_operand d.scan ≡ Some (decimal n)
inserted_operand n d h k = cc (lone_operand d (codes "#line " ++ decimal n) k.0 k.1, number_operand n, nothing_skipped (decimal n) (decimal_not_white n h))

-- An inserted blank line has none.
pub blank_operand : (d : Reading) → IsBlankLine d → line_operand d.scan ≡ None
blank_operand d k = lone_operand d [] k.0 k.1

-- 2. One line more.

-- The last line is left out, is processed, or is a `#line` that is obeyed.
pub data LastLine (ls : List Reading) (d : Reading) : List Presumed → Bool → ℕ → Type 0 where
  passed : {ps : List Presumed} {sure : Bool} {n : ℕ} → Presumes ls ps sure n → LastLine ls d ps (sure && not (is_some (line_operand d.scan))) (suc n)
  processed : {ps : List Presumed} {sure : Bool} {n : ℕ} → Presumes ls ps sure n → line_operand d.scan ≡ None →
      LastLine ls d (ps ++ record { line = d; number = n; sure = sure } ∷ []) sure (suc n)
  obeyed : {ps : List Presumed} {sure : Bool} {n : ℕ} → Presumes ls ps sure n → (m : ℕ) → GivesNumber m d →
      LastLine ls d (ps ++ record { line = d; number = n; sure = sure } ∷ []) true m

-- The last line is one of these.
pub last_by : {ks : List Reading} {ps : List Presumed} {sure : Bool} {n : ℕ} → Presumes ks ps sure n → (ls : List Reading) (d : Reading) → ks ≡ ls ++ d ∷ [] → LastLine ls d ps sure n
last_by no_lines ls d e = absurd (push_not_nil ls d (sym e))
last_by (passes p r) ls d e = grind (arith, same_from_push, passed)
last_by (processes p r h) ls d e = grind (arith, same_from_push, processed)
last_by (obeys p r m h) ls d e = grind (arith, same_from_push, obeyed)

have_both : (js : List Judged) (ps : List Presumed) (p : Presumed) → HaveInputNumbers js ps → HasInputNumber js p → HaveInputNumbers js (ps ++ p ∷ [])
have_both js [] p h k = (k, tt)
have_both js (q ∷ ps) p h k = (h.0, have_both js ps p h.1 k)

-- Lines keep their input numbers if the input goes on.
further : (js : List Judged) (j : Judged) (ps : List Presumed) → HaveInputNumbers js ps → HaveInputNumbers (js ++ j ∷ []) ps
further js j [] h = tt
further js j (p ∷ ps) h = (grind (arith, append_assoc, h.0), further js j ps h.1)

-- However C processes these lines: if the next line is sure, it has this number, and the lines have
-- input numbers.
abbrev Right : List Judged → List Reading → ℕ → Type 0
Right js ss n = (ps : List Presumed) (sure : Bool) (m : ℕ) → Presumes ss ps sure m → (sure ≡ true → m ≡ n) × HaveInputNumbers js ps

right_further : (js : List Judged) (j : Judged) (ss : List Reading) (n : ℕ) → Right js ss n → Right (js ++ j ∷ []) ss n
right_further js j ss n h ps sure m p = let k = h ps sure m p in (k.0, further js j ps k.1)

-- A line that is no `#line`.
right_line : (js : List Judged) (ss : List Reading) (d : Reading) (n : ℕ) → line_operand d.scan ≡ None → Right js ss n →
    ((k : ℕ) → k ≡ n → IsInserted d ⊎ IsLineFor js d k) → Right js (ss ++ d ∷ []) (suc n)
right_line js ss d n none h is ps sure m p = by_last (last_by p ss d refl)
  where
    by_last : {qs : List Presumed} {b : Bool} {k : ℕ} → LastLine ss d qs b k → (b ≡ true → k ≡ suc n) × HaveInputNumbers js qs
    by_last (passed q) = grind arith
    by_last (processed q e) = grind (arith, have_both)
    by_last (obeyed q i g) = let e : None ≡ Some (decimal i) = sym none ∙ g.operand in cc

-- An inserted `#line`.
right_number : (js : List Judged) (ss : List Reading) (d : Reading) (n k : ℕ) → k ≤ 2147483647 → IsNumberLine k d → Right js ss n → Right js (ss ++ d ∷ []) k
right_number js ss d n k small is h ps sure m p = grind (arith, common_steps, last_by, inserted_operand, decimal_injective, have_both)

-- 3. Counted lines.

abbrev IsFew : Judged → Type 0
IsFew j = j.line.number ≤ 2147483647

-- No line begins with `# line`, before the last one and at the end.
pub none_last : (rs : List Reading) (r : Reading) → HaveNoLineDirective (rs ++ r ∷ []) → HaveNoLineDirective rs × (line_operand r.scan ≡ None)
none_last [] r h = (tt, h.0)
none_last (s ∷ rs) r h = let k = none_last rs r h.1 in ((h.0, k.0), k.1)

printed_for : (js : List Judged) (j : Judged) (r s : Reading) → IsPrinted j r s → (k : ℕ) → k ≡ j.line.number → IsInserted s ⊎ IsLineFor (js ++ j ∷ []) s k
printed_for js j r s p k e = grind arith

right_first : Right [] [] 1
right_first ps sure m p = grind (arith, push_not_nil)

-- The presumed numbers of counted lines are those of the count.
pub right_numbers : {js : List Judged} {rs ss : List Reading} {n : ℕ} → Counted js rs ss n → HaveNoLineDirective rs → Each IsFew js → Right js ss n
right_numbers no_line h w = right_first
right_numbers (goes {js = js} {ss = ss} {n = n} c j g) h w = grind (arith, right_further js j ss n (right_numbers c h (each_parts IsFew js (j ∷ []) w).0))
right_numbers (blanked {js = js} {ss = ss} j c g d k) h w =
    right_line (js ++ j ∷ []) ss d j.line.number (blank_operand d k) (right_further js j ss j.line.number (right_numbers c h (each_parts IsFew js (j ∷ []) w).0)) (λ i e. inl (inl k))
right_numbers (counts_on {js = js} {rs = rs} {ss = ss} j c r s p) h w = let q = none_last rs r h in
    right_line (js ++ j ∷ []) ss s j.line.number (ap line_operand p.scanned ∙ q.1)
    (right_further js j ss j.line.number (right_numbers c q.0 (each_parts IsFew js (j ∷ []) w).0))
    (printed_for js j r s p)
right_numbers (starts_anew {js = js} {rs = rs} {ss = ss} {n = n} c j d k r s p) h w =
    let q = none_last rs r h in
    let few = each_parts IsFew js (j ∷ []) w in
    right_line (js ++ j ∷ []) (ss ++ d ∷ []) s j.line.number (ap line_operand p.scanned ∙ q.1)
    (right_number (js ++ j ∷ []) ss d n j.line.number few.1.0 k (right_further js j ss n (right_numbers c q.0 few.0))) (printed_for js j r s p)

-- 4. The lines that C may process.

-- The line is no `#line`, or one that C obeys.
abbrev pub IsClear : Reading → Type 0
IsClear r = (line_operand r.scan ≡ None) ⊎ ((n : ℕ) × GivesNumber n r)

-- Each line of the output is clear.
pub all_clear : {js : List Judged} {rs ss : List Reading} {n : ℕ} → Counted js rs ss n → HaveNoLineDirective rs → Each IsFew js → Each IsClear ss
all_clear no_line h w = tt
all_clear (goes {js = js} c j g) h w = all_clear c h (each_parts IsFew js (j ∷ []) w).0
all_clear (blanked {js = js} {ss = ss} j c g d k) h w =
    each_both IsClear ss (d ∷ []) (all_clear c h (each_parts IsFew js (j ∷ []) w).0) (inl (blank_operand d k), tt)
all_clear (counts_on {js = js} {rs = rs} {ss = ss} j c r s p) h w = let q = none_last rs r h in
    each_both IsClear ss (s ∷ []) (all_clear c q.0 (each_parts IsFew js (j ∷ []) w).0) (inl (ap line_operand p.scanned ∙ q.1), tt)
all_clear (starts_anew {js = js} {rs = rs} {ss = ss} c j d k r s p) h w =
    let q = none_last rs r h in
    let few = each_parts IsFew js (j ∷ []) w in
    each_both IsClear (ss ++ d ∷ []) (s ∷ [])
    (each_both IsClear ss (d ∷ []) (all_clear c q.0 few.0) (grind (arith, inserted_operand, few.1.0, k), tt)) (inl (ap line_operand p.scanned ∙ q.1), tt)
