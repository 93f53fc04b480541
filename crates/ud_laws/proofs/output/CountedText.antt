-- The lines of a text under `-n` and `-b`, counted from the first to the last.
use Rattle.std.proofs.Common.{◌≡◌, ℕ, suc, ◌+◌, ◌≤◌, List, [], ◌∷◌, ◌++◌, length, map, Bool, true}
use Rattle.std.proofs.Common.{false, ◌||◌, Option, refl, sym, ◌∙◌, ap, subst, arith}
use Rattle.std.specs.List.{concat}
use Rattle.std.proofs.lemmas.List.{map-append, length-map}
use Rattle.ud_model.specs.text.Lines.{Line, lines_of, numbered_from, AreFormed}
use Rattle.ud_model.specs.text.Scans.{Reading}
use Rattle.ud_model.specs.sections.Tree.{Item, Tree, lines}
use Rattle.ud_model.specs.sections.Pruning.{marks}
use Rattle.ud_model.specs.sections.Items.{Options, reading_of, line_of, item_of, read_after, next_item}
use Rattle.ud_model.specs.sections.Faults.{Fault, AreFaultless, no_lines, one_more, NoneHolds, cases}
use Rattle.ud_model.specs.answer.Printing.{Judged, judged_lines}
use Rattle.ud_model.specs.answer.Outcomes.{Outcome, ReadsAs, HasOutcome, ran_as}
use Rattle.ud_laws.specs.answer.Successes.{JudgedAs, judged_as}
use Rattle.ud_model.specs.laws.Pruned.{printed}
use Rattle.ud_model.specs.laws.Rereading.{IsPlain}
use Rattle.ud_laws.specs.output.InsertedLines.{with_blank_renumber, AddsNumbers, Counted, CountsLines}
use Rattle.ud_model.specs.aids.ReadAs.{read_in, read_as}
use Rattle.ud_model.specs.declared.limits.TheConstants.{MAX_LINES}
use Rattle.ud_model.specs.declared.kind.Mode.{Mode}
use Rattle.ud_model.proofs.text.ScanLaws.{readings_after-append}
use Rattle.ud_model.proofs.sections.Soundness.{lines_with_next, sound_lines, one_run}
use Rattle.ud_laws.proofs.output.BlankedLineLemmas.{lines_read, judged_read}
use Rattle.ud_laws.proofs.output.CountedLines.{State, Done, done, first_state, next_state, next_done}
use Rattle.ud_model.proofs.output.Each.{Each, each_parts, each_both}
use Rattle.ud_model.proofs.output.Heeding.{ReadIn, none_read, one_read, the_mode}
use Rattle.ud_model.proofs.output.LeavesOff.{readings_last}
use Rattle.ud_model.proofs.output.OutputPieces.{all_formed, all_pieces, output_lines}
use Rattle.ud_model.proofs.output.RereadChain.{AllButLast, IsInner, ends_before, lines_end, next_is}
use Rattle.ud_model.proofs.output.RereadLaws.{plain_output, left_piece, item_bytes}
use Rattle.ud_laws.proofs.output.SharedLineLemmas.{reads_too}
use Rattle.ud_laws.proofs.output.Inserting.{lines_last}
use Rattle.ud_model.proofs.sections.FaultStays.{line_of-next_item}

-- The lines are numbered on from this number.
pub InOrder : ℕ → List Line → Type 0
InOrder k [] = Unit {0}
InOrder k (l ∷ ls) = (l.number ≡ k) × InOrder (suc k) ls

-- Lines that are numbered are in order.
pub numbered_in_order : (k : ℕ) (ts : List (List ℕ)) → InOrder k (numbered_from k ts)
unfolding InOrder
numbered_in_order k [] = tt
numbered_in_order k (t ∷ ts) = (refl, numbered_in_order (suc k) ts)

-- The last line has the last number.
pub order_last : (k : ℕ) (ls : List Line) (l : Line) → InOrder k (ls ++ l ∷ []) → InOrder k ls × (l.number ≡ k + length ls)
unfolding InOrder
order_last k [] l h = (tt, h.0 ∙ omega arith)
order_last k (j ∷ ls) l h = let r : InOrder (suc k) ls × (l.number ≡ suc k + length ls) = order_last (suc k) ls l h.1 in ((h.0, r.0), r.1 ∙ omega arith)

module _ (o : Options) (p : IsPlain o) (b n : Bool) (some : (b || n) ≡ true) (padded : o.settings.unpadded ≡ false) where
  abbrev The : List (Item Reading) → Tree Reading → Type 0
  The xs t = State o (the_mode o) b n some padded xs t

  abbrev End : List (Item Reading) → Tree Reading → Type 0
  End xs t = Done o (the_mode o) b n some padded xs t

  inside : {xs : List (Item Reading)} {t : Tree Reading} → AreFaultless o xs t → Each IsInner (map line_of xs) → InOrder 1 (map line_of xs) → The xs t
  inside no_lines h i = first_state o (the_mode o) b n some padded
  inside (one_more xs t s l u e w) h i =
      let k = each_parts IsInner (map line_of xs) (l ∷ []) (subst (Each IsInner) (lines_with_next o xs t l) h) in
      let c = order_last 1 (map line_of xs) l (subst (InOrder 1) (lines_with_next o xs t l) i) in
      let same : next_item o xs t l ≡ item_of o (read_after xs (the_mode o) l) = next_is o p xs t l s in
      subst (λ (x : Item Reading). The (xs ++ x ∷ []) u) (sym same)
      (next_state o (the_mode o) b n some padded xs t (sound_lines s) (inside s k.0 c.0) l u (c.1 ∙ ap (λ (d : ℕ). 1 + d) (length-map xs line_of) ∙ omega arith) (grind (arith, line_of-next_item))
      (subst (λ (x : Item Reading). lines u ≡ xs ++ x ∷ []) same e) (subst (λ (x : Item Reading). NoneHolds xs x cases) same w) k.1.0.1 k.1.0.0)

  to_the_end : {xs : List (Item Reading)} {t : Tree Reading} → AreFaultless o xs t → AllButLast (map line_of xs) → InOrder 1 (map line_of xs) → End xs t
  to_the_end no_lines h i = done o (the_mode o) b n some padded [] _ (first_state o (the_mode o) b n some padded)
  to_the_end (one_more xs t s l u e w) h i =
      let k = ends_before (map line_of xs) l (subst AllButLast (lines_with_next o xs t l) h) in
      let c = order_last 1 (map line_of xs) l (subst (InOrder 1) (lines_with_next o xs t l) i) in
      let same : next_item o xs t l ≡ item_of o (read_after xs (the_mode o) l) = next_is o p xs t l s in
      subst (λ (x : Item Reading). End (xs ++ x ∷ []) u) (sym same)
      (next_done o (the_mode o) b n some padded xs t (sound_lines s) (inside s k.0 c.0) l u (c.1 ∙ ap (λ (d : ℕ). 1 + d) (length-map xs line_of) ∙ omega arith) (grind (arith, line_of-next_item))
      (subst (λ (x : Item Reading). lines u ≡ xs ++ x ∷ []) same e) (subst (λ (x : Item Reading). NoneHolds xs x cases) same w) k.1)

-- Readings in one mode are those of their lines.
read_lines_in : (o : Options) (m : Mode) (ys : List (Item Reading)) → ReadIn o m ys → map reading_of ys ≡ read_in m (map line_of ys)
read_lines_in o m _ none_read = refl
read_lines_in o m _ (one_read ys r l) = grind (arith, readings_last, read_lines_in o m ys r, readings_after-append, map-append, lines_last)

reads_sound : {o : Options} {input : List ℕ} {xs : List (Item Reading)} {t : Tree Reading} {f : Option Fault} → ReadsAs o input xs t f → AreFaultless o xs t
reads_sound h = grind arith

formed_pieces : (u : Bool) (xs : List (Item Reading)) (t : Tree Reading) (ts : List (List ℕ)) → map line_of xs ≡ numbered_from 1 ts → AreFormed ts → AreFormed (map (left_piece u) (printed xs (marks t)))
unfolding all_pieces
formed_pieces u xs t ts e f = all_formed u xs (marks t) 1 ts e f

-- Each line that is left has its own number.
pub counted_text : (o : Options) → IsPlain o → (b n : Bool) → (b || n) ≡ true → o.settings.unpadded ≡ false → (input : List ℕ) → {xs : List (Item Reading)} {t : Tree Reading} {f : Option Fault} {r s : Outcome} →
    ReadsAs o input xs t f → HasOutcome o input r → HasOutcome (with_blank_renumber b n o) input s →
    (k : ℕ) × Counted (judged_lines xs (marks t)) (read_as (the_mode o) r.output) (read_as (the_mode o) s.output) k
counted_text o p b n some padded input {xs = xs} {t = t} {r = r} {s = s} a run other =
    let js : List Judged = judged_lines xs (marks t) in
    let m : Mode = the_mode o in
    let ls = lines_read a in
    let d : Done o m b n some padded xs t =
    to_the_end o p b n some padded (reads_sound a) (subst AllButLast (sym ls.2) (lines_end 1 ls.0 ls.1)) (subst (InOrder 1) (sym ls.2) (numbered_in_order 1 ls.0)) in
    let plain : r.output ≡ concat (map (left_piece o.settings.unpadded) (printed xs (marks t))) = cc (one_run run (ran_as a), p.unlisted, plain_output o p xs (marks t)) in
    let first : lines_of r.output ≡ map line_of d.ys =
    ap (λ (q : List ℕ). lines_of q) plain ∙ output_lines (map (left_piece o.settings.unpadded) (printed xs (marks t))) (formed_pieces o.settings.unpadded xs t ls.0 ls.2 ls.1)
    ∙ ap (λ (ps : List (List ℕ)). numbered_from 1 ps) (sym (item_bytes o.settings.unpadded d.ys (printed xs (marks t)) d.again.same)) ∙ sym d.again.numbered in
    let e = reads_too o (with_blank_renumber b n o) refl refl refl a in
    let out : s.output ≡ concat d.qs = cc (one_run other (ran_as e), p.unlisted, p.uncomplemented, padded, d.same) in
    let second = ap (λ (q : List ℕ). lines_of q) out ∙ output_lines d.qs d.formed ∙ sym d.are in (
      d.next,
      subst (λ (rs : List Reading). Counted js rs (read_as m s.output) d.next) (read_lines_in o m d.ys d.again.read ∙ ap (λ (ks : List Line). read_in m ks) (sym first))
          (subst (λ (ss : List Reading). Counted js (map reading_of d.ys) ss d.next) (read_lines_in o m d.zs d.read ∙ ap (λ (ks : List Line). read_in m ks) (sym second)) d.counted),
    )

-- Each line of an outcome with `-b` or `-n` is counted.
pub counted_lines : (o : Options) (input : List ℕ) {js : List Judged} {r s : Outcome} → AddsNumbers o input r s → JudgedAs o input js →
    CountsLines o js r.output s.output
counted_lines o input k (judged_as reads) = counted_text o k.plain k.blank k.renumber k.some k.padded input reads k.runs k.numbered

module _ (o : Options) where
  few_items : {xs : List (Item Reading)} {t : Tree Reading} → AreFaultless o xs t → Each (λ (l : Line). l.number ≤ MAX_LINES) (map line_of xs)
  few_items no_lines = tt
  few_items (one_more xs t s l u e w) = grind (arith, lines_with_next, line_of-next_item, each_both, few_items s)

each_line : (js : List Judged) → Each (λ (l : Line). l.number ≤ MAX_LINES) (map (λ (j : Judged). j.line) js) → Each (λ (j : Judged). j.line.number ≤ MAX_LINES) js
each_line [] h = tt
each_line (j ∷ js) h = (h.0, each_line js h.1)

-- Judged lines have numbers within the limit.
pub judged_few : (o : Options) (input : List ℕ) {js : List Judged} → JudgedAs o input js → Each (λ (j : Judged). j.line.number ≤ MAX_LINES) js
judged_few o input h = grind (arith, each_line, judged_read, few_items)
