-- Under `-b` each line of the output has the position of the line that it is the output for.
use Rattle.std.proofs.Common.{◌≡◌, ◌≢◌, None, append-nil, ℕ, suc, List, [], ◌∷◌, ◌++◌, map, Bool, true, false, ◌⊎◌, inl, inr, Option, refl, sym, ◌∙◌, ap, ap₂, subst, arith, rules}
use Rattle.std.specs.List.{concat}
use Rattle.ud_model.specs.text.Lines.{Line, line_at, lines_of, texts_of, numbered_from, ending_of}
use Rattle.ud_model.specs.text.Lines.{IsWhole, IsUnterminated, AreWhole, AreFormed, partial_line}
use Rattle.ud_model.specs.text.Scans.{Reading}
use Rattle.ud_model.specs.sections.Directives.{Span}
use Rattle.ud_model.specs.sections.Tree.{Item, Tree}
use Rattle.ud_model.specs.sections.Pruning.{marks}
use Rattle.ud_model.specs.sections.Items.{Options, line_of}
use Rattle.ud_model.specs.sections.Faults.{Fault}
use Rattle.ud_model.specs.answer.Printing.{Judged, piece_by, piece_alone, piece_after, pieces_by, judged_lines}
use Rattle.ud_model.specs.answer.Outcomes.{Outcome, ReadsAs, HasOutcome, ran_as}
use Rattle.ud_model.specs.answer.Outcomes.ReadsAs.{stops, ends}
use Rattle.ud_laws.specs.output.BlankedLines.{complemented_if, blanked, AreBlankedLines, no_line}
use Rattle.ud_laws.specs.output.BlankedLines.{one_line, lost_line}
use Rattle.ud_model.specs.declared.settings.Listing.TheVariants.{Off}
use Rattle.ud_model.specs.declared.verdict.Verdict.{Verdict}
use Rattle.ud_model.specs.declared.verdict.Verdict.TheVariants.{Remove}
use Rattle.ud_model.proofs.text.LinesLemmas.{are_whole, lines_exist, text_of-line_at}
use Rattle.ud_model.proofs.output.Formed.{IsLeft, ending_none, whole_ending, IsEnd, whole_piece, unended_piece, formed_more, left_line, end_is_some}
use Rattle.ud_model.proofs.output.Each.{Each}
use Rattle.ud_model.proofs.output.OutputPieces.{output_lines}
use Rattle.ud_model.proofs.output.RereadStep.{goes_or_left}
use Rattle.ud_model.proofs.answer.Onward.{judged_all, read_lines}
use Rattle.ud_model.proofs.sections.Stays.{length_marks}
use Rattle.ud_model.proofs.sections.Soundness.{one_run}

-- 1. The pieces.

blank_piece : (c n : Bool) (before : List Judged) (j : Judged) → piece_after (record { blank = true; complement = c; renumber = n; unpadded = false }) before j ≡ blanked c j
blank_piece c n before j = grind arith

-- Under `-b` each line is printed by itself.
pub blank_pieces : (c n : Bool) (before js : List Judged) → pieces_by (piece_after (record { blank = true; complement = c; renumber = n; unpadded = false })) before js ≡ map (blanked c) js
blank_pieces c n before [] = refl
blank_pieces c n before (j ∷ js) = ap₂ (λ (p : List ℕ) (ps : List (List ℕ)). p ∷ ps) (blank_piece c n before j) (blank_pieces c n (before ++ j ∷ []) js)

-- 2. The lines that they are.

-- A line that is left is printed by its verdict.
left_alone : (v : Verdict) (k : Span) (l : Line) → IsLeft v → piece_alone false true (record { line = l; verdict = v; keyword = k }) ≡ piece_by false v k l
left_alone v k l h = grind arith

ending_alone : (m : ℕ) (e : List ℕ) → IsEnd e → line_at m e ≡ record { body = []; ending = e; number = m }
ending_alone m e h = grind arith

ending_whole : (e : List ℕ) → IsEnd e → IsWhole e
ending_whole e (inl h) = (13 ∷ [], ((λ p. omega arith), tt), h)
ending_whole e (inr h) = ([], tt, h)

-- The output for one line: a line with the same number and ending.
record Placed (j : Judged) (n : ℕ) (t : List ℕ) : Type 0 where
  pub ending : (line_at n (piece_alone false true j)).ending ≡ ending_of t
  pub formed : IsWhole t → IsWhole (piece_alone false true j)

placed_by : (v : Verdict) (k : Span) (n : ℕ) (t : List ℕ) → (v ≡ Remove) ⊎ IsLeft v → IsWhole t → Placed (record { line = line_at n t; verdict = v; keyword = k }) n t
placed_by v k n t (inl e) w = subst (λ (u : Verdict). Placed (record { line = line_at n t; verdict = u; keyword = k }) n t) (sym e)
    (record { ending = ap (λ (l : Line). l.ending) (ending_alone n (ending_of t) (whole_ending t w)); formed = λ _. ending_whole (ending_of t) (whole_ending t w) })
placed_by v k n t (inr h) w = record {
  ending = ap (λ (p : List ℕ). (line_at n p).ending) (left_alone v k (line_at n t) h) ∙ ap (λ (l : Line). l.ending) (left_line false v k n n t h (inl w));
  formed = λ _. subst IsWhole (sym (left_alone v k (line_at n t) h)) (whole_piece false v k n t h w);
}

placed : (j : Judged) (n : ℕ) (t : List ℕ) → j.line ≡ line_at n t → IsWhole t → Placed j n t
placed j n t e w =
    subst (λ (l : Line). Placed (record { line = l; verdict = j.verdict; keyword = j.keyword }) n t) (sym e) (placed_by j.verdict j.keyword n t (goes_or_left j.verdict) w)

-- The lines are the output for judged lines that begin with this number, each at its position.
record Places (c : Bool) (js : List Judged) (n : ℕ) : Type 0 where
  pub pieces : List (List ℕ)
  pub formed : AreFormed pieces
  pub same : concat pieces ≡ concat (map (blanked c) js)
  pub places : AreBlankedLines c js (numbered_from n pieces)

turned_line : (c : Bool) (j : Judged) → (complemented_if c j).line ≡ j.line
turned_line c j = grind arith

whole_more : (c : Bool) (j : Judged) (js : List Judged) (n : ℕ) (t : List ℕ) → j.line ≡ line_at n t → IsWhole t → Places c js (suc n) → Places c (j ∷ js) n
whole_more c j js n t e w r =
    let p : Placed (complemented_if c j) n t = placed (complemented_if c j) n t (turned_line c j ∙ e) w in
    record {
      pieces = blanked c j ∷ r.pieces;
      formed = formed_more (blanked c j) r.pieces (p.formed w) r.formed;
      same = ap (λ (x : List ℕ). blanked c j ++ x) r.same;
      places = one_line j (line_at n (blanked c j)) js (numbered_from (suc n) r.pieces) (search (rules, text_of-line_at)) r.places;
    }

none_placed : (c : Bool) (n : ℕ) → Places c [] n
none_placed c n = record { pieces = []; formed = tt; same = refl; places = no_line }

-- The case of a last line without an ending.
unended_placed : (c : Bool) (j : Judged) (n : ℕ) (t : List ℕ) → j.line ≡ line_at n t → IsUnterminated t → Places c (j ∷ []) n
unended_placed c j n t e w = by_verdict (goes_or_left (complemented_if c j).verdict)
  where
    line : (complemented_if c j).line ≡ line_at n t
    line = turned_line c j ∙ e

    none : j.line.ending ≡ []
    none = ap (λ (l : Line). l.ending) e ∙ ending_none t w.1

    gone_piece : (i : Judged) → i.verdict ≡ Remove → piece_alone false true i ≡ i.line.ending
    gone_piece i v = ap (λ (u : Verdict). piece_alone false true (record { line = i.line; verdict = u; keyword = i.keyword })) v

    by_verdict : ((complemented_if c j).verdict ≡ Remove) ⊎ IsLeft (complemented_if c j).verdict → Places c (j ∷ []) n
    by_verdict (inl v) = grind (arith, gone_piece, turned_line, none, lost_line)
    by_verdict (inr h) = let v : Verdict = (complemented_if c j).verdict in
        let k : Span = (complemented_if c j).keyword in
        let is = left_alone v k (complemented_if c j).line h ∙ ap (λ (l : Line). piece_by false v k l) line in
        let d : (line_at n (blanked c j)).ending ≡ ending_of t =
        ap (λ (p : List ℕ). (line_at n p).ending) is ∙ ap (λ (l : Line). l.ending) (left_line false v k n n t h (inr w)) in
        record {
          pieces = blanked c j ∷ [];
          formed = inr (subst IsUnterminated (sym is) (unended_piece false v k n t h w));
          same = refl;
          places =
              one_line j (line_at n (blanked c j)) [] [] (search (rules, text_of-line_at)) no_line;
        }

all_placed : (c : Bool) (js : List Judged) (n : ℕ) (ts : List (List ℕ)) → map (λ (j : Judged). j.line) js ≡ numbered_from n ts → AreFormed ts → Places c js n
all_placed c [] n ts e f = none_placed c n
all_placed c (j ∷ []) n (t ∷ []) e (inl w) = let p : j.line ≡ line_at n t = cc in whole_more c j [] n t p w (none_placed c (suc n))
all_placed c (j ∷ []) n (t ∷ []) e (inr w) = let p : j.line ≡ line_at n t = cc in unended_placed c j n t p w
all_placed c (j ∷ k ∷ js) n (t ∷ u ∷ ts) e f = let p : j.line ≡ line_at n t = cc in
    let q : map (λ (j : Judged). j.line) (k ∷ js) ≡ numbered_from (suc n) (u ∷ ts) = cc in
    whole_more c j (k ∷ js) n t p f.0 (all_placed c (k ∷ js) (suc n) (u ∷ ts) q f.1)
all_placed _ _ n _ e f = cc

-- 3. The lines of a text.

-- A prefix of numbered lines is formed.
pub front_formed : (n : ℕ) (us : List (List ℕ)) (ls later : List Line) → AreFormed us → numbered_from n us ≡ ls ++ later →
    (ts : List (List ℕ)) × AreFormed ts × (ls ≡ numbered_from n ts)
front_formed n us [] later f e = ([], tt, refl)
front_formed n (u ∷ []) (l ∷ []) later f e = (u ∷ [], f, cc)
front_formed n (u ∷ v ∷ us) (l ∷ ls) later f e =
    let q : numbered_from (suc n) (v ∷ us) ≡ ls ++ later = cc in
    let r = front_formed (suc n) (v ∷ us) ls later f.1 q in
    let p : l ≡ line_at n u = cc in
    (u ∷ r.0, formed_more u r.0 f.0 r.1, ap₂ (λ (k : Line) (ks : List Line). k ∷ ks) p r.2)
front_formed n _ _ _ f e = cc

-- The lines that were read of a text are numbered from 1.
pub lines_read : {o : Options} {input : List ℕ} {xs : List (Item Reading)} {t : Tree Reading} {f : Option Fault} → ReadsAs o input xs t f →
    (ts : List (List ℕ)) × AreFormed ts × (map line_of xs ≡ numbered_from 1 ts)
lines_read {input = input} (stops xs t f s) = front_formed 1 (texts_of input) (map line_of xs) (s.faulty ∷ s.later) (lines_exist input).formed s.are
lines_read {input = input} (ends xs t g) = (texts_of input, (lines_exist input).formed, sym g.are)

-- Each judged line is the line that was read.
pub judged_read : {o : Options} {input : List ℕ} {xs : List (Item Reading)} {t : Tree Reading} {f : Option Fault} → ReadsAs o input xs t f →
    map (λ (j : Judged). j.line) (judged_lines xs (marks t)) ≡ map line_of xs
judged_read a = grind (arith, judged_all, length_marks, read_lines)

pub blanked_places : (o : Options) (input : List ℕ) {xs : List (Item Reading)} {t : Tree Reading} {f : Option Fault} {r : Outcome} → o.settings.blank ≡ true → o.settings.listing ≡ Off →
    o.settings.unpadded ≡ false → ReadsAs o input xs t f → HasOutcome o input r → AreBlankedLines o.settings.complement (judged_lines xs (marks t)) (lines_of r.output)
blanked_places o input {xs = xs} {t = t} {r = r} b off u a run =
    let c : Bool = o.settings.complement in
    let js : List Judged = judged_lines xs (marks t) in
    let ls = lines_read a in
    let p : Places c js 1 = all_placed c js 1 ls.0 (judged_read a ∙ ls.2) ls.1 in
    let out : r.output ≡ concat p.pieces = cc (one_run run (ran_as a), off, b, u, blank_pieces c o.settings.renumber [] js, p.same) in
    subst (AreBlankedLines c js) (sym (ap (λ (q : List ℕ). lines_of q) out ∙ output_lines p.pieces p.formed)) p.places

-- 4. As many lines.

-- A judged line has an ending.
abbrev Ended : Judged → Type 0
Ended j = j.line.ending ≢ []

same_endings : {c : Bool} {js : List Judged} {ks : List Line} → AreBlankedLines c js ks → Each Ended js → map (λ (k : Line). k.ending) ks ≡ map (λ (j : Judged). j.line.ending) js
same_endings no_line h = refl
same_endings (one_line j k js ks p r) h = ap₂ (λ (e : List ℕ) (es : List (List ℕ)). e ∷ es) p.ending (same_endings r h.1)
same_endings (lost_line j e b) h = absurd (h.0 e)

all_ended : (n : ℕ) (ts : List (List ℕ)) (js : List Judged) → AreWhole ts → map (λ (j : Judged). j.line) js ≡ numbered_from n ts → Each Ended js
all_ended n [] (j ∷ js) w e = cc
all_ended n (t ∷ ts) (j ∷ js) w e =
    grind (arith, end_is_some, whole_ending, all_ended (suc n) ts js w.1 cc)
all_ended n _ [] _ _ = tt

endings_of : (js : List Judged) → map (λ (j : Judged). j.line.ending) js ≡ map (λ (l : Line). l.ending) (map (λ (j : Judged). j.line) js)
endings_of [] = refl
endings_of (j ∷ js) = ap (λ (es : List (List ℕ)). j.line.ending ∷ es) (endings_of js)

-- An input whose last line has an ending has an output with as many lines.
pub as_many : (o : Options) (input : List ℕ) {r : Outcome} → o.settings.blank ≡ true → o.settings.listing ≡ Off → o.settings.unpadded ≡ false → partial_line input ≡ [] → HasOutcome o input r → r.fault ≡ None →
    map (λ (k : Line). k.ending) (lines_of r.output) ≡ map (λ (l : Line). l.ending) (lines_of input)
as_many o input b off u e h k =
    let w = are_whole input in
    grind (arith, judged_read, append-nil, same_endings, blanked_places, all_ended, w, endings_of)
