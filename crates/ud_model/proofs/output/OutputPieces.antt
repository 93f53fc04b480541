-- The pieces that are printed are lines: those of the items that are left.
use Rattle.std.proofs.Common.{◌≡◌, ℕ, suc, ◌≤◌, List, [], ◌∷◌, ◌++◌, length, map, Bool, refl, sym, ◌∙◌, ap, subst, arith, ◌⊎◌, inl, inr}
use Rattle.std.specs.List.{concat}
use Rattle.ud_model.specs.text.Lines.{Line, texts_of, lines_of, line_at, numbered_from, IsWhole, IsUnterminated, AreFormed}
use Rattle.ud_model.specs.text.Scans.{Reading}
use Rattle.ud_model.specs.sections.Directives.{content_of}
use Rattle.ud_model.specs.sections.Tree.{Item, Nodes, text_line, if_line, elif_line, else_line, endif_line, closed}
use Rattle.ud_model.specs.sections.Pruning.{Mark, marks}
use Rattle.ud_model.specs.sections.Items.{Options, reading_of, line_of}
use Rattle.ud_model.specs.answer.Printing.{piece_by, keyword_in}
use Rattle.ud_model.specs.answer.Outcomes.{HasNoFault}
use Rattle.ud_model.specs.laws.Pruned.{Edited, edited, edited_opener, kept_line, printed}
use Rattle.ud_model.specs.laws.Rereading.{edited_bytes}
use Rattle.ud_model.specs.declared.verdict.Verdict.{Verdict}
use Rattle.ud_model.specs.declared.verdict.Verdict.TheVariants.{Keep, Remove, ToIf, ToElse, ToEndif}
use Rattle.ud_model.proofs.output.Formed.{IsLeft, whole_piece, unended_piece, formed_more}
use Rattle.ud_model.proofs.text.LinesLemmas.{texts_of-formed, lines_exist}

-- The line of an item.
abbrev pub line_in : {L : Type 0} → Item L → L
line_in (text_line l) = l
line_in (if_line o) = o.line
line_in (elif_line o) = o.line
line_in (else_line l) = l
line_in (endif_line l) = l

-- The output for a line: nothing, or one item, whose bytes are the line's piece.
unfoldable pub LeftOne : Bool → Verdict → Item Reading → Type 0
LeftOne u v x = (y : Item (Edited Reading)) × (kept_line v x ≡ y ∷ []) × (edited_bytes u (line_in y) ≡ piece_by u v (keyword_in (content_of (reading_of x).scan)) (line_of x)) × IsLeft v

pub left_one : (u : Bool) (v : Verdict) (x : Item Reading) → (v ≡ Remove) ⊎ LeftOne u v x
unfolding LeftOne
left_one u Remove x = inl refl
left_one u ToIf (elif_line p) = inr (if_line (edited_opener ToIf p), refl, refl, tt)
left_one u ToElse (elif_line p) = inr (else_line (edited ToElse p.line), refl, refl, tt)
left_one u ToEndif (elif_line p) = inr (endif_line (edited ToEndif p.line), refl, refl, tt)
left_one u ToEndif (else_line l) = inr (endif_line (edited ToEndif l), refl, refl, tt)
left_one u Keep (elif_line p) = inr (elif_line (edited_opener Keep p), refl, refl, tt)
left_one u Keep (text_line l) = inr (text_line (edited Keep l), refl, refl, tt)
left_one u Keep (if_line p) = inr (if_line (edited_opener Keep p), refl, refl, tt)
left_one u Keep (else_line l) = inr (else_line (edited Keep l), refl, refl, tt)
left_one u Keep (endif_line l) = inr (endif_line (edited Keep l), refl, refl, tt)
left_one u ToIf (text_line l) = inr (text_line (edited ToIf l), refl, refl, tt)
left_one u ToIf (if_line p) = inr (if_line (edited_opener ToIf p), refl, refl, tt)
left_one u ToIf (else_line l) = inr (else_line (edited ToIf l), refl, refl, tt)
left_one u ToIf (endif_line l) = inr (endif_line (edited ToIf l), refl, refl, tt)
left_one u ToElse (text_line l) = inr (text_line (edited ToElse l), refl, refl, tt)
left_one u ToElse (if_line p) = inr (if_line (edited_opener ToElse p), refl, refl, tt)
left_one u ToElse (else_line l) = inr (else_line (edited ToElse l), refl, refl, tt)
left_one u ToElse (endif_line l) = inr (endif_line (edited ToElse l), refl, refl, tt)
left_one u ToEndif (text_line l) = inr (text_line (edited ToEndif l), refl, refl, tt)
left_one u ToEndif (if_line p) = inr (if_line (edited_opener ToEndif p), refl, refl, tt)
left_one u ToEndif (endif_line l) = inr (endif_line (edited ToEndif l), refl, refl, tt)

unfoldable pub all_pieces : Bool → List (Item (Edited Reading)) → List (List ℕ)
all_pieces u ys = map (λ y. edited_bytes u (line_in y)) ys

-- No more lines are left than there are.
pub printed_most : (xs : List (Item Reading)) (ms : List Mark) → length (printed xs ms) ≤ length xs
unfolding LeftOne
printed_most [] ms = omega arith
printed_most (x ∷ xs) [] = omega arith
printed_most (x ∷ xs) (m ∷ ms) = grind (arith, printed_most xs ms)

formed_with : (u : Bool) (v : Verdict) (x : Item Reading) (rest : List (Item (Edited Reading))) (n : ℕ) (t : List ℕ) → line_of x ≡ line_at n t → IsWhole t → AreFormed (all_pieces u rest) →
    AreFormed (all_pieces u (kept_line v x ++ rest))
unfolding LeftOne all_pieces
formed_with u v x rest n t e w f = go (left_one u v x)
  where
    go : (v ≡ Remove) ⊎ LeftOne u v x → AreFormed (all_pieces u (kept_line v x ++ rest))
    go (inl r) = subst (λ (i : Verdict). AreFormed (all_pieces u (kept_line i x ++ rest))) (sym r) f
    go (inr (y, is, bytes, left)) =
        subst (λ (ys : List (Item (Edited Reading))). AreFormed (all_pieces u (ys ++ rest))) (sym is)
        (formed_more (edited_bytes u (line_in y)) (all_pieces u rest)
        (subst IsWhole (sym (bytes ∙ ap (λ (l : Line). piece_by u v (keyword_in (content_of (reading_of x).scan)) l) e))
        (whole_piece u v (keyword_in (content_of (reading_of x).scan)) n t left w)) f)

formed_last : (u : Bool) (v : Verdict) (x : Item Reading) (n : ℕ) (t : List ℕ) → line_of x ≡ line_at n t → IsWhole t ⊎ IsUnterminated t → AreFormed (all_pieces u (kept_line v x ++ []))
unfolding LeftOne all_pieces
formed_last u v x n t e w = go (left_one u v x)
  where
    piece : IsWhole t ⊎ IsUnterminated t → IsLeft v →
        IsWhole (piece_by u v (keyword_in (content_of (reading_of x).scan)) (line_at n t)) ⊎
        IsUnterminated (piece_by u v (keyword_in (content_of (reading_of x).scan)) (line_at n t))
    piece h g = grind (arith, whole_piece, unended_piece)

    go : (v ≡ Remove) ⊎ LeftOne u v x → AreFormed (all_pieces u (kept_line v x ++ []))
    go h = grind (arith, piece)

pub all_formed : (u : Bool) (xs : List (Item Reading)) (ms : List Mark) (n : ℕ) (ts : List (List ℕ)) → map line_of xs ≡ numbered_from n ts → AreFormed ts → AreFormed (all_pieces u (printed xs ms))
unfolding all_pieces
all_formed u [] ms n ts e f = tt
all_formed u (x ∷ xs) [] n ts e f = tt
all_formed u (x ∷ []) (m ∷ ms) n (t ∷ []) e f = let p : line_of x ≡ line_at n t = cc in formed_last u m.verdict x n t p f
all_formed u (x ∷ y ∷ xs) (m ∷ ms) n (t ∷ s ∷ ts) e f = let p : line_of x ≡ line_at n t = cc in
    let q : map line_of (y ∷ xs) ≡ numbered_from (suc n) (s ∷ ts) = cc in
    formed_with u m.verdict x (printed (y ∷ xs) ms) n t p f.0 (all_formed u (y ∷ xs) ms (suc n) (s ∷ ts) q f.1)
all_formed _ _ (_ ∷ _) n _ e f = cc

-- The output for the lines of a text without a faulty line is lines.
pub pieces_formed : (u : Bool) (o : Options) (input : List ℕ) (xs : List (Item Reading)) (ns : Nodes Reading) → HasNoFault o (lines_of input) xs (closed ns) →
    AreFormed (map (λ y. edited_bytes u (line_in y)) (printed xs (marks (closed ns))))
unfolding all_pieces
pieces_formed u o input xs ns g = all_formed u xs (marks (closed ns)) 1 (texts_of input) (sym g.are) (lines_exist input).formed

-- If pieces are lines, these are the lines of the output, each with its number.
pub output_lines : (ps : List (List ℕ)) → AreFormed ps → lines_of (concat ps) ≡ numbered_from 1 ps
output_lines ps f = ap (numbered_from 1) (sym (texts_of-formed ps f))
