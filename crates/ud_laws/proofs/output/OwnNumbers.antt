-- A text without a `#line`: each line's presumed number is its own.
use Rattle.std.proofs.Common.{◌≡◌, ℕ, suc, ◌+◌, List, [], ◌∷◌, ◌++◌, length, map, Bool, true, None, refl, sym, ◌∙◌, ap, subst, append-nil, arith}
use Rattle.std.proofs.lemmas.List.{map-append, length-map}
use Rattle.ud_model.specs.text.Lines.{Line, lines_of}
use Rattle.ud_model.specs.text.Scans.{Reading}
use Rattle.ud_model.specs.text.Scanning.{next_reading, readings_after}
use Rattle.ud_model.specs.aids.ReadAs.{in_mode, read_as}
use Rattle.ud_laws.specs.output.PresumedLines.{line_operand, HaveNoLineDirective, Presumed, Presumes, HasOwnNumber, HaveOwnNumbers}
use Rattle.ud_model.specs.declared.kind.Mode.{Mode}
use Rattle.ud_model.proofs.text.Pushes.{ByPush, none, push, by_push, push_not_nil}
use Rattle.ud_laws.proofs.output.CountedText.{InOrder, numbered_in_order, order_last}
use Rattle.ud_laws.proofs.output.PresumedNumbers.{LastLine, last_by, none_last}
use Rattle.std.proofs.lemmas.Grind.{common_steps}

abbrev line_of : Reading → Line
line_of r = r.line

lines_after : (before : List Reading) (ls : List (Mode × Line)) → map line_of (readings_after before ls) ≡ map line_of before ++ map (λ (l : Mode × Line). l.1) ls
lines_after before [] = sym (append-nil (map line_of before))
lines_after before (l ∷ ls) = grind (arith, common_steps, map-append, lines_after (before ++ next_reading before l.0 l.1 ∷ []) ls)

lines_back : (m : Mode) (ls : List Line) → map (λ (l : Mode × Line). l.1) (map (in_mode m) ls) ≡ ls
lines_back m [] = refl
lines_back m (l ∷ ls) = ap (λ (ks : List Line). l ∷ ks) (lines_back m ls)

lines_read_as : (m : Mode) (text : List ℕ) → map line_of (read_as m text) ≡ lines_of text
lines_read_as m text = lines_after [] (map (in_mode m) (lines_of text)) ∙ lines_back m (lines_of text)

-- However C processes these lines, each has its own number.
abbrev Own : List Reading → Type 0
Own ls = (ps : List Presumed) (sure : Bool) (n : ℕ) → Presumes ls ps sure n → (sure ≡ true) × (n ≡ suc (length ls)) × HaveOwnNumbers ps

own_both : (ps : List Presumed) (p : Presumed) → HaveOwnNumbers ps → HasOwnNumber p → HaveOwnNumbers (ps ++ p ∷ [])
own_both [] p h k = (k, tt)
own_both (q ∷ ps) p h k = (h.0, own_both ps p h.1 k)

own_line : (ls : List Reading) (d : Reading) → line_operand d.scan ≡ None → d.line.number ≡ suc (length ls) → Own ls → Own (ls ++ d ∷ [])
own_line ls d nil at h ps sure m p = grind (arith, common_steps, last_by, LastLine, own_both)

own_first : Own []
own_first ps sure m p = grind (arith, push_not_nil)

own_by : {ls : List Reading} → ByPush ls → HaveNoLineDirective ls → InOrder 1 (map line_of ls) → Own ls
own_by none h i = own_first
own_by (push {xs = ls} d p) h i = let q = none_last ls d h in
    let c = order_last 1 (map line_of ls) d.line (subst (InOrder 1) (map-append line_of ls (d ∷ [])) i) in
    own_line ls d q.1 (c.1 ∙ ap (λ (k : ℕ). 1 + k) (length-map ls line_of) ∙ omega arith) (own_by p q.0 c.0)

-- Each line has its own number.
pub own_numbers : (mode : Mode) (text : List ℕ) → HaveNoLineDirective (read_as mode text) → (ps : List Presumed) (sure : Bool) (n : ℕ) →
    Presumes (read_as mode text) ps sure n → HaveOwnNumbers ps
own_numbers mode text h ps sure n p =
    grind (arith, own_by, by_push, lines_read_as, numbered_in_order)
