-- The lines of a text have numbers of their own, so its openers can be given any truths.
use Rattle.std.proofs.Common.{◌≡◌, ℕ, suc, ◌≤◌, ◌<◌, ◌==◌, List, [], ◌∷◌, length, map, Bool, true, if◌then◌else◌, refl, ◌∙◌, ap, ap₂, arith, rules}
use Rattle.std.proofs.lemmas.Bool.{eq-eqb}
use Rattle.ud_model.specs.text.Lines.{Line, line_at, numbered_from, lines_of, texts_of}
use Rattle.ud_model.specs.text.Scans.{Reading}
use Rattle.ud_model.specs.sections.Tree.{Item, Nodes, if_line, elif_line, lines_of_nodes}
use Rattle.ud_model.specs.sections.Items.{reading_of, line_of}
use Rattle.ud_model.specs.laws.Worlds.{World, openers, openers_in}
use Rattle.ud_model.proofs.output.PrunedTree.{openers_lines}

-- The numbers of these lines rise from this one on.
abbrev pub Rise : ℕ → List Reading → Type 0
Rise n [] = Unit {0}
Rise n (r ∷ rs) = (n ≤ r.line.number) × Rise (suc r.line.number) rs

pub rise_from : (m n : ℕ) (rs : List Reading) → m ≤ n → Rise n rs → Rise m rs
rise_from m n [] l h = tt
rise_from m n (r ∷ rs) l h = (omega (arith, l, h.0), h.1)

-- Those of the lines of a text do.
numbered_rise : (n : ℕ) (ts : List (List ℕ)) (ys : List (Item Reading)) → map line_of ys ≡ numbered_from n ts → Rise n (map reading_of ys)
numbered_rise n ts [] e = tt
numbered_rise n [] (y ∷ ys) e = cc
numbered_rise n (t ∷ ts) (y ∷ ys) e = let p : line_of y ≡ line_at n t = cc in
    let q : map line_of ys ≡ numbered_from (suc n) ts = cc in
    let k : (line_of y).number ≡ n = ap (λ (l : Line). l.number) p in
    (omega (arith, k), rise_from (suc (line_of y).number) (suc n) (map reading_of ys) (omega (arith, k)) (numbered_rise (suc n) ts ys q))

-- So do those of the openers among lines whose numbers rise.
openers_rise : (n : ℕ) (ys : List (Item Reading)) → Rise n (map reading_of ys) → Rise n (openers_in ys)
openers_rise n [] h = tt
openers_rise n (if_line o ∷ ys) h = (h.0, openers_rise (suc o.line.line.number) ys h.1)
openers_rise n (elif_line o ∷ ys) h = (h.0, openers_rise (suc o.line.line.number) ys h.1)
openers_rise n (y ∷ ys) h = rise_from n (suc (line_of y).number) (openers_in ys) (omega (arith, h.0)) (openers_rise (suc (line_of y).number) ys h.1)

-- A world that has this truth on the line with this number, and else those of another world.
abbrev with_truth : ℕ → Bool → World Reading → World Reading
with_truth n b v r = if r.line.number == n then b else v r

later_same : (n m : ℕ) (b : Bool) (v : World Reading) (rs : List Reading) → n < m → Rise m rs → map (with_truth n b v) rs ≡ map v rs
later_same n m b v [] l h = refl
later_same n m b v (r ∷ rs) l h = grind (arith, later_same n (suc r.line.number) b v rs (omega (arith, l, h.0)) h.1)

truths_by : (n : ℕ) (rs : List Reading) (bs : List Bool) → length bs ≡ length rs → Rise n rs → (v : World Reading) × (map v rs ≡ bs)
truths_by n [] [] e h = ((λ r. true), refl)
truths_by n (r ∷ rs) (b ∷ bs) e h =
    let v : (v : World Reading) × (map v rs ≡ bs) = truths_by (suc r.line.number) rs bs (omega arith) h.1 in (
      with_truth r.line.number b v.0,
      ap₂ (λ (c : Bool) (cs : List Bool). c ∷ cs) (ap (λ (t : Bool). if t then b else v.0 r) (eq-eqb r.line.number r.line.number refl))
          (later_same r.line.number (suc r.line.number) b v.0 rs (omega arith) h.1 ∙ v.1),
    )
truths_by n rs bs e h = absurd (omega arith)

-- The openers of nodes whose lines have rising numbers can be given any truths.
pub world_by : (n : ℕ) (ns : Nodes Reading) (bs : List Bool) → Rise n (map reading_of (lines_of_nodes ns)) → length bs ≡ length (openers ns) →
    (v : World Reading) × (map v (openers ns) ≡ bs)
world_by n ns bs h l = search (rules, truths_by, openers_lines, openers_rise)

-- The lines of a text have rising numbers.
pub text_rise : (bytes : List ℕ) (ns : Nodes Reading) → map line_of (lines_of_nodes ns) ≡ lines_of bytes → Rise 1 (map reading_of (lines_of_nodes ns))
text_rise bytes ns e = numbered_rise 1 (texts_of bytes) (lines_of_nodes ns) e

-- The openers of a text can be given any truths.
pub world_of : (bytes : List ℕ) (ns : Nodes Reading) (bs : List Bool) → map line_of (lines_of_nodes ns) ≡ lines_of bytes → length bs ≡ length (openers ns) →
    (v : World Reading) × (map v (openers ns) ≡ bs)
world_of bytes ns bs e l = world_by 1 ns bs (text_rise bytes ns e) l
