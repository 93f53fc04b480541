-- Sizes: the pieces of a text are as long as their lines, each by itself, or shorter than them
-- together.
use Rattle.std.proofs.Common.{◌≡◌, ℕ, suc, ◌≤◌, ◌<◌, List, [], ◌∷◌, ◌++◌, length, map, Bool, true, false, not, ◌&&◌, ◌||◌, bytes_eq, refl, ap₂, arith, append-nil, length-append}
use Rattle.std.specs.List.{concat}
use Rattle.std.proofs.lemmas.List.{map-append}
use Rattle.std.proofs.lemmas.List.Folds.{concat-append}
use Rattle.std.proofs.lemmas.Slice.Eq.{bytes_eq-Decides}
use Rattle.ud_model.specs.text.Lines.{text_of}
use Rattle.ud_model.specs.answer.Printing.{Judged, some_other}

-- The output for lines, each by itself.
abbrev pub out : (Judged → List ℕ) → List Judged → List ℕ
out f js = concat (map f js)

-- The lines themselves.
abbrev pub whole : Judged → List ℕ
whole j = text_of j.line

-- Each line is printed at its own length.
abbrev pub KeepsSizes : (Judged → List ℕ) → List Judged → Type 0
KeepsSizes f [] = Unit {0}
KeepsSizes f (j ∷ js) = (length (f j) ≡ length (whole j)) × KeepsSizes f js

-- Each line is printed at its own length, or the output is shorter than the lines.
pub data Fits (f : Judged → List ℕ) (js : List Judged) : Type 0 where
  alike : KeepsSizes f js → Fits f js
  less : length (out f js) < length (out whole js) → Fits f js

-- The output has at most one byte more than the lines.
pub record Loose (f : Judged → List ℕ) (js : List Judged) : Type 0 where
  pub bound : length (out f js) ≤ suc (length (out whole js))

same_out : (f : Judged → List ℕ) (js : List Judged) → KeepsSizes f js → length (out f js) ≡ length (out whole js)
same_out f [] k = refl
same_out f (j ∷ js) k = grind (arith, length-append, same_out f js k.1)

sizes-append : (f : Judged → List ℕ) (js ks : List Judged) → KeepsSizes f js → KeepsSizes f ks → KeepsSizes f (js ++ ks)
sizes-append f [] ks a b = b
sizes-append f (j ∷ js) ks a b = (a.0, sizes-append f js ks a.1 b)

-- Lines that fit, and then others.
pub fits-append : (f : Judged → List ℕ) (js ks : List Judged) → Fits f js → Fits f ks → Fits f (js ++ ks)
fits-append f js ks h b = grind (arith, sizes-append, same_out, map-append, concat-append, length-append)

-- Lines fit if one byte more may be printed for the first ones.
pub loose_fits : (f : Judged → List ℕ) (js ks : List Judged) → Loose f js → Fits f ks → Loose f (js ++ ks)
loose_fits f js ks a b = grind (arith, map-append, concat-append, length-append, same_out)

-- Lines fit if one byte more may be printed for the second ones.
pub fits_loose : (f : Judged → List ℕ) (js ks : List Judged) → Fits f js → Loose f ks → Loose f (js ++ ks)
fits_loose f js ks a b = grind (arith, map-append, concat-append, length-append, same_out)

-- A line that doesn't grow fits.
pub fits_one : (f : Judged → List ℕ) (j : Judged) → length (f j) ≤ length (whole j) → Fits f (j ∷ [])
fits_one f j h = grind (arith, append-nil)

-- No lines fit.
pub fits_none : (f : Judged → List ℕ) → Fits f []
fits_none f = alike tt

-- The case in which no line grows.
pub fits_all : (f : Judged → List ℕ) (js : List Judged) → ((j : Judged) → length (f j) ≤ length (whole j)) → Fits f js
fits_all f [] h = fits_none f
fits_all f (j ∷ js) h = fits-append f (j ∷ []) js (fits_one f j (h j)) (fits_all f js h)

or_false_parts : (a b : Bool) → (not a || b) ≡ false → (a ≡ true) × (b ≡ false)
or_false_parts a b e = grind arith

-- If no line differs, the output is the lines.
none_other : (f : Judged → List ℕ) (js : List Judged) → some_other (map f js) js ≡ false → out f js ≡ out whole js
none_other f [] e = refl
none_other f (j ∷ js) e =
    let s = or_false_parts (bytes_eq (f j) (whole j)) (some_other (map f js) js) e in
    ap₂ (λ (a b : List ℕ). a ++ b) ((bytes_eq-Decides (f j) (whole j)).0 s.0) (none_other f js s.1)

-- Texts are compared part by part, if the first parts have one length.
bytes_eq-append : (a b c d : List ℕ) → length a ≡ length b → bytes_eq (a ++ c) (b ++ d) ≡ (bytes_eq a b && bytes_eq c d)
bytes_eq-append (x ∷ a) (y ∷ b) c d e = grind (arith, bytes_eq-append a b c d (omega arith))
bytes_eq-append a b c d h = grind arith

alike_differs : (f : Judged → List ℕ) (js : List Judged) → KeepsSizes f js → some_other (map f js) js ≡ not (bytes_eq (out f js) (out whole js))
alike_differs f [] k = refl
alike_differs f (j ∷ js) k = grind (arith, bytes_eq-append, alike_differs f js k.1)

-- If lines fit, some line differs exactly if the output isn't the lines.
pub fits_differs : (f : Judged → List ℕ) (js : List Judged) → Fits f js → some_other (map f js) js ≡ not (bytes_eq (out f js) (out whole js))
fits_differs f js h = grind (arith, alike_differs, none_other, bytes_eq-Decides)
