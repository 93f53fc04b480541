-- Output of a line that is dropped but for its ending, or wholly.
use Rattle.std.proofs.Common.{◌≡◌, inl, inr, ℕ, ◌+◌, ◌==◌, List, [], ◌∷◌, ◌++◌, length, bytes_eq, ap, length-append, arith}
use Rattle.std.proofs.lemmas.Bool.Decides.{same_from_decides, Decides-eqb, Decides-like}
use Rattle.std.proofs.lemmas.Slice.Eq.{bytes_eq-Decides}
use Rattle.ud_engine.specs.ProcessedLines.{IsLeftOf}

-- If the output, nothing or the ending, is as long as the line, the output is the line.
all_left : (left body ending : List ℕ) → IsLeftOf left ending → length left ≡ length body + length ending → left ≡ body ++ ending
all_left left [] [] (inl e) h = e
all_left left [] (b ∷ bs) (inl e) h = absurd (let z = ap length e in omega (arith, z, h))
all_left left (b ∷ bs) ending (inl e) h = absurd (let z = ap length e in omega (arith, z, h))
all_left left [] ending (inr e) h = e
all_left left (b ∷ bs) ending (inr e) h = absurd (let z = ap length e in omega (arith, z, h))

-- The output is as long as the line exactly if it is the line.
pub left_is_line : (left body ending : List ℕ) → IsLeftOf left ending → (length left == (length body + length ending)) ≡ bytes_eq left (body ++ ending)
left_is_line left body ending h = grind (arith, same_from_decides, bytes_eq, Decides-like, all_left, length-append, Decides-eqb, bytes_eq-Decides)
