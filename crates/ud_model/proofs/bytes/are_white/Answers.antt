-- All bytes are white space if none is left after the leading white space.
use Rattle.std.proofs.Common.{◌≡◌, ◌==◌, ℕ, List, [], ◌∷◌, length, refl, ap, ◌∙◌, arith}
use Rattle.ud_model.specs.text.Bytes.{are_white, skip_white}
use Rattle.ud_model.proofs.bytes.are_white.Goals as goal

white_past : (bs : List ℕ) → (length (skip_white bs) == 0) ≡ are_white bs
white_past [] = refl
white_past (b ∷ bs) = grind (arith, white_past bs)

pub returns : goal.returns
returns c = c.is_empty.ensures ∙ (ap (λ (l : List ℕ). length l == 0) c.skip_white.ensures ∙ white_past c.args.bytes.now)
