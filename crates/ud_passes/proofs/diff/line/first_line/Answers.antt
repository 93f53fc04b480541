-- By a search of the first newline.
use Rattle.std.proofs.Common.{◌≡◌, ◌≢◌, ℕ, List, [], ◌∷◌, length, take, drop, false, nat_eq, sym, ◌∙◌, ap, ap₂, arith}
use Rattle.ud_model.specs.text.Lines.{texts_of}
use Rattle.ud_passes.proofs.LineLemmas.{texts_of-found, texts_of-open}
use Rattle.ud_passes.proofs.diff.line.first_line.Goals as goal
use Rattle.ud_passes.proofs.diff.line.first_line.Goals.{in-Some, in-None}

some_bytes : (s : List ℕ) → nat_eq (length s) 0 ≡ false → s ≢ []
some_bytes [] h e = cc
some_bytes (b ∷ bs) h e = cc

split_there : (s line rest : List ℕ) (n m : ℕ) → texts_of s ≡ take n s ∷ texts_of (drop n s) → m ≡ n → line ≡ take m s → rest ≡ drop m s →
    texts_of s ≡ line ∷ texts_of rest
split_there s line rest n m h e p q =
    h ∙ ap₂ (λ (a b : List ℕ). a ∷ texts_of b) (ap (λ (k : ℕ). take k s) (sym e) ∙ sym p) (ap (λ (k : ℕ). drop k s) (sym e) ∙ sym q)

pub returns-clause-lines : goal.returns-clause-lines
returns-clause-lines c =
    grind (arith, in-Some, split_there, texts_of-found, in-None, texts_of-open, some_bytes)
