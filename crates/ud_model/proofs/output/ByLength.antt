-- A property of each of three things is one of the thing that is chosen by a keyword's length.
use Rattle.std.proofs.Common.{ℕ, List, Bool, true, false, codes, arith}
use Rattle.ud_model.specs.answer.Printing.{by_length, opener_keyword}

module _ {A : Type 0} (P : A → Type 0) {a b c : A} (x : P a) (y : P b) (z : P c) where
  -- The chosen thing has the property.
  pub each_length : (n : ℕ) → P (by_length n a b c)
  each_length n = grind arith

-- A property of each keyword that replaces another one.
pub each_opener : (P : List ℕ → Type 0) → P (codes "ifdef") → P (codes "ifndef") → P (codes "if") → P (codes "ifdef  ") → P (codes "ifndef  ") → P (codes "if  ") →
    (u : Bool) (n : ℕ) → P (opener_keyword u n)
each_opener P a b c d e f true n = each_length P a b c n
each_opener P a b c d e f false n = each_length P d e f n
