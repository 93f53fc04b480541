-- Single calls: which files they leave as they are.
use Rattle.std.proofs.Common.{◌≡◌, ℕ, List, true, false, refl, arith}
use Rattle.std.specs.Prelude.{bytes_eq}
use Rattle.std.proofs.lemmas.Slice.Eq.{bytes_eq-Decides}
use Rattle.ud_replace.specs.Calls.{Call}
use Rattle.ud_replace.specs.Moments.{Files, after, touches}

pub same_name : (n : List ℕ) → bytes_eq n n ≡ true
same_name n = (bytes_eq-Decides n n).1 refl

pub name_of_test : (n m : List ℕ) → bytes_eq n m ≡ true → n ≡ m
name_of_test n m = (bytes_eq-Decides n m).0

-- a call leaves a file as it is that it doesn't touch
pub untouched : (c : Call) (f : Files) (n : List ℕ) → touches c n ≡ false → after c f n ≡ f n
untouched c f n h = grind arith
