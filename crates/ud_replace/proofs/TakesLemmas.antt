-- Bytes that a file takes part by part.
use Rattle.std.proofs.lemmas.Bool.Decides.{Decides-eqb}
use Rattle.std.proofs.lemmas.Grind.{common_steps}
use Rattle.std.proofs.lemmas.List.{nil_from_length}
use Rattle.std.proofs.Common.{◌≡◌, ◌==◌, true, ℕ, ◌≤◌, ◌-◌, List, [], ◌∷◌, ◌++◌, length, take, drop, Some, refl, sym, ap, ◌∙◌, subst, append_assoc, take-append-drop, arith}
use Rattle.ud_replace.specs.Calls.{Call, appended}
use Rattle.ud_replace.specs.Filling.{FileTakes, nothing, part}

-- since `old`, the file took all of `bytes` but `rest`
pub record TakesAllBut (name : List ℕ) (old : List Call) (bytes rest : List ℕ) (new : List Call) : Type 0 where
  pub taken : List ℕ
  pub joined : bytes ≡ taken ++ rest
  pub took : FileTakes name old taken new

-- at first, nothing is taken
pub takes_none : (name : List ℕ) (old : List Call) (bytes : List ℕ) → TakesAllBut name old bytes bytes old
takes_none name old bytes = record { taken = []; joined = refl; took = nothing }

-- the first `n` bytes of the rest are taken
pub takes_more : (name : List ℕ) (old calls new : List Call) (bytes rest : List ℕ) (n : ℕ) → TakesAllBut name old bytes rest calls → n ≤ length rest →
    new ≡ appended name rest (Some n) ∷ calls → TakesAllBut name old bytes (take (length rest - n) (drop n rest)) new
takes_more name old calls new bytes rest n t fits is = record {
  taken = t.taken ++ take n rest;
  joined =
      t.joined ∙ ap (λ x. t.taken ++ x) (sym (take-append-drop n rest)) ∙ sym (append_assoc t.taken (take n rest) (drop n rest))
      ∙ ap (λ x. (t.taken ++ take n rest) ++ x) (sym to_end);
  took = subst (λ (l : List Call). FileTakes name old (t.taken ++ take n rest) l) (sym is) (part rest n t.took fits);
}
  where
    to_end : take (length rest - n) (drop n rest) ≡ drop n rest
    to_end = grind (arith, common_steps)

-- a slice of length 0 is empty
pub empty_of : (rest : List ℕ) → true ≡ (length rest == 0) → rest ≡ []
empty_of rest e = nil_from_length rest ((Decides-eqb (length rest) 0).0 (sym e))
