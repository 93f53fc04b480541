use Rattle.std.proofs.Common.{◌≡◌, ◌∙◌, ap, ℕ, ◌-◌, List, ◌++◌, length, drop, replicate, slice_index, arith}
use Rattle.std.proofs.lemmas.List.{places}
use Rattle.ud_cond.specs.symbols.Keys.{key_in, key_of}
use Rattle.ud_cond.specs.declared.symbols.keys.TheConstants.{KEY_BYTES}
use Rattle.ud_cond.proofs.symbols.keys.key_of.Goals as goal

-- zeros after the bytes of a name
padded : (n : List ℕ) (k i : ℕ) → slice_index (n ++ drop k (replicate KEY_BYTES 0)) i ≡ slice_index n i
padded n k i = grind (arith, places)

pub returns-in-Some : goal.returns-in-Some
unfolding key_of
returns-in-Some c = c.from_be_bytes.ensures ∙ ap key_in c.in-Some.ensures.cases.1

pub returns : goal.returns
unfolding key_of
returns c = let none : length c.args.name.now - KEY_BYTES ≡ 0 = omega (arith, c.in_default.ensures.cases) in
    c.from_be_bytes-2.ensures ∙ simp (c.copy_from_slice.ensures.after, padded, none)
