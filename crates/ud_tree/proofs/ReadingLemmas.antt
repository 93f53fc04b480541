-- ReadingLemmas: the bytes after a read into the end of a buffer.
use Rattle.std.proofs.Common.{◌≡◌, ℕ, ◌+◌, ◌≤◌, List, ◌++◌, length, take, arith}
use Rattle.std.proofs.lemmas.List.{take-append-le}
use Rattle.std.proofs.Math.Seq.{take-append-add}
use Rattle.std.proofs.lemmas.Grind.{common_steps}

-- The first bytes of `text` with what was read after it.
pub block_read : (text whole buf more rest : List ℕ) (before count end size : ℕ) {new : List ℕ} → take before whole ≡ text → before ≡ length text → count ≤ length buf → end ≡ before + count → end ≤ size →
    new ≡ take end (take size ((take before whole ++ (buf ++ more)) ++ rest)) → new ≡ text ++ take count buf
block_read text whole buf more rest before count end size front at within is fits made =
    grind (arith, common_steps, take-append-le, take-append-add)
