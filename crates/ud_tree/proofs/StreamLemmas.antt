-- Bytes that are read one after another, up to the end.
use Rattle.std.proofs.Common.{◌≡◌, ℕ, ◌<◌, List, ◌++◌, length, take, false, Option, Some, sym, subst, arith}
use Rattle.std.specs.Io.KnownBytes.{Consumes}
use Rattle.std.proofs.KnownBytes.{Consumes-trans}
use Rattle.ud_io.specs.Watched.{ReadsOnce}
use Rattle.ud_tree.specs.Streams.{Source, ReadsWhole}

-- Some more bytes were read, and appended to the text.
pub reads_more : (a b c : Option (List ℕ)) (count : ℕ) (buf text : List ℕ) {more : List ℕ} → more ≡ text ++ take count buf → Consumes a b text → Consumes b c (take count buf) → Consumes a c more
reads_more a b c count buf text is h k = subst (λ (t : List ℕ). Consumes a c t) (sym is) (Consumes-trans a b c text (take count buf) h k)

-- No more bytes were read, so the text is whole.
pub reads_end : {a b : Source} (mid : Option (List ℕ)) (count : ℕ) (buf text : List ℕ) → count ≡ 0 → 0 < length buf → Consumes a.remaining mid text → ReadsOnce mid b.remaining (Some count) buf →
    b.failed ≡ false → ReadsWhole a b text
reads_end mid count buf text none some h once works = grind arith
