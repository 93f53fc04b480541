-- Sampling: what is read of a file to search it.
--
--   is_text bytes   the bytes are text
--   ReadsOn old new before after   more bytes were read
--   IsWhole new size text   the text is all of its file, and may be searched
--   SampleIs new size text sample   what a sample says is true of the text
--   ReadsSample old new size text sample   so much was read of a file
--   IsSampled L rest path text sample   a file was opened, and read so far
--
-- `old` and `new` are what a reader still has, before and after; `None` if it doesn't report that.
use Rattle.std.specs.Prelude.{◌≡◌, ◌⊎◌, ℕ, ◌+◌, ◌<◌, ◌≤◌, List, ◌++◌, length, take, Option}
use Rattle.std.specs.Prelude.{Bool, true, false, not, nat_eq}
use Rattle.std.specs.List.{list_any}
use Rattle.std.specs.Io.KnownBytes.{Consumes, IsAtEnd}
use Rattle.ud_replace.specs.declared.node.NodeKind.TheVariants.{File}
use Rattle.ud_replace.specs.declared.node.Sample.{Sample}
use Rattle.ud_replace.specs.declared.node.Sample.TheVariants.{Whole, Binary, Utf16, TooLarge}
use Rattle.ud_replace.specs.declared.node.Sample.TheVariants.{Unread}
use Rattle.ud_tree.specs.declared.disk.facts.Facts.{Facts}
use Rattle.ud_tree.specs.declared.disk.sampling.TheConstants.{PROBE_BYTES, SEARCH_BYTES}
use Rattle.ud_tree.specs.Evidence.{Looking}
use Rattle.ud_tree.specs.Opening.{Shows}
use Rattle.ud_tree.specs.Reading.{is_utf16}

-- `is_text bytes`: none of the first bytes is 0.
abbrev pub is_text : List ℕ → Bool
is_text bytes = not (list_any (λ byte. nat_eq byte 0) (take PROBE_BYTES bytes))

-- `ReadsOn old new before after`: bytes were read after those in `before`.
pub record ReadsOn (old new : Option (List ℕ)) (before after : List ℕ) : Type 0 where
  pub bytes : List ℕ
  pub appended : after ≡ before ++ bytes
  pub consumed : Consumes old new bytes

-- `IsWhole new size text`: `text` is text, not in UTF-16, and of at most `SEARCH_BYTES`. It was
-- read to the end of its file, or to the size that this was to have.
pub record IsWhole (new : Option (List ℕ)) (size : ℕ) (text : List ℕ) : Type 0 where
  pub no_mark : is_utf16 text ≡ false
  pub texts : is_text text ≡ true
  pub small : length text ≤ SEARCH_BYTES
  pub ended : IsAtEnd new ⊎ (length text ≡ size)

-- `SampleIs new size text sample`: `sample` says what `text` is of a file that was to have `size`
-- bytes: all of it, or the first bytes of one that isn't text, or of one in UTF-16. Or the file is
-- text, and has more than `SEARCH_BYTES`.
abbrev pub SampleIs : Option (List ℕ) → ℕ → List ℕ → Sample → Type 0
SampleIs new size text Whole = IsWhole new size text
SampleIs new size text Binary =
    (is_utf16 text ≡ false) × (is_text text ≡ false) × (length text ≤ PROBE_BYTES)
SampleIs new size text Utf16 = (is_utf16 text ≡ true) × (length text ≤ PROBE_BYTES)
SampleIs new size text TooLarge =
    (is_utf16 text ≡ false) × (is_text text ≡ true) ×
    ((SEARCH_BYTES < size) ⊎ (SEARCH_BYTES < length text))
SampleIs new size text Unread = ⊥

-- `ReadsSample old new size text sample`: `text` was read from the beginning of a file, at most
-- `SEARCH_BYTES` and one byte more, and `sample` says what it is.
pub record ReadsSample (old new : Option (List ℕ)) (size : ℕ) (text : List ℕ) (sample : Sample) :
    Type 0 where
  pub consumed : Consumes old new text
  pub bounded : length text ≤ SEARCH_BYTES + 1
  pub is_of : SampleIs new size text sample

-- `IsSampled L rest path text sample`: a regular file was found at `path`, this file was opened
-- there, and `text` was read of it.
pub record IsSampled {F N : Type 0} (L : Looking F N) (rest : F → Option (List ℕ))
    (path text : List ℕ) (sample : Sample) : Type 0 where
  pub file : F
  pub after : F
  pub found : Facts
  pub opens : L.opened file path found
  pub shown : Shows L.shows found file
  pub regular : found.node.kind ≡ File
  pub reads : ReadsSample (rest file) (rest after) found.stat.version.size text sample
