-- Blocks: 64 bytes that are examined at once, with a bit for each significant one.
--
-- Example: the bits of `a/b#` are 0b1010.
use Rattle.std.specs.Prelude.{◌≡◌, ◌≤◌, ◌+◌, ℕ, List, length, take, drop, map}
use lib.Lanes.{mask_l}
use Rattle.ud_text.specs.bulk.BulkLexemes.{is_significant}
use Rattle.ud_text.specs.declared.bulk.blocks.Block.{Block}

-- `significant_bits bytes`: the bit mask of the significant bytes, the lowest bit for the first
-- byte.
abbrev pub significant_bits : List ℕ → ℕ
significant_bits bytes = mask_l (map is_significant bytes)

-- `IsBlock block bytes`: the block begins in `bytes`, and has the bits of its 64 bytes. If a bit is
-- set, the block is full.
pub record IsBlock (block : Block) (bytes : List ℕ) : Type 0 where
  pub within : block.begin ≤ length bytes
  pub whole : (block.bits ≡ 0 → ⊥) → block.begin + 64 ≤ length bytes
  pub bits_are : block.bits ≡ significant_bits (take 64 (drop block.begin bytes))
