-- The spaces of the other bytes are still to be appended.
use Rattle.std.proofs.Common.{◌≡◌, ◌++◌, drop, map}
use Rattle.ud_model.specs.text.Lexemes.{block_comment, shown, cells_in}
use Rattle.ud_passes.proofs.pruning.comments.append_spaces.Given as goal

abbrev pub invariant-loop-byte : goal.invariant-loop-byte
invariant-loop-byte l = l.shown.items ++ map shown (cells_in block_comment (drop l._byte-index l.bytes)) ≡ l.fn.shown.items ++ map shown (cells_in block_comment l.bytes)
