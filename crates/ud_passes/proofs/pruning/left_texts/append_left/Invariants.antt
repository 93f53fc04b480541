-- The rest of the tokens so far was appended.
use Rattle.std.proofs.Common.{◌≤◌, ◌+◌, List, length, drop}
use Rattle.ud_model.specs.text.Lexemes.{Cell}
use Rattle.ud_simplified.specs.ResidualTexts.{left_cells}
use Rattle.ud_passes.specs.pruning.Cells.{AreCells, LeavesAt}
use Rattle.ud_passes.proofs.pruning.left_texts.append_left.Given as goal

abbrev pub invariant-loop-flag : goal.invariant-loop-flag
invariant-loop-flag l = record {
  fewer_bytes : length l.left.bytes.items + length l.place.text.bytes.now ≤ length l.fn.left.bytes.items + length l.fn.text.bytes.now;
  fewer_shown : length l.left.shown.items + length l.place.text.shown.now ≤ length l.fn.left.shown.items + length l.fn.text.shown.now;
  left : (cells : List Cell) → AreCells cells l.fn.text.bytes.now l.fn.text.shown.now →
      LeavesAt l.fn.left (left_cells l.flags cells) l.left l.place (drop l.flag-index l.flags);
}
