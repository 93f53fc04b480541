-- The rest of the bytes decides.
use Rattle.std.proofs.Common.{◌≡◌, drop, true}
use Rattle.ud_simplified.specs.FoldedTexts.{tabs_are_beside}
use Rattle.ud_passes.proofs.ShownLemmas.{left}
use Rattle.ud_passes.proofs.folding.shown.tabs_are_beside.Given as goal

abbrev pub invariant-loop-byte : goal.invariant-loop-byte
invariant-loop-byte l = left l.owes l.blank (drop l.byte-index l.shown) ≡ tabs_are_beside true l.shown
