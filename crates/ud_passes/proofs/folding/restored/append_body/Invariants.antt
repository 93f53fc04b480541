-- The rest of the body is still to be appended.
use Rattle.std.proofs.Common.{◌≡◌, ◌++◌, drop}
use Rattle.ud_simplified.specs.FoldedTexts.{restored_body}
use Rattle.ud_passes.proofs.folding.restored.append_body.Given as goal

abbrev pub invariant-loop-i : goal.invariant-loop-i
invariant-loop-i l = l.out.items ++ restored_body l.ending (drop l.i l.body) (drop l.i l.masked) ≡ l.fn.out.items ++ restored_body l.ending l.body l.masked
