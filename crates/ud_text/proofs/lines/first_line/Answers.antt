-- A chunk has one prefix up to its first newline.
use Rattle.std.proofs.Common.{◌<◌, ◌≡◌, true}
use Rattle.ud_model.specs.declared.limits.TheConstants.{MAX_LINE_BYTES}
use Rattle.ud_text.proofs.lemmas.lines.BorrowLemmas.{none_fits}
use Rattle.ud_text.proofs.lines.first_line.Goals as goal
use Rattle.ud_text.proofs.lines.first_line.Goals.{else-taken-via-then-taken+else-taken-le-MAX_LINE_BYTES, else-taken-via-else-taken}

pub returns-else-taken-clause-none : goal.returns-else-taken-clause-none
returns-else-taken-clause-none c = λ used to. none_fits c.args.chunk.now c.up_to_newline-taken.result.used used c.up_to_newline-taken.result.whole c.up_to_newline-taken.ensures long to
  where
    long : c.up_to_newline-taken.result.whole ≡ true → MAX_LINE_BYTES < c.up_to_newline-taken.result.used
    long whole = elim c.else-taken.branch [ else-taken-via-then-taken+else-taken-le-MAX_LINE_BYTES w ↦ w.if-taken-le-MAX_LINE_BYTES.false | else-taken-via-else-taken w ↦ cc ]
