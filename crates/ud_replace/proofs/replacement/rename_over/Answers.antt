use Rattle.ud_replace.specs.Replacing.{renames, removes, unrenamed, unrenamed_writes, not_made, locked, denied, denied_writes}
use Rattle.ud_replace.proofs.StepLemmas.{fills_from, overwrites_from}
use Rattle.ud_replace.proofs.replacement.rename_over.Goals as goal

pub returns-in-Ok-true : goal.returns-in-Ok-true
returns-in-Ok-true g c = renames (fills_from c.in-Ok.ensures (rw c.in-Ok-true.field-0-test at c.in-Ok-true.ensures))

pub returns-then-target : goal.returns-then-target
returns-then-target g c = unrenamed_writes _ c.remove-gone.result c.if-target.true
    (fills_from c.in-Ok.ensures (rw c.in-Ok-false.field-0-test at c.in-Ok-false.ensures))
    (overwrites_from c.remove-gone.ensures c.overwrite.ensures)

pub returns-else-target : goal.returns-else-target
returns-else-target g c = unrenamed _ c.remove-gone.result c.if-target.false (fills_from c.in-Ok.ensures (rw c.in-Ok-false.field-0-test at c.in-Ok-false.ensures)) c.remove-gone.ensures

pub returns-in-Err : goal.returns-in-Err
returns-in-Err g c = removes c.in-Err.error _ c.remove-gone-in-Err.result (fills_from c.in-Ok.ensures c.in-Err.ensures) c.remove-gone-in-Err.ensures

pub returns-in-Err-Failed : goal.returns-in-Err-Failed
returns-in-Err-Failed g c = not_made (rw c.in-Err-Failed.field-0-is at c.in-Err-Failed.ensures)

pub returns-in-Err-Taken : goal.returns-in-Err-Taken
returns-in-Err-Taken g c = locked (rw c.in-Err-Taken.field-0-is at c.in-Err-Taken.ensures)

pub returns-then-target-2 : goal.returns-then-target-2
returns-then-target-2 g c = denied_writes c.if-target-2.true (overwrites_from (rw c.in-Err-Denied.field-0-is at c.in-Err-Denied.ensures) c.overwrite-then-target-2.ensures)

pub returns-else-target-2 : goal.returns-else-target-2
returns-else-target-2 g c = denied c.if-target-2.false (rw c.in-Err-Denied.field-0-is at c.in-Err-Denied.ensures)
