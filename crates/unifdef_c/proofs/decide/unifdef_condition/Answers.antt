use Rattle.std.proofs.Common.{sym, subst, arith}
use Rattle.unifdef_c.specs.Decisions.{IsDecision, decided, refused, too_long}
use Rattle.ud_model.specs.declared.cond.Cond.TheVariants.{Yes, No, Unknown}
use Rattle.unifdef_c.proofs.FaultLemmas.{same_code}
use Rattle.unifdef_c.proofs.decide.unifdef_condition.Goals as goal

pub returns-then-expression-gt-MAX_LINE_BYTES : goal.returns-then-expression-gt-MAX_LINE_BYTES
returns-then-expression-gt-MAX_LINE_BYTES c = too_long (omega arith)

pub returns-in-Ok-No : goal.returns-in-Ok-No
returns-in-Ok-No c = decided No c.in-Ok-No.ensures.utf8 (omega arith) (rw c.in-Ok-No.field-0-is at c.in-Ok-No.ensures.ok)

pub returns-in-Ok-Yes : goal.returns-in-Ok-Yes
returns-in-Ok-Yes c = decided Yes c.in-Ok-Yes.ensures.utf8 (omega arith) (rw c.in-Ok-Yes.field-0-is at c.in-Ok-Yes.ensures.ok)

pub returns-in-Ok-Unknown : goal.returns-in-Ok-Unknown
returns-in-Ok-Unknown c = decided Unknown c.in-Ok-Unknown.ensures.utf8 (omega arith) (rw c.in-Ok-Unknown.field-0-is at c.in-Ok-Unknown.ensures.ok)

pub returns-in-Err : goal.returns-in-Err
returns-in-Err c = subst (λ n. IsDecision c.args.words.now c.args.expression.now n)
    (sym (same_code c.in-Err.fault c.code.result c.code.ensures)) (refused c.in-Err.fault c.in-Err.ensures.err (omega arith))
