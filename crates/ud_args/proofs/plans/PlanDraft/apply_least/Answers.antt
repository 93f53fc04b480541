-- By whether an operand came before.
use Rattle.std.proofs.Common.{◌≡◌, ◌++◌, ◌∷◌, is_some, false, true, arith}
use Rattle.std.proofs.lemmas.Result.{IfErr-weaker, err_from_is_err_and}
use Rattle.ud_model.specs.answer.CommandLine.{operand_in}
use Rattle.ud_args.specs.ParsedSettings.{IsUsageOf}
use Rattle.ud_args.specs.LeastSymbols.{least_argument}
use Rattle.ud_args.specs.declared.usage.Usage.TheVariants.{OutOfMemory}
use Rattle.ud_args.proofs.LeastLemmas.{stores}
use Rattle.ud_args.proofs.ParsedArgLemmas.{first_fault-after_operand}
use Rattle.ud_args.proofs.plans.PlanDraft.apply_least.Goals as goal

pub returns-then-is_some-clause-err : goal.returns-then-is_some-clause-err
returns-then-is_some-clause-err c = λ g s gs p more.
    let scanned : is_some (operand_in gs) ≡ true = grind arith in
    first_fault-after_operand gs more g p.right scanned

pub returns-in_err-value-clause-err : goal.returns-in_err-value-clause-err
returns-in_err-value-clause-err c = λ g s gs p more.
    let scanned : is_some (operand_in gs) ≡ false = grind arith in
    let e = err_from_is_err_and c.from_residual.result c.from_residual.ensures.1 in
    rw (e.1, e.2) (stores gs g (least_argument c.args.least) more p.right scanned s)

pub returns-clause-err : goal.returns-clause-err
returns-clause-err c = λ g s gs p more.
    let scanned : is_some (operand_in gs) ≡ false = grind arith in
    let puts = stores gs g (least_argument c.args.least) more p.right scanned s in
    IfErr-weaker c.set_symbol.result (λ u. u ≡ OutOfMemory) (IsUsageOf (gs ++ g ∷ more))
    (λ u h. rw h puts) c.set_symbol.ensures.err
