use Rattle.std.proofs.Common.{◌≡◌, ◌∙◌, ◌++◌, ◌∷◌, is_some, None, IsSome, arith}
use Rattle.std.proofs.lemmas.Result.{IfErr-weaker}
use Rattle.ud_model.specs.answer.CommandLine.{operand_in, argument_in}
use Rattle.ud_args.specs.ParsedArgs.{parsed_arg}
use Rattle.ud_args.specs.ParsedSettings.{IsUsageOf}
use Rattle.ud_args.specs.declared.usage.Usage.TheVariants.{OutOfMemory}
use Rattle.ud_args.proofs.ParsedArgLemmas.{operand_in-none, first_fault-append}
use Rattle.ud_args.proofs.PlanLemmas.{first_fault-said}
use Rattle.ud_args.proofs.plans.PlanDraft.apply.Goals as goal

pub returns-in_err-setting-clause-err : goal.returns-in_err-setting-clause-err
returns-in_err-setting-clause-err c = λ gs p more.
    let scanned : is_some (operand_in gs) ≡ c.is_some.result = grind arith in
    grind (arith, c.in_err-setting.ensures.err gs more p.right scanned)

pub returns-clause-err : goal.returns-clause-err
returns-clause-err c = λ gs p more.
    let scanned : is_some (operand_in gs) ≡ c.is_some.result = grind arith in
    let none : operand_in gs ≡ None = operand_in-none (operand_in gs) (scanned ∙ c.in_ok-setting.ensures.first) in
    IfErr-weaker c.set.result (λ u. (u ≡ OutOfMemory) × IsSome (argument_in (parsed_arg c.args.given))) (IsUsageOf (gs ++ parsed_arg c.args.given ∷ more))
    (λ u h. (grind (arith, first_fault-append, first_fault-said, p.right, none, c.in_ok-setting.ensures.ok, h)))
    (c.set.ensures.err (parsed_arg c.args.given) c.in_ok-setting.ensures.ok)
