use Rattle.std.proofs.Common.{◌∙◌, ◌∷◌}
use Rattle.ud_model.specs.answer.CommandLine.{operand_in}
use Rattle.ud_args.specs.ParsedArgs.{parsed_arg}
use Rattle.ud_args.proofs.ParsedArgLemmas.{first_fault-append, first_fault-after_operand, operand_in-none}
use Rattle.ud_args.proofs.options.parse_arg.Goals as goal

pub returns-then-after_operand-clause-err : goal.returns-then-after_operand-clause-err
returns-then-after_operand-clause-err c = λ gs more h k. first_fault-after_operand gs more (parsed_arg c.args.given) h (k ∙ c.if-after_operand.true)

pub returns-clause-err : goal.returns-clause-err
returns-clause-err c = λ gs more h k.
    rw (first_fault-append gs (parsed_arg c.args.given ∷ more) h (operand_in-none (operand_in gs) (k ∙ c.if-after_operand.false))) (c.parse_setting.ensures.err more)
