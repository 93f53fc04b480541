use Rattle.std.proofs.Common.{◌≡◌, ◌++◌, List, None, length, map, string_bytes, option_map}
use Rattle.ud_model.specs.answer.CommandLine.{ParsedArg, parsed_args, first_fault, operand_in}
use Rattle.ud_args.specs.ParsedArgs.{remaining_args}
use Rattle.ud_args.specs.Plans.{as_operand}
use Rattle.ud_args.proofs.parse.find_operand.Given as goal

abbrev pub invariant-given : goal.invariant-given
invariant-given l =
    (done : List ParsedArg) × (parsed_args (map string_bytes l.args) ≡ done ++ remaining_args l.line) × (first_fault done ≡ None) × (option_map as_operand l.operand ≡ operand_in done)

abbrev pub decreases-given : goal.decreases-given
decreases-given l = length (remaining_args l.line)
