use Rattle.std.proofs.Common.{◌≡◌, ◌++◌, List, length, map, string_bytes}
use Rattle.ud_model.specs.answer.CommandLine.{ParsedArg, parsed_args}
use Rattle.ud_args.specs.ParsedArgs.{remaining_args}
use Rattle.ud_args.specs.Plans.{PlanRepresents}
use Rattle.ud_args.proofs.parse.plan.Given as goal

abbrev pub invariant-given : goal.invariant-given
invariant-given l = (done : List ParsedArg) × (parsed_args (map string_bytes l.args) ≡ done ++ remaining_args l.line) × PlanRepresents l.draft done

abbrev pub decreases-given : goal.decreases-given
decreases-given l = length (remaining_args l.line)
