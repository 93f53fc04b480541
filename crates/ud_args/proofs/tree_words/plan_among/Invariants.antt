use Rattle.std.proofs.Common.{◌≡◌, ◌++◌, List, drop}
use Rattle.ud_model.specs.answer.CommandLine.{ParsedArg}
use Rattle.ud_args.specs.ParsedArgs.{parsed}
use Rattle.ud_args.specs.Plans.{PlanRepresents}
use Rattle.ud_args.specs.TreeWords.{unifdef_args}
use Rattle.ud_args.proofs.tree_words.plan_among.Given as goal

abbrev pub invariant-loop-item : goal.invariant-loop-item
invariant-loop-item l = (done : List ParsedArg) × (unifdef_args (parsed l.given) ≡ done ++ unifdef_args (parsed (drop l.item-index l.given))) × PlanRepresents l.draft done
