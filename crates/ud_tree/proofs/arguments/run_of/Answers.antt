-- Field by field.
use Rattle.std.proofs.Common.{rules, arith, List, false, ap}
use Rattle.std.proofs.lemmas.Grind.{common_steps}
use Rattle.ud_model.specs.declared.settings.Settings.{Settings}
use Rattle.ud_model.specs.answer.CommandLine.{ParsedArg}
use Rattle.ud_args.specs.Plans.{PlanState, PlanRepresents, with_unpadded}
use Rattle.ud_tree.proofs.arguments.run_of.Goals as goal
use Rattle.ud_tree.proofs.arguments.run_of.Goals.{else-from_input-via-then-from_input+else-not-is_empty, else-from_input-via-else-from_input}
use Rattle.ud_tree.proofs.arguments.run_of.Goals.{else-not-from_input-via-then-not-from_input+else-is_empty, else-not-from_input-via-else-not-from_input}

-- The plan of a command line has spaces for lost bytes.
padded : (plan : PlanState) (gs : List ParsedArg) → PlanRepresents plan gs → PlanRepresents (with_unpadded false plan) gs
padded plan gs p = record {
  right = p.right;
  said = ap (λ (s : Settings). record s { unpadded = false }) p.said;
  represents = p.represents;
  index = p.index;
}

pub returns-clause-run : goal.returns-clause-run
returns-clause-run c = record {
  fitting = search rules;
  relations = search rules;
  plan = search (rules, padded);
  prunes = search rules;
  unpadded = search rules;
  squeezes = search rules;
  marks = search rules;
  patterns = search rules;
  right_patterns = search rules;
  paths = search rules;
  task = search rules;
  write_into = search rules;
  from_input = search rules;
  quiet = search rules;
  list_remaining = search rules;
  list_hidden = search rules;
  show_changes = search rules;
  has_symbols = search rules;
  symbols = search rules;
  asks = search rules;
  no_path = λ zero. elim c.else-from_input.branch [
    | else-from_input-via-then-from_input+else-not-is_empty w ↦ grind (arith, common_steps)
    | else-from_input-via-else-from_input w ↦ search rules
  ];
  some_path = λ zero none. elim c.else-not-from_input.branch [
    | else-not-from_input-via-then-not-from_input+else-is_empty w ↦ grind (arith, common_steps)
    | else-not-from_input-via-else-not-from_input w ↦ search rules
  ];
}
