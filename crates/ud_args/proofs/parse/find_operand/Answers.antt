use Rattle.std.proofs.Common.{◌≡◌, ◌∙◌, ◌++◌, ◌∷◌, [], List, None, append_assoc, ap, sym, refl, is_some, map, string_bytes}
use Rattle.std.proofs.lemmas.Result.{err_from_is_err_and}
use Rattle.ud_model.specs.answer.CommandLine.{ParsedArg, parsed_args, operand_in}
use Rattle.ud_args.specs.CommandLines.{Parsed, as_arg}
use Rattle.ud_args.specs.ParsedArgs.{remaining_args, parsed_arg}
use Rattle.ud_args.specs.Plans.{as_operand}
use Rattle.ud_args.proofs.ParsedArgLemmas.{first_fault-append, operand_in-append, operand_in-none}
use Rattle.ud_args.proofs.PlanLemmas.{first_fault-said, is_some-turned}
use Rattle.ud_args.proofs.ProgramLemmas.{parsed_words-unifdef}
use Rattle.ud_args.proofs.parse.find_operand.Goals as goal

pub given-init : goal.given-init
given-init c = ([], sym (parsed_words-unifdef (map string_bytes c.args.args.now)) ∙ ap (map as_arg) (sym c.new-line.ensures), refl, refl)

pub returns-in_err-parse_arg-clause-err : goal.returns-in_err-parse_arg-clause-err
returns-in_err-parse_arg-clause-err c =
    let p = err_from_is_err_and c.from_residual.result c.from_residual.ensures.1 in
    let before = c.given.invariant in
    let scanned : is_some (operand_in before.0) ≡ c.is_some.result =
    ap is_some (sym before.3) ∙ is_some-turned as_operand c.given.operand ∙ sym c.is_some.ensures in
    let all = before.1 ∙ ap (λ (gs : List Parsed). before.0 ++ map as_arg gs) c.in-Some.ensures in
    rw (p.1, p.2, all) (c.in_err-parse_arg.ensures.err before.0 (remaining_args c.in-Some.after) before.2 scanned)

pub given-preserved : goal.given-preserved
given-preserved c = let before = c.given.invariant in
    let g : ParsedArg = parsed_arg c.in-Some.given in
    let scanned : is_some (operand_in before.0) ≡ c.is_some.result =
    ap is_some (sym before.3) ∙ is_some-turned as_operand c.given.operand ∙ sym c.is_some.ensures in
    let none : operand_in before.0 ≡ None = operand_in-none (operand_in before.0) (scanned ∙ c.in_ok-parse_arg.ensures.first) in
    let all : parsed_args (map string_bytes c.args.args.now) ≡ before.0 ++ g ∷ remaining_args c.in-Some.after =
    before.1 ∙ ap (λ (gs : List Parsed). before.0 ++ map as_arg gs) c.in-Some.ensures in (
      before.0 ++ g ∷ [],
      all ∙ sym (append_assoc before.0 (g ∷ []) (remaining_args c.in-Some.after)),
      first_fault-append before.0 (g ∷ []) before.2 none ∙ first_fault-said g c.in_ok-parse_arg.field-0 c.in_ok-parse_arg.ensures.ok,
      c.as_operand-operand.ensures g c.in_ok-parse_arg.ensures.ok ∙ sym (operand_in-append before.0 (g ∷ []) none),
    )
