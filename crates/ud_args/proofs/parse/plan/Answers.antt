use Rattle.std.proofs.Common.{◌≡◌, ◌∙◌, ◌++◌, ◌∷◌, [], List, ap, sym, append_assoc, map, string_bytes}
use Rattle.std.proofs.lemmas.Result.{err_from_is_err_and}
use Rattle.ud_model.specs.answer.CommandLine.{ParsedArg, parsed_args}
use Rattle.ud_args.specs.CommandLines.{Parsed, as_arg}
use Rattle.ud_args.specs.ParsedArgs.{remaining_args, parsed_arg}
use Rattle.ud_args.proofs.ProgramLemmas.{parsed_words-unifdef}
use Rattle.ud_args.proofs.parse.plan.Goals as goal

pub given-init : goal.given-init
given-init c = ([], sym (parsed_words-unifdef (map string_bytes c.args.args.now)) ∙ ap (map as_arg) (sym c.new-line.ensures), c.new-draft.ensures)

pub given-preserved : goal.given-preserved
given-preserved c = let before = c.given.invariant in
    let g : ParsedArg = parsed_arg c.in-Some.given in
    let all : parsed_args (map string_bytes c.args.args.now) ≡ before.0 ++ g ∷ remaining_args c.in-Some.after =
    before.1 ∙ ap (λ (gs : List Parsed). before.0 ++ map as_arg gs) c.in-Some.ensures in
    (before.0 ++ g ∷ [], all ∙ sym (append_assoc before.0 (g ∷ []) (remaining_args c.in-Some.after)), c.in_ok-apply.ensures.ok before.0 before.2)

pub returns-in_err-apply-clause-err : goal.returns-in_err-apply-clause-err
returns-in_err-apply-clause-err c =
    let p = err_from_is_err_and c.from_residual.result c.from_residual.ensures.1 in
    let before = c.given.invariant in
    let all = before.1 ∙ ap (λ (gs : List Parsed). before.0 ++ map as_arg gs) c.in-Some.ensures in
    rw (p.1, p.2, all) (c.in_err-apply.ensures.err before.0 before.2 (remaining_args c.in-Some.after))
