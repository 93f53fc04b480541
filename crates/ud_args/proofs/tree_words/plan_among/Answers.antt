use Rattle.std.proofs.Common.{◌≡◌, ◌∙◌, ◌++◌, ◌∷◌, ◌+◌, List, ap, sym, append_assoc, drop, get_or, rules}
use Rattle.std.proofs.lemmas.Result.{err_from_is_err_and}
use Rattle.ud_model.specs.answer.CommandLine.{ParsedArg}
use Rattle.ud_args.specs.declared.command_line.ParsedArg.TheVariants.{Flag}
use Rattle.ud_args.specs.ParsedArgs.{as_parsed, parsed}
use Rattle.ud_args.specs.TreeWords.{unifdef_arg, unifdef_args}
use Rattle.ud_args.proofs.TreeLemmas.{unifdef_args-here, unifdef_args-past}
use Rattle.ud_args.proofs.tree_words.plan_among.Goals as goal

pub returns-in_err-apply_in_tree-clause-err : goal.returns-in_err-apply_in_tree-clause-err
returns-in_err-apply_in_tree-clause-err c =
    let p = err_from_is_err_and c.from_residual.result c.from_residual.ensures.1 in
    let before = c.loop-item.invariant in
    let rest : List ParsedArg = unifdef_args (parsed (drop (c.loop-item.item-index + 1) c.args.given.now)) in
    let all : unifdef_args (parsed c.args.given.now) ≡ before.0 ++ unifdef_arg (as_parsed (get_or c.args.given.now c.loop-item.item-index (Flag 0))) ∷ rest =
    before.1 ∙ ap (λ (gs : List ParsedArg). before.0 ++ gs)
    (unifdef_args-here c.args.given.now c.loop-item.item-index (Flag 0) c.loop-item-test.true (sym c.is_unifdef_option.ensures ∙ c.if-is_unifdef_option.true)) in
    rw (p.1, p.2, all) (c.in_err-apply_in_tree.ensures.err before.0 before.2 rest)

pub loop-item-preserved : goal.loop-item-preserved
loop-item-preserved c = search (rules, unifdef_args-here, append_assoc, unifdef_args-past)
