use Rattle.std.proofs.Common.{◌∙◌, sym}
use Rattle.ud_cond.proofs.lemmas.NameListLemmas.{whole-tokens, names-tree}
use Rattle.ud_cond.proofs.list_names.expression_names.Goals as goal

pub of_text-requires : goal.of_text-requires
of_text-requires c = whole-tokens c.args.text.now (sym c.is_expression.ensures ∙ c.if-is_expression.true)

pub returns-then-is_expression : goal.returns-then-is_expression
returns-then-is_expression c =
    c.of_text.ensures ∙ names-tree c.args.text.now (sym c.is_expression.ensures ∙ c.if-is_expression.true)
