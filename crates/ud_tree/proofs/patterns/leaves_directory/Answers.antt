-- By whether the next rule leaves it out.
use Rattle.std.proofs.Common.{string_bytes, sym, true≢false, ◌∙◌}
use Rattle.ud_tree.specs.Choices.{as_rule}
use Rattle.ud_tree.proofs.CoverLemmas.{one_more}
use Rattle.ud_tree.proofs.ChoiceLemmas.{leaves_none}
use Rattle.ud_tree.proofs.patterns.leaves_directory.Goals as goal

pub loop-text-preserved : goal.loop-text-preserved
loop-text-preserved c = leaves_none c.as_bytes.result.now (as_rule c.rule_of-rule.result)
    (one_more string_bytes c.args.patterns.now c.loop-text.text-index c.text-item.result c.as_bytes.result.now c.loop-text-test.true c.text-item.is c.as_bytes.ensures.value)
    c.rule_of-rule.ensures (λ both. true≢false (sym (c.leaves.ensures.1 both) ∙ c.if-leaves.false)) c.loop-text.invariant
