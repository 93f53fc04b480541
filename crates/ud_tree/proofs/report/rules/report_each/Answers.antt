use Rattle.ud_tree.proofs.UnmatchedLemmas.{rule_sent}
use Rattle.ud_tree.proofs.report.rules.report_each.Goals as goal

pub loop-rule-preserved : goal.loop-rule-preserved
loop-rule-preserved g c =
    rule_sent (λ r. r.items) c.args.rules.now c.loop-rule.rule-index c.rule-item.result c.as_slice.result.now c.loop-rule-test.true c.rule-item.is c.as_slice.ensures.value
    c.loop-rule.invariant c.report_line.ensures
