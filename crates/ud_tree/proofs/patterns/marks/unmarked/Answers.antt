-- By whether the next rule is marked.
use Rattle.std.proofs.Common.{◌∙◌, ap, map, string_bytes, sym, arith}
use Rattle.std.proofs.lemmas.Grind.{common_steps}
use Rattle.ud_tree.specs.Unmatched.{quoted}
use Rattle.ud_tree.proofs.UnmatchedLemmas.{listed_more, listed_same, rule_here, unmarked_step}
use Rattle.ud_tree.proofs.patterns.marks.unmarked.Goals.{then-not-is_marked+in_ok-quote+in_ok-push, else-not-is_marked}
use Rattle.ud_tree.proofs.patterns.marks.unmarked.Goals as goal

pub loop-i-preserved : goal.loop-i-preserved
loop-i-preserved c =
    unmarked_step (λ r. r.items) c.loop-i.rules.items c.if-not-is_marked.rules.items (map string_bytes c.args.patterns.now) c.args.marks.now c.loop-i.i
    (grind (arith, common_steps, c.loop-i-test.true))
    (elim c.if-not-is_marked.branch [
      | then-not-is_marked+in_ok-quote+in_ok-push w ↦
          listed_more (λ r. r.items) c.loop-i.rules.items c.if-not-is_marked.rules.items (map string_bytes c.args.patterns.now) c.args.marks.now c.loop-i.i w.in_ok-quote.field-0
          (ap (λ v. v.items) w.rules-is ∙ w.in_ok-push.ensures.items) (sym c.is_marked.ensures ∙ w.if-not-is_marked.true)
          (w.in_ok-quote.ensures ∙ ap quoted (sym (rule_here string_bytes c.args.patterns.now c.loop-i.i c.index-patterns-i.result w.as_bytes.result.now c.loop-i-test.true c.index-patterns-i.is w.as_bytes.ensures.value)))
      | else-not-is_marked w ↦
          listed_same (λ r. r.items) c.loop-i.rules.items c.if-not-is_marked.rules.items (map string_bytes c.args.patterns.now) c.args.marks.now c.loop-i.i
          (ap (λ v. v.items) w.rules-is) (sym c.is_marked.ensures ∙ w.if-not-is_marked.false)
    ])
    c.loop-i.invariant
