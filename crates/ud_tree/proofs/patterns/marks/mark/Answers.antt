-- By whether the next rule is marked.
use Rattle.std.proofs.Common.{◌+◌, ◌<◌, ◌∙◌, arith, length, map, string_bytes, subst, sym}
use Rattle.std.proofs.lemmas.Grind.{common_steps}
use Rattle.ud_tree.proofs.UnmatchedLemmas.{MarksFirst, mark_here, marks_skipped, marks_tried, rule_here}
use Rattle.ud_tree.proofs.patterns.marks.mark.Goals.{then-not-index, else-not-index}
use Rattle.ud_tree.proofs.patterns.marks.mark.Goals as goal

pub loop-i-preserved : goal.loop-i-preserved
loop-i-preserved c =
    let within : c.loop-i.i < length c.loop-i.marks.items = grind (arith, common_steps) in
    elim c.if-not-index.branch [
      | then-not-index w ↦
          let is = rule_here string_bytes c.args.patterns.now c.loop-i.i c.index-patterns-i.result w.as_bytes.result.now c.loop-i-test.true c.index-patterns-i.is w.as_bytes.ensures.value in
          subst (λ m. MarksFirst (c.loop-i.i + 1) c.args.kind c.args.below.now (map string_bytes c.args.patterns.now) c.args.marks.now.items m.items) (sym w.marks-is)
          (marks_tried w.applies.result within (mark_here c.loop-i.marks.items c.loop-i.i c.index.result.now within c.index.ensures ∙ w.if-not-index.true) (rw is w.applies.ensures) c.loop-i.invariant)
      | else-not-index w ↦
          subst (λ m. MarksFirst (c.loop-i.i + 1) c.args.kind c.args.below.now (map string_bytes c.args.patterns.now) c.args.marks.now.items m.items) (sym w.marks-is)
          (marks_skipped (mark_here c.loop-i.marks.items c.loop-i.i c.index.result.now within c.index.ensures ∙ w.if-not-index.false) c.loop-i.invariant)
    ]
