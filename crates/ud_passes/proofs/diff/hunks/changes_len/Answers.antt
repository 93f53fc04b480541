-- By the lines so far.
use Rattle.std.proofs.lemmas.List.{get_or_default}
use Rattle.std.proofs.lemmas.Bool.{cases_lt}
use Rattle.std.proofs.Common.{ℕ, ◌+◌, sym, subst, arith}
use Rattle.ud_passes.proofs.ContextLemmas.{ChangesUpto, changes_more, changes_end, kept_range}
use Rattle.ud_passes.proofs.diff.hunks.changes_len.Goals as goal
use Rattle.ud_passes.proofs.diff.hunks.changes_len.Goals.{then-is_change, else-is_change+else-at-last}

pub loop-at-preserved : goal.loop-at-preserved
loop-at-preserved c =
    elim c.if-is_change.branch [
      | then-is_change w ↦
          subst (λ (n : ℕ). ChangesUpto c.args.lines.now (c.loop-at.at + 1) n) (sym w.last-is)
          (changes_more c.args.lines.now c.loop-at.at c.loop-at.last _ c.loop-at-test.true (sym w.if-is_change.ensures) c.loop-at.invariant)
      | else-is_change+else-at-last w ↦
          subst (λ (n : ℕ). ChangesUpto c.args.lines.now (c.loop-at.at + 1) n) (sym w.last-is)
          (grind (arith, cases_lt, get_or_default, c.requires, c.loop-at-test.true, sym w.if-is_change.ensures, w.if-at-last.false, c.loop-at.invariant))
    ]

pub returns-after-loop-at-clause-later : goal.returns-after-loop-at-clause-later
returns-after-loop-at-clause-later c = grind (arith, changes_end)

pub returns-then-at-last-clause-later : goal.returns-then-at-last-clause-later
returns-then-at-last-clause-later c =
    grind (arith, kept_range, cases_lt, get_or_default, c.loop-at-test.true, sym c.if-is_change.ensures, c.if-at-last.true, c.loop-at.invariant)
