-- By the hunks so far, and the next one.
use Rattle.std.proofs.Common.{ℕ, ◌+◌, ◌-◌, List, take, drop, refl, ap, arith}
use Rattle.std.proofs.lemmas.List.Sums.{count_by-le-length}
use Rattle.ud_passes.specs.declared.diff.line.DiffLine.{DiffLine}
use Rattle.ud_passes.specs.diff.Hunks.{is_old, is_new}
use Rattle.ud_passes.proofs.HunkLemmas.{upto_few, taken_few}
use Rattle.ud_passes.proofs.UptoLemmas.{hunks_none, hunks_more, hunks_all, after_hunk}
use Rattle.ud_passes.proofs.diff.hunks.append_hunks.Goals as goal

pub loop-start-init : goal.loop-start-init
loop-start-init c = (omega arith, hunks_none c.args.script.now c.args.out.now.items, refl, refl)

pub overflow_add-old_before : goal.overflow_add-old_before
overflow_add-old_before c =
    let few = upto_few is_old c.args.script.now c.loop-start.at c.loop-start.old_before c.loop-start.invariant.2 in
    omega (arith, c.in-Some.ensures.after, c.in-Some.ensures.some, c.in-Some.ensures.fits)

pub overflow_add-new_before : goal.overflow_add-new_before
overflow_add-new_before c =
    let few = upto_few is_new c.args.script.now c.loop-start.at c.loop-start.new_before c.loop-start.invariant.3 in
    omega (arith, c.in-Some.ensures.after, c.in-Some.ensures.some, c.in-Some.ensures.fits)

pub append_hunk-requires-clause-old : goal.append_hunk-requires-clause-old
append_hunk-requires-clause-old c =
    let few = upto_few is_old c.args.script.now c.loop-start.at c.loop-start.old_before c.loop-start.invariant.2 in
    omega (arith, c.in-Some.ensures.after, c.in-Some.ensures.some, c.in-Some.ensures.fits, taken_few (drop c.in-Some.start c.args.script.now) (c.in-Some.end - c.in-Some.start))

pub append_hunk-requires-clause-new : goal.append_hunk-requires-clause-new
append_hunk-requires-clause-new c =
    let few = upto_few is_new c.args.script.now c.loop-start.at c.loop-start.new_before c.loop-start.invariant.3 in
    omega (arith, c.in-Some.ensures.after, c.in-Some.ensures.some, c.in-Some.ensures.fits, taken_few (drop c.in-Some.start c.args.script.now) (c.in-Some.end - c.in-Some.start))

pub overflow_add-old_before-in-Some : goal.overflow_add-old_before-in-Some
overflow_add-old_before-in-Some c =
    let few = upto_few is_old c.args.script.now c.loop-start.at c.loop-start.old_before c.loop-start.invariant.2 in
    let lines : List DiffLine = take (c.in-Some.end - c.in-Some.start) (drop c.in-Some.start c.args.script.now) in
    let counted = count_by-le-length (λ (l : DiffLine). is_old l.sign) lines in
    let taken = taken_few (drop c.in-Some.start c.args.script.now) (c.in-Some.end - c.in-Some.start) in
    omega (arith, taken, c.count_old-old_before.ensures, c.in-Some.ensures.after, c.in-Some.ensures.some, c.in-Some.ensures.fits)

pub overflow_add-new_before-in-Some : goal.overflow_add-new_before-in-Some
overflow_add-new_before-in-Some c =
    let few = upto_few is_new c.args.script.now c.loop-start.at c.loop-start.new_before c.loop-start.invariant.3 in
    let lines : List DiffLine = take (c.in-Some.end - c.in-Some.start) (drop c.in-Some.start c.args.script.now) in
    let counted = count_by-le-length (λ (l : DiffLine). is_new l.sign) lines in
    let taken = taken_few (drop c.in-Some.start c.args.script.now) (c.in-Some.end - c.in-Some.start) in
    omega (arith, taken, c.count_new-new_before.ensures, c.in-Some.ensures.after, c.in-Some.ensures.some, c.in-Some.ensures.fits)

pub loop-start-preserved : goal.loop-start-preserved
loop-start-preserved c = (
  c.in-Some.ensures.within,
  hunks_more c.args.script.now c.loop-start.at c.in-Some.start c.in-Some.end (c.loop-start.old_before + (c.in-Some.start - c.loop-start.at))
      (c.loop-start.new_before + (c.in-Some.start - c.loop-start.at)) c.args.out.now.items c.loop-start.out.items c.append_hunk.new.out.items c.in-Some.ensures.next
      c.loop-start.invariant.1 (ap (λ (n : ℕ). n + (c.in-Some.start - c.loop-start.at)) c.loop-start.invariant.2)
      (ap (λ (n : ℕ). n + (c.in-Some.start - c.loop-start.at)) c.loop-start.invariant.3) c.in_ok-append_hunk.ensures,
  after_hunk is_old refl c.args.script.now c.loop-start.at c.in-Some.start c.in-Some.end c.loop-start.old_before c.count_old-old_before.result c.in-Some.ensures.next
      c.loop-start.invariant.2 c.count_old-old_before.ensures,
  after_hunk is_new refl c.args.script.now c.loop-start.at c.in-Some.start c.in-Some.end c.loop-start.new_before c.count_new-new_before.result c.in-Some.ensures.next
      c.loop-start.invariant.3 c.count_new-new_before.ensures,
)

pub returns : goal.returns
returns c =
    hunks_all c.args.script.now c.loop-start.at c.args.out.now.items c.loop-start.out.items c.in_default.ensures.next c.loop-start.invariant.1
