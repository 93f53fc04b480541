-- One line.
use Rattle.std.proofs.Common.{◌++◌, List, ℕ, ◌∙◌, ap, sym, arith}
use Rattle.ud_model.specs.aids.LineViews.{as_line}
use Rattle.ud_passes.proofs.RestoreLemmas.{line_more}
use Rattle.ud_passes.proofs.folding.restored.step.Goals as goal

pub returns-in_ok-append_line-in-TooLong-clause-restored :
    goal.returns-in_ok-append_line-in-TooLong-clause-restored
returns-in_ok-append_line-in-TooLong-clause-restored c = λ text start s.
    let n = c.in-TooLong.ensures.next text s.read s.walked in
    line_more text start c.args.walk.now c.args.out.now.items s c.next_within.new.self _ (as_line c.in-TooLong.line) n.1
    (c.in_ok-append_line-in-TooLong.ensures ∙ ap (λ (x : List ℕ). c.args.out.now.items ++ x) (sym (grind (arith, n.0))))

pub returns-in_ok-append_restored_line-in-Fitting-clause-restored :
    goal.returns-in_ok-append_restored_line-in-Fitting-clause-restored
returns-in_ok-append_restored_line-in-Fitting-clause-restored c = λ text start s.
    let n = c.in-Fitting.ensures.next text s.read s.walked in
    line_more text start c.args.walk.now c.args.out.now.items s c.next_within.new.self _ (as_line c.in-Fitting.line) n.1 c.in_ok-append_restored_line-in-Fitting.ensures
