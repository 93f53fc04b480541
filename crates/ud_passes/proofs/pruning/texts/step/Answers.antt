-- Text lines, or one line.
use Rattle.std.proofs.Common.{arith}
use Rattle.ud_model.specs.aids.LineViews.{as_line}
use Rattle.ud_cond.specs.CondViews.{as_rules}
use Rattle.ud_passes.proofs.PassLemmas.{texts_more, long_more, line_pruned}
use Rattle.ud_passes.proofs.pruning.texts.step.Goals as goal

pub returns-in_ok-extend_from_slice-in-Texts-clause-pruned : goal.returns-in_ok-extend_from_slice-in-Texts-clause-pruned
returns-in_ok-extend_from_slice-in-Texts-clause-pruned c = λ calls h text start l.
    let n = c.in-Texts.ensures.next text l.read l.walked in
    texts_more calls (as_rules c.args.rules) text start c.args.count c.args.walk.now c.args.out.now.items l c.next.new.self _ c.in-Texts.bytes.now n.0 n.1 n.2 c.in_ok-extend_from_slice-in-Texts.ensures.items n.3

pub returns-in_ok-append_either-in-TooLong-clause-pruned : goal.returns-in_ok-append_either-in-TooLong-clause-pruned
returns-in_ok-append_either-in-TooLong-clause-pruned c = λ calls h text start l.
    let n = c.in-TooLong.ensures.next text l.read l.walked in
    long_more calls (as_rules c.args.rules) text start c.args.count c.args.walk.now c.args.out.now.items l c.next.new.self _ (as_line c.in-TooLong.line) n.1 n.0 c.in_ok-append_either-in-TooLong.ensures

pub returns-in_ok-edited-in-Fitting-clause-pruned : goal.returns-in_ok-edited-in-Fitting-clause-pruned
returns-in_ok-edited-in-Fitting-clause-pruned c = λ calls h text start l.
    let n = c.in-Fitting.ensures.next text l.read l.walked in
    line_pruned calls (as_rules c.args.rules) text start c.args.count c.args.walk.now c.args.out.now.items l c.next.new.self _ (as_line c.in-Fitting.line) n.1 _ _ (grind (arith, c.from.ensures)) _ n.0 (c.in_ok-edited-in-Fitting.ensures calls h)
