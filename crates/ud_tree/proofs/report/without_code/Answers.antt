-- By the last place of the sign.
use Rattle.std.proofs.Common.{drop}
use Rattle.ud_tree.specs.ArgumentMessages.IsCut.{cut}
use Rattle.ud_tree.proofs.report.without_code.Goals as goal

pub returns-in-Some : goal.returns-in-Some
returns-in-Some c =
    let h = c.in-Some.ensures.cases in
    cut h.0 (drop h.1 c.args.text.now, h.2.1.split) (λ later above within has. h.2.0 later above within has.0 has.1) h.3
