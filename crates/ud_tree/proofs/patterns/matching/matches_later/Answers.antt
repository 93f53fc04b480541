-- By what the `*` before the pattern comes to.
use Rattle.std.proofs.Common.{[], refl, arith}
use Rattle.ud_tree.specs.Patterns.{star}
use Rattle.ud_tree.proofs.PatternPlaceLemmas.{star_on, star_back, star_more, star_less}
use Rattle.ud_tree.proofs.patterns.matching.matches_later.Goals as goal

pub returns-in-Ended-true : goal.returns-in-Ended-true
returns-in-Ended-true c =
    let whole = c.in-Ended-true.ensures.reaches.0 c.in-Ended-true.field-0-test in
    (λ e. c.later.invariant.1 (star [] c.later.bytes.now refl whole), λ m. refl)

pub later-preserved-in-Some : goal.later-preserved-in-Some
later-preserved-in-Some c = grind (arith, star_more, star_less)

pub later-preserved : goal.later-preserved
later-preserved c = grind (arith, star_on, star_back)
