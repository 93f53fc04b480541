-- Text lines or one line, that stay.
use Rattle.ud_model.specs.aids.LineViews.{as_line}
use Rattle.ud_cond.specs.CondViews.{as_rules}
use Rattle.ud_passes.proofs.UntouchedLemmas.{texts_stayed, long_stayed, short_stayed}
use Rattle.ud_passes.proofs.untouched.step.Goals as goal

pub returns-in-Texts-clause-stay : goal.returns-in-Texts-clause-stay
returns-in-Texts-clause-stay c = λ _ calls h text s.
    texts_stayed calls (as_rules c.args.rules) text c.args.walk.now c.next.new.self s _ (λ read w. c.in-Texts.ensures.next text read w)

pub returns-in-TooLong-clause-stay : goal.returns-in-TooLong-clause-stay
returns-in-TooLong-clause-stay c = λ _ calls h text s.
    long_stayed calls (as_rules c.args.rules) text c.args.walk.now c.next.new.self s _ (λ read w. (c.in-TooLong.ensures.next text read w).1)
    (c.in-TooLong.ensures.next text s.pruned.read s.pruned.walked).0

pub returns-in_ok-stays-in-Fitting-clause-stay : goal.returns-in_ok-stays-in-Fitting-clause-stay
returns-in_ok-stays-in-Fitting-clause-stay c = λ stays calls h text s.
    short_stayed calls (as_rules c.args.rules) text c.args.walk.now c.next.new.self s (as_line c.in-Fitting.line) (λ read w. (c.in-Fitting.ensures.next text read w).1) _
    (λ read w. (c.in-Fitting.ensures.next text read w).0) (c.in_ok-stays-in-Fitting.ensures stays calls h)
