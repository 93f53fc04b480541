-- One line.
use Rattle.std.proofs.Common.{length, arith}
use Rattle.std.proofs.lemmas.Bool.{le-leb}
use Rattle.ud_model.specs.text.Lines.{text_of}
use Rattle.ud_model.specs.aids.LineViews.{as_line}
use Rattle.ud_model.specs.declared.limits.TheConstants.{MAX_LINE_BYTES}
use Rattle.ud_passes.proofs.SqueezeLemmas.{line_placed}
use Rattle.ud_passes.proofs.squeezing.places.step.Goals as goal

pub returns-in_ok-push-in-TooLong-clause-placed : goal.returns-in_ok-push-in-TooLong-clause-placed
returns-in_ok-push-in-TooLong-clause-placed c = λ text ms p.
    let n = c.in-TooLong.ensures.next text p.read p.walked in
    line_placed text ms c.args.walk.now c.args.marks.now c.args.places.now.items p c.next_within.new.self (as_line c.in-TooLong.field-0) n.1 _ c.after_stay.ensures _
    (grind (arith, n.0, c.is_gap-gap.ensures, c.bare_place.ensures, c.in_ok-push-in-TooLong.ensures.items))

pub returns-in_ok-push-in-Fitting-clause-placed : goal.returns-in_ok-push-in-Fitting-clause-placed
returns-in_ok-push-in-Fitting-clause-placed c = λ text ms p.
    let n = c.in-Fitting.ensures.next text p.read p.walked in
    let fits = le-leb (length (text_of (as_line c.in-Fitting.line))) MAX_LINE_BYTES c.in-Fitting.ensures.fitting.1 in
    line_placed text ms c.args.walk.now c.args.marks.now c.args.places.now.items p c.next_within.new.self (as_line c.in-Fitting.line) n.1 _ c.after_stay-in-Fitting.ensures _
    (grind (arith, fits, n.0, c.place_of.ensures, c.is_gap-gap.ensures, c.in_ok-push-in-Fitting.ensures.items))
