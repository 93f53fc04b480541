-- A line more.
use Rattle.std.proofs.Common.{arith, ◌<◌, ℕ, List, length, take, drop, length-append, append-nil}
use Rattle.std.proofs.Common.{sym, ◌∙◌, ap}
use Rattle.ud_model.specs.text.Lines.{Line, text_of, split_lines}
use Rattle.ud_model.specs.aids.LineViews.{as_line}
use Rattle.ud_text.proofs.lemmas.scan.LongerTextLemmas.{some_left}
use Rattle.ud_text.proofs.lemmas.scan.PassLemmas.{nothing_left}
use Rattle.ud_passes.proofs.SqueezeLemmas.{kept_next}
use Rattle.ud_passes.proofs.squeezing.texts.kept_lines.Goals as goal

pub loop-rest-preserved : goal.loop-rest-preserved
loop-rest-preserved c = let rest : List ℕ = c.loop-rest.rest.now in
    let k : Line = as_line c.line_in-line.result in
    let to = c.line_in-line.ensures.bytes in
    let some : 0 < length rest = some_left rest (sym c.is_empty.ensures ∙ c.loop-rest-test.true) in
    kept_next c.loop-rest.out.items c.append_if.new.out.items c.loop-rest.left.now rest (length (text_of k)) to.0 to.1 some
    c.first_flag.result c.later_flags-left.result.now c.split_at.result.0.now c.split_at.result.1.now
    c.first_flag.ensures c.later_flags-left.ensures
    (c.split_at.ensures.front ∙ ap (λ (n : ℕ). take n rest) (sym (length-append k.body k.ending)))
    (c.split_at.ensures.back ∙ ap (λ (n : ℕ). drop n rest) (sym (length-append k.body k.ending)))
    c.in_ok-append_if.ensures
    ∙ c.loop-rest.invariant

pub returns : goal.returns
unfolding split_lines
returns c = grind (arith, append-nil, nothing_left)
