-- By the prefix up to the first newline.
use Rattle.std.proofs.Common.{ℕ, take, drop, sym, ◌∙◌, ap}
use Rattle.std.proofs.lemmas.List.{length-append}
use Rattle.ud_model.specs.text.Lines.{texts_of}
use Rattle.ud_replace.proofs.MarkLemmas.{first_up_to, later_up_to}
use Rattle.ud_replace.proofs.folded_marks.first_line.Goals as goal

pub returns-clause-first : goal.returns-clause-first
returns-clause-first c =
    let up = c.line_in-line.ensures.bytes in
    c.split_at.ensures.front
    ∙ ap (λ (n : ℕ). take n c.args.text.now) (sym (length-append c.line_in-line.result.body.now c.line_in-line.result.ending.now))
    ∙ sym (first_up_to c.args.text.now _ up.0 up.1)

pub returns-clause-rest : goal.returns-clause-rest
returns-clause-rest c =
    let up = c.line_in-line.ensures.bytes in
    ap texts_of (c.split_at.ensures.back
    ∙ ap (λ (n : ℕ). drop n c.args.text.now) (sym (length-append c.line_in-line.result.body.now c.line_in-line.result.ending.now)))
    ∙ later_up_to c.args.text.now _ up.0 up.1
