-- By the line that is read of the bytes.
use Rattle.std.proofs.Common.{ℕ, List, [], sym, ◌∙◌, ap}
use Rattle.std.proofs.lemmas.Slice.Eq.{bytes_eq-Decides}
use Rattle.std.proofs.lemmas.Bool.{not-true, not-false}
use Rattle.ud_model.specs.text.Scanning.{scan_after_run}
use Rattle.ud_model.specs.sections.Directives.{Directive}
use Rattle.ud_sections.specs.directives.ParsedDirectives.{as_directive}
use Rattle.ud_passes.specs.pruning.EditedLines.{is_meant}
use Rattle.ud_model.specs.text.Lines.{Line}
use Rattle.ud_model.specs.aids.LineViews.{as_line}
use Rattle.ud_passes.proofs.EditLemmas.{other_ending, same_bytes, edited_if, is_end}
use Rattle.ud_passes.proofs.pruning.lines.takes_place.Goals as goal

pub returns-then-ne : goal.returns-then-ne
returns-then-ne c = λ table rules h.
    let d : Directive = as_directive c.args.found.now in
    let l : Line = as_line c.args.line.now in
    let e : Line = as_line c.line_in-edited.result in
    let to = c.line_in-edited.ensures.bytes in
    other_ending table rules l d h.condition c.requires.one_line (is_end l.ending c.args.line.now.ended c.requires.ended) c.args.bytes.now h.bytes_are e to.0 to.1 c.line_in-edited.ensures.value (not-true _ (sym c.ne.ensures ∙ c.if-ne.true))

pub returns-then-eq : goal.returns-then-eq
returns-then-eq c = λ table rules h.
    let d : Directive = as_directive c.args.found.now in
    let l : Line = as_line c.args.line.now in
    let e : Line = as_line c.line_in-edited.result in
    let to = c.line_in-edited.ensures.bytes in
    same_bytes table rules l d h.condition c.requires.one_line (is_end l.ending c.args.line.now.ended c.requires.ended) c.args.bytes.now h.bytes_are e to.0 to.1 c.line_in-edited.ensures.value ((bytes_eq-Decides e.ending l.ending).0 (not-false _ (sym c.ne.ensures ∙ c.if-ne.false))) (sym c.eq.ensures ∙ c.if-eq.true)

pub returns : goal.returns
returns c = λ table rules h.
    let d : Directive = as_directive c.args.found.now in
    let l : Line = as_line c.args.line.now in
    let e : Line = as_line c.line_in-edited.result in
    let to = c.line_in-edited.ensures.bytes in
    edited_if table rules l d h.condition c.requires.one_line (is_end l.ending c.args.line.now.ended c.requires.ended) c.args.bytes.now h.bytes_are e to.0 to.1 c.line_in-edited.ensures.value ((bytes_eq-Decides e.ending l.ending).0 (not-false _ (sym c.ne.ensures ∙ c.if-ne.false))) (sym c.eq.ensures ∙ c.if-eq.false) c.in_ok-is_meant.field-0
    (c.in_ok-is_meant.ensures ∙ ap (λ (x : List ℕ). is_meant d x e (scan_after_run [] e)) (sym h.text_is))
