-- The line stays, or its condition is edited.
use Rattle.std.proofs.Common.{arith, sym, ◌∙◌, subst}
use Rattle.ud_model.specs.text.Lines.{Line, text_of}
use Rattle.ud_model.specs.aids.LineViews.{as_line, as_scan}
use Rattle.ud_cond.specs.CondViews.{as_rules}
use Rattle.ud_sections.specs.directives.ParsedDirectives.{as_directive}
use Rattle.ud_passes.specs.pruning.EditedLines.{IsEditedTo}
use Rattle.ud_passes.proofs.CellLemmas.{if_ok}
use Rattle.ud_passes.proofs.EditLemmas.{joined_stays, joins_by, alone_is, condition_shown, comment_shown, simplified_is}
use Rattle.std.proofs.lemmas.Grind.{common_steps}
use Rattle.ud_passes.proofs.CommentLemmas.{shown_length}
use Rattle.ud_passes.proofs.pruning.lines.LineEditor.edit.Goals as goal
use Rattle.ud_passes.proofs.pruning.lines.LineEditor.edit.Goals.{then-scan-via-then-scan, then-scan-via-else-scan+then-scan-2, then-scan-via-else-scan+else-scan-2+then-is_empty}

pub returns-then-scan : goal.returns-then-scan
returns-then-scan c = λ calls h alone.
    grind (arith, joined_stays, joins_by, then-scan-via-then-scan)

pub returns-then-not-is_closing : goal.returns-then-not-is_closing
returns-then-not-is_closing c = if_ok c.edit_text.result c.edit_text.ensures (λ edited f calls h alone.
    let rules = as_rules c.args.rules in
    let l : Line = as_line c.args.line.now in
    let scan = as_scan c.args.scan.now in
    let d = as_directive c.in-Some.found in
    let has = c.in-Some.ensures.some.0 in
    let some = sym c.is_empty.ensures ∙ c.if-is_empty.false in
    let i = alone_is calls rules l scan d alone c.if-scan.false c.if-scan-2.false some has in
    subst (λ (k : Line). IsEditedTo edited (text_of k) l c.edit_text.new.self.bytes.items) (sym (simplified_is calls rules l scan d alone c.if-scan.false c.if-scan-2.false some has))
    (f calls h i (condition_shown calls rules l d i (sym c.is_closing.ensures ∙ c.if-not-is_closing.true))))

pub edit_text-requires-2-clause-masked : goal.edit_text-requires-2-clause-masked
edit_text-requires-2-clause-masked c = grind (arith, shown_length, common_steps)

pub returns : goal.returns
returns c = grind (arith, if_ok, alone_is, simplified_is, comment_shown)
