-- The line, or the first line of those that it represents.
use Rattle.std.proofs.Common.{◌≡◌, ◌++◌, ℕ, List, OnOk, sym, ◌∙◌, ap, subst}
use Rattle.ud_model.specs.aids.LineViews.{as_line}
use Rattle.ud_simplified.specs.FoldedTexts.{restored_line}
use Rattle.ud_passes.specs.Passes.{numbered_line}
use Rattle.ud_passes.specs.names.UnlistedConditions.{shown_body}
use Rattle.ud_passes.proofs.UnlistedLemmas.{first_shown}
use Rattle.ud_passes.proofs.names.texts.File.append_shown.Goals as goal

pub returns-clause-line : goal.returns-clause-line
returns-clause-line c = let l = as_line c.args.line.now in
    let bytes = c.as_slice.ensures.value ∙ c.in_ok-append_restored_line.ensures ∙ ap (λ (x : List ℕ). x ++ restored_line l) c.new-lines.ensures.items in
    let first = c.line_in-first.ensures in
    let shown = first_shown l (as_line c.line_in-first.result) c.as_slice.result.now _ first.bytes.0 bytes first.bytes.1 first.value in
    subst (λ (x : List ℕ). OnOk c.append_line-2.result (c.append_line-2.new.list.items ≡ c.args.out.now.items ++ numbered_line c.args.self.name.now c.args.number x))
    (shown ∙ ap (λ b. shown_body b l) (sym c.if-not-self.false)) c.append_line-2.ensures.items
