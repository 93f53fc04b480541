-- The line stays, or its text is edited.
use Rattle.std.proofs.Common.{◌≡◌, ℕ, ◌+◌, ◌++◌, List, Bool, false, take, sym, ◌∙◌, ap, ap₂, refl, subst, arith}
use Rattle.std.proofs.lemmas.Grind.{common_steps}
use Rattle.ud_model.specs.text.Lines.{Line}
use Rattle.ud_model.specs.aids.LineViews.{as_line}
use Rattle.ud_model.specs.text.Lexemes.{Cell}
use Rattle.ud_model.specs.sections.Directives.{Directive}
use Rattle.ud_model.specs.conditions.Conditions.{Rules}
use Rattle.std.specs.List.{list_any}
use Rattle.ud_model.specs.text.Bytes.{is_quote}
use Rattle.ud_simplified.specs.ResidualTexts.{is_literal, simplified_cells}
use Rattle.ud_simplified.specs.SimplifiedTexts.{keyword_end, text_cells}
use Rattle.ud_cond.specs.CondViews.{as_rules}
use Rattle.ud_sections.specs.directives.ParsedDirectives.{as_directive}
use Rattle.ud_passes.specs.pruning.Cells.{AreCells, IsFound}
use Rattle.ud_passes.specs.pruning.EditedLines.{IsEditedAt}
use Rattle.ud_passes.proofs.CellLemmas.{cells_same}
use Rattle.ud_passes.proofs.LeftLemmas.{quote_stays}
use Rattle.ud_passes.proofs.QuoteLemmas.{same_quotes}
use Rattle.ud_passes.proofs.EditLemmas.{cells_are, all_left}
use Rattle.ud_passes.proofs.pruning.lines.LineEditor.edit_text.Goals as goal

pub returns-then-has_quote : goal.returns-then-has_quote
returns-then-has_quote c = λ calls h i e.
    let rules : Rules = as_rules c.args.rules in
    let l : Line = as_line c.args.line.now in
    let d : Directive = as_directive c.args.found.now in
    all_left calls rules l d i (quote_stays calls rules (text_cells l d) (same_quotes calls rules l d i.has ∙ ap (list_any is_quote) e ∙ sym c.has_quote.ensures ∙ c.if-has_quote.true))

pub returns-then-not-branch : goal.returns-then-not-branch
returns-then-not-branch c = λ calls h i e.
    let rules : Rules = as_rules c.args.rules in
    let l : Line = as_line c.args.line.now in
    let d : Directive = as_directive c.args.found.now in
    let cells : List Cell = text_cells l d in
    let a : AreCells cells c.split_bytes.result.1.now c.args.shown.now = cells_same cells (sym c.split_bytes.ensures.back) refl (cells_are calls rules l d i e) in
    let q : list_any is_literal cells ≡ false = same_quotes calls rules l d i.has ∙ ap (list_any is_quote) e ∙ sym c.has_quote.ensures ∙ c.if-has_quote.false in
    all_left calls rules l d i
    (subst (λ (b : Bool). IsFound calls rules cells b c.find.new.self.text) c.if-not-branch.true (c.in_ok-find.ensures.found calls h cells a q))

-- The bytes of the edited line.
joined : (c : goal.After-as_slice-3) → c.as_slice-2.result.now ≡ (take (c.args.found.now.keyword.at + c.args.found.now.keyword.len) c.args.line.now.body.now ++ c.find.new.self.text.bytes.items) ++ c.args.line.now.ending.now
joined c = grind arith

pub takes_place-requires-clause-fits : goal.takes_place-requires-clause-fits
takes_place-requires-clause-fits c = grind (arith, common_steps)

pub returns : goal.returns
returns c = λ calls h i e.
    let rules : Rules = as_rules c.args.rules in
    let l : Line = as_line c.args.line.now in
    let d : Directive = as_directive c.args.found.now in
    let cells : List Cell = text_cells l d in
    let a : AreCells cells c.split_bytes.result.1.now c.args.shown.now = cells_same cells (sym c.split_bytes.ensures.back) refl (cells_are calls rules l d i e) in
    let q : list_any is_literal cells ≡ false = same_quotes calls rules l d i.has ∙ ap (list_any is_quote) e ∙ sym c.has_quote.ensures ∙ c.if-has_quote.false in
    let left : AreCells (simplified_cells calls rules cells) c.find.new.self.text.bytes.items c.find.new.self.text.shown.items =
    subst (λ (b : Bool). IsFound calls rules cells b c.find.new.self.text) c.if-not-branch.false (c.in_ok-find.ensures.found calls h cells a q) in
    let bytes : c.as_slice-2.result.now ≡ (take (keyword_end d) l.body ++ c.find.new.self.text.bytes.items) ++ l.ending =
    c.as_slice-2.ensures.value ∙ c.in_ok-extend_from_slice-3.ensures.items ∙ ap (λ (x : List ℕ). x ++ l.ending)
    (c.in_ok-extend_from_slice-2.ensures.items ∙ ap₂ (λ (x y : List ℕ). x ++ y)
    (c.in_ok-extend_from_slice.ensures.items ∙ ap₂ (λ (x y : List ℕ). x ++ y) c.clear.ensures.items c.split_bytes.ensures.front) c.as_slice.ensures.value) in
    subst (IsEditedAt calls rules l d c.in_ok-takes_place.field-0) c.as_slice-2.ensures.value
    (c.in_ok-takes_place.ensures calls rules (record {
      condition = i;
      text_is = left.shown_are ∙ sym c.as_slice-3.ensures.value;
      bytes_are = bytes ∙ ap (λ (x : List ℕ). (take (keyword_end d) l.body ++ x) ++ l.ending) (sym left.bytes_are);
    }))
