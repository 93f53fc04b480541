-- By the line that is read of the bytes.
use Rattle.std.proofs.Common.{◌≡◌, ◌≤◌, ℕ, List, length, bytes_eq, sym, ◌∙◌, ap, subst, false}
use Rattle.std.proofs.lemmas.Slice.Eq.{bytes_eq-Decides}
use Rattle.std.proofs.lemmas.Bool.{not-true, not-false, le-leb}
use Rattle.ud_model.specs.text.Lines.{Line, text_of}
use Rattle.ud_model.specs.text.Splicing.{is_empty}
use Rattle.ud_model.specs.aids.LineViews.{as_line}
use Rattle.ud_model.specs.declared.limits.TheConstants.{MAX_LINE_BYTES}
use Rattle.ud_passes.proofs.EditLemmas.{is_end}
use Rattle.ud_passes.proofs.ShownLemmas.{other_ending, shown_by}
use Rattle.ud_passes.proofs.folding.shown.is_line_shown.Goals as goal

pub returns-then-ne : goal.returns-then-ne
returns-then-ne c = λ k b e n o.
    let l : Line = as_line c.line_in-line.result in
    let to = c.line_in-line.ensures.bytes in
    let some : is_empty k.ending ≡ false = ap is_empty (sym e) ∙ sym c.is_empty.ensures ∙ c.if-is_empty.false in
    sym (other_ending k n (is_end k.ending o some) c.args.bytes.now b l to.0 to.1 c.line_in-line.ensures.value c.args.shown.now
    (subst (λ (x : List ℕ). bytes_eq l.ending x ≡ false) e (not-true _ (sym c.ne.ensures ∙ c.if-ne.true))))

pub returns : goal.returns
returns c = λ k b e n o.
    let l : Line = as_line c.line_in-line.result in
    let to = c.line_in-line.ensures.bytes in
    let some : is_empty k.ending ≡ false = ap is_empty (sym e) ∙ sym c.is_empty.ensures ∙ c.if-is_empty.false in
    c.in_ok-is_shown.ensures ∙ shown_by k n (is_end k.ending o some) c.args.bytes.now b l to.0 to.1 c.line_in-line.ensures.value c.args.shown.now
    ((bytes_eq-Decides l.ending c.args.ending.now).0 (not-false _ (sym c.ne.ensures ∙ c.if-ne.false)) ∙ e) some
    (le-leb (length (text_of k)) MAX_LINE_BYTES (subst (λ (x : List ℕ). length x ≤ MAX_LINE_BYTES) b c.if-bytes-gt-MAX_LINE_BYTES.false))
