-- A line without a vertical tab stays. Another one is restored by its scan as the first line.
use Rattle.std.proofs.Common.{[], ◌++◌, List, ℕ, length, ◌∙◌, ap, sym, append_assoc, arith}
use Rattle.std.proofs.lemmas.Bool.{le-leb}
use Rattle.ud_model.specs.text.Lines.{Line, text_of}
use Rattle.ud_model.specs.text.Scans.{Scan}
use Rattle.ud_model.specs.aids.LineViews.{as_line}
use Rattle.ud_simplified.specs.FoldedTexts.{restored_body}
use Rattle.ud_model.specs.declared.limits.TheConstants.{MAX_LINE_BYTES}
use Rattle.ud_passes.proofs.RestoreLemmas.{without_tab}
use Rattle.ud_passes.proofs.folding.restored.append_restored_line.Goals as goal

pub returns-then-not-has_tab : goal.returns-then-not-has_tab
returns-then-not-has_tab c =
    c.in_ok-append_line.ensures ∙ ap (λ (x : List ℕ). c.args.out.now.items ++ x) (sym (grind (arith, without_tab, sym c.has_tab.ensures ∙ c.if-not-has_tab.true)))

pub returns : goal.returns
returns c = let l : Line = as_line c.args.line.now in
    let out : List ℕ = c.args.out.now.items in
    c.in_ok-extend_from_slice.ensures.items ∙ ap (λ (x : List ℕ). x ++ l.ending) c.in_ok-append_body.ensures
    ∙ append_assoc out (restored_body l.ending l.body c.read_into-scan.result.masked.now) l.ending
    ∙ ap (λ (s : Scan). out ++ (restored_body l.ending l.body s.masked ++ l.ending)) (c.read_into-scan.ensures.value [] c.bare-scanner.ensures)
    ∙ ap (λ (x : List ℕ). out ++ x) (sym (grind (arith, le-leb (length (text_of l)) MAX_LINE_BYTES c.requires.fits)))
