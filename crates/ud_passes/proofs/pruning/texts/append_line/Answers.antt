-- The line was edited or stays.
use Rattle.std.proofs.Common.{ℕ, List, length, sym, subst}
use Rattle.std.proofs.lemmas.Bool.{le-leb}
use Rattle.ud_model.specs.text.Lines.{Line, text_of}
use Rattle.ud_model.specs.text.Scans.{Reading}
use Rattle.ud_model.specs.aids.LineViews.{as_line, as_scan}
use Rattle.ud_simplified.specs.SimplifiedTexts.{simplified_line}
use Rattle.ud_model.specs.declared.limits.TheConstants.{MAX_LINE_BYTES}
use Rattle.ud_cond.specs.CondViews.{as_rules}
use Rattle.ud_passes.specs.pruning.EditedLines.{c_reading, IsEditedTo}
use Rattle.ud_passes.proofs.PassLemmas.{next_edited}
use Rattle.ud_passes.proofs.pruning.texts.append_line.Goals as goal

pub returns : goal.returns
returns c = λ calls h alone.
    let rules = as_rules c.args.rules in
    let l : Line = as_line c.args.line.now in
    let r : Reading = c_reading l (as_scan c.args.scan.now) in
    next_edited calls rules r c.in_ok-edited.edited c.as_slice.result.now c.args.out.now.items c.append_either.new.out.items (le-leb (length (text_of l)) MAX_LINE_BYTES c.requires.fits)
    (subst (λ (x : List ℕ). IsEditedTo c.in_ok-edited.edited (text_of (simplified_line calls rules r)) l x) (sym c.as_slice.ensures.value) (c.in_ok-edited.ensures calls h alone)) c.in_ok-append_either.ensures
