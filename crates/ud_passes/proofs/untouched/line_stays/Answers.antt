-- No directive goes on from the line, and it isn't edited.
use Rattle.std.proofs.Common.{◌≡◌, [], ◌++◌, length, Bool, false, sym, ◌∙◌, subst, refl}
use Rattle.std.proofs.lemmas.Bool.{le-leb, not-true}
use Rattle.ud_model.specs.text.Lines.{Line, text_of}
use Rattle.ud_model.specs.text.Scans.{Reading}
use Rattle.ud_model.specs.aids.LineViews.{as_line, as_scan}
use Rattle.ud_model.specs.declared.limits.TheConstants.{MAX_LINE_BYTES}
use Rattle.ud_cond.specs.CondViews.{as_rules}
use Rattle.ud_simplified.specs.SimplifiedTexts.{simplified_line}
use Rattle.ud_passes.specs.pruning.EditedLines.{c_reading, IsEditedTo}
use Rattle.ud_passes.proofs.PassLemmas.{next_edited}
use Rattle.ud_passes.proofs.untouched.line_stays.Goals as goal

pub returns : goal.returns
returns c = λ unedited calls h. let k : Line = as_line c.args.line.now in
    record {
      unbegun = sym c.begins.ensures ∙ c.if-begins.false;
      unedited = λ old alone.
          let r : Reading = c_reading k (as_scan c.args.scan.now) in
          let stays : text_of (simplified_line calls (as_rules c.args.rules) r) ≡ text_of k =
          subst (λ (b : Bool). IsEditedTo b (text_of (simplified_line calls (as_rules c.args.rules) r)) k c.edit.new.self.bytes.items) (not-true c.in_ok-edited.edited unedited) (c.in_ok-edited.ensures calls h alone) in
          next_edited calls (as_rules c.args.rules) r false [] old (old ++ text_of k) (le-leb (length (text_of k)) MAX_LINE_BYTES c.requires.fits) stays refl;
    }
