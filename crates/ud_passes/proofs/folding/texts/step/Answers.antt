-- Text lines, or one line.
use Rattle.std.proofs.Common.{◌++◌, ◌+◌, List, ℕ, length, ◌∙◌, ap, subst, arith}
use Rattle.ud_model.specs.text.Lines.{Line, text_of}
use Rattle.ud_model.specs.text.Splicing.{c_run_of}
use Rattle.ud_model.specs.aids.LineViews.{as_line}
use Rattle.ud_model.specs.declared.kind.Mode.TheVariants.{C}
use Rattle.ud_model.proofs.text.ScanLaws.{joins_before-code}
use Rattle.ud_model.specs.text.Scans.{Scan}
use Rattle.ud_passes.specs.Walks.{read_after, reading_at}
use Rattle.ud_passes.specs.folding.Folding.{FoldsReading}
use Rattle.ud_passes.proofs.FoldLemmas.{if_some, is_spliced_by, long_taken, line_folded, texts_folded}
use Rattle.ud_passes.proofs.folding.texts.step.Goals as goal

pub returns-in_ok-extend_from_slice-in-Texts-clause-folded :
    goal.returns-in_ok-extend_from_slice-in-Texts-clause-folded
returns-in_ok-extend_from_slice-in-Texts-clause-folded c = λ text start s.
    let n = c.in-Texts.ensures.next text s.read s.walked in
    texts_folded text start c.args.logical.now c.args.begun c.args.walk.now c.args.out.now.items s c.args.logical.now c.next_within.new.self _
    (grind (arith, c.passable_len.ensures, c.in-Texts.ensures.one)) c.in-Texts.bytes.now n.0 n.1 n.2 n.3 c.in_ok-extend_from_slice-in-Texts.ensures.items

pub returns-in_ok-append_line-in-TooLong-clause-folded :
    goal.returns-in_ok-append_line-in-TooLong-clause-folded
returns-in_ok-append_line-in-TooLong-clause-folded c = λ text start s.
    let n = c.in-TooLong.ensures.next text s.read s.walked in
    let k : Line = as_line c.in-TooLong.line in
    line_folded text start c.args.logical.now c.args.begun c.args.walk.now c.args.out.now.items s c.args.logical.now c.next_within.new.self _ _ k n.1
    (long_taken (read_after C s.read k) c.args.out.now.items c.args.logical.now c.args.begun s.group _ n.0 s.is_group (if_some c.args.begun (λ h. joins_before-code (c_run_of s.read) k ∙ h) s.goes_on)
    (c.in_ok-append_line-in-TooLong.ensures ∙ ap (λ (x : List ℕ). x ++ text_of k) (c.in_ok-give_up-in-TooLong.ensures s.group s.is_group)) c.args.logical.now)

pub returns-in_ok-last-in-Fitting-clause-folded : goal.returns-in_ok-last-in-Fitting-clause-folded
returns-in_ok-last-in-Fitting-clause-folded c = λ text start s.
    let n = c.in-Fitting.ensures.next text s.read s.walked in
    let k : Line = as_line c.in-Fitting.line in
    line_folded text start c.args.logical.now c.args.begun c.args.walk.now c.args.out.now.items s c.take.new.self c.next_within.new.self _ _ k n.1
    (subst (λ (x : Scan). FoldsReading (reading_at C k x (1 + length s.read)) s.group c.args.out.now.items c.take.new.self c.in_ok-last-in-Fitting.last c.take.new.out.items) n.0
    (c.in_ok-last-in-Fitting.ensures (1 + length s.read) s.group s.is_group (if_some c.args.begun (λ h. ap (λ (x : Scan). x.joins_before) n.0 ∙ joins_before-code (c_run_of s.read) k ∙ h) s.goes_on)
    (ap (λ (x : Scan). x.spliced) n.0 ∙ is_spliced_by (c_run_of s.read) k)))
