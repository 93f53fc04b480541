-- The lines stay, go on, or end.
use Rattle.std.proofs.Common.{◌++◌, ◌∷◌, [], List, ℕ, ◌∙◌, ap, sym, arith}
use Rattle.std.proofs.lemmas.Bool.{not-true, not-false}
use Rattle.std.proofs.lemmas.Slice.Eq.{bytes_eq-Decides}
use Rattle.ud_model.specs.text.Scans.{Reading}
use Rattle.ud_model.specs.text.Lines.{text_of}
use Rattle.ud_model.specs.aids.LineViews.{as_line, as_scan}
use Rattle.ud_model.specs.declared.kind.Mode.TheVariants.{C}
use Rattle.ud_passes.specs.Walks.{reading_at}
use Rattle.ud_passes.proofs.FoldLemmas.{takes_stays, takes_more, takes_all, other_stays}
use Rattle.ud_passes.proofs.folding.logical.LogicalLine.take_next.Goals as goal

pub returns-then-ne : goal.returns-then-ne
returns-then-ne c = λ n group i j s.
    let r : Reading = reading_at C (as_line c.args.line.now) (as_scan c.args.scan.now) n in
    takes_stays r c.args.out.now.items c.args.self.now group i.begins j _
    (c.in_ok-append_line.ensures ∙ ap (λ (x : List ℕ). x ++ text_of (as_line c.args.line.now)) (c.in_ok-extend_from_slice.ensures.items ∙ ap (λ (x : List ℕ). c.args.out.now.items ++ x) (c.as_slice.ensures.value ∙ i.plain_is)))
    (λ more. (grind (arith, other_stays, i, not-true _ (sym c.ne.ensures ∙ c.if-ne.true))))

pub returns-then-scan : goal.returns-then-scan
returns-then-scan c = λ n group i j s.
    let r : Reading = reading_at C (as_line c.args.line.now) (as_scan c.args.scan.now) n in
    takes_more r c.args.out.now.items _ group i.begins j _
    (c.in_ok-next.ensures n group i ((bytes_eq-Decides r.line.ending c.args.last.now.line.ending.now).0 (not-false _ (sym c.ne.ensures ∙ c.if-ne.false))) s) c.if-scan.true

pub returns : goal.returns
returns c = λ n group i j s.
    let r : Reading = reading_at C (as_line c.args.line.now) (as_scan c.args.scan.now) n in
    takes_all r c.args.out.now.items _ group i.begins j _
    (c.in_ok-end.ensures (group ++ r ∷ []) (c.in_ok-next.ensures n group i ((bytes_eq-Decides r.line.ending c.args.last.now.line.ending.now).0 (not-false _ (sym c.ne.ensures ∙ c.if-ne.false))) s)) c.if-scan.false
