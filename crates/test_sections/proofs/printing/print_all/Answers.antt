use Rattle.std.proofs.Common.{◌∙◌, ◌++◌, ◌∷◌, ◌+◌, List, ℕ, map, drop, ap, subst, sym, bytes_eq}
use Rattle.ud_model.specs.text.Lines.{text_of}
use Rattle.ud_model.specs.answer.Printing.{Judged}
use Rattle.test_sections.specs.Ruling.{judged_of}
use Rattle.test_sections.proofs.PrintingLemmas.{Goes, goes_on, next_line}
use Rattle.test_sections.proofs.printing.print_all.Goals as goal

pub loop-ruled-preserved : goal.loop-ruled-preserved
loop-ruled-preserved g c =
    let piece = g.S.Show.piece c.args.show.now in
    let all : List Judged = map judged_of c.args.lines.now in
    let left : List Judged = map judged_of (drop (c.loop-ruled.ruled-index + 1) c.args.lines.now) in
    let here : Judged = judged_of c.ruled-item.result in
    record {
      goes = λ before h.
          let goes : Goes (g.S.Show.represents c.loop-ruled.show) piece before all (here ∷ left) c.args.out.now.items c.loop-ruled.out.items c.loop-ruled.same =
          subst (λ (js : List Judged). Goes (g.S.Show.represents c.loop-ruled.show) piece before all js c.args.out.now.items c.loop-ruled.out.items c.loop-ruled.same)
          (next_line c.args.lines.now c.loop-ruled.ruled-index c.ruled-item.result c.loop-ruled-test.true ∙ ap (λ r. judged_of r ∷ left) (sym c.ruled-item.is)) (c.loop-ruled.invariant.goes before h) in
          goes_on (g.S.Show.represents c.loop-ruled.show) (g.S.Show.represents c.print_next.new.show) piece before all left here c.args.out.now.items c.loop-ruled.out.items c.print_next.new.out.items
          c.loop-ruled.same c.in_ok-kept.kept goes
          (c.in_ok-kept.ensures.printed goes.passed goes.represents ∙ ap (λ (t : List ℕ). c.loop-ruled.out.items ++ t) (c.loop-ruled.invariant.piece goes.passed here))
          (c.in_ok-kept.ensures.same goes.passed goes.represents ∙ ap (λ (t : List ℕ). bytes_eq t (text_of here.line)) (c.loop-ruled.invariant.piece goes.passed here))
          (c.in_ok-kept.ensures.represents goes.passed goes.represents);
      piece = λ js j. c.in_ok-kept.ensures.piece js j ∙ c.loop-ruled.invariant.piece js j;
    }
