use Rattle.std.proofs.Common.{◌≡◌, List, drop, map}
use Rattle.ud_model.specs.answer.Printing.{Judged}
use Rattle.test_sections.specs.Ruling.{judged_of}
use Rattle.test_sections.proofs.PrintingLemmas.{Goes}
use Rattle.test_sections.proofs.printing.print_all.Given as goal

abbrev pub invariant-loop-ruled : goal.invariant-loop-ruled
invariant-loop-ruled g l = record {
  goes : (before : List Judged) → g.S.Show.represents l.initial.show before →
      Goes (g.S.Show.represents l.show) (g.S.Show.piece l.initial.show) before (map judged_of l.lines) (map judged_of (drop l.ruled-index l.lines)) l.initial.out.items l.out.items l.same;
  piece : (js : List Judged) → (j : Judged) → g.S.Show.piece l.show js j ≡ g.S.Show.piece l.initial.show js j;
}
