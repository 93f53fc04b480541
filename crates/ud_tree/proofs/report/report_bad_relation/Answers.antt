-- The parts of the line are one text.
use Rattle.std.proofs.Common.{◌++◌, codes, ap}
use Rattle.ud_io.proofs.StreamLemmas.{sends_same}
use Rattle.ud_tree.specs.Summaries.{line_of}
use Rattle.ud_tree.proofs.report.report_bad_relation.Goals as goal

pub returns : goal.returns
returns g c = sends_same (ap (λ x. line_of (codes "Bad symbol: " ++ c.args.word.now ++ (codes "; only a least number is taken: write -D'" ++ x ++ codes ">=N'"))) c.symbol_in.ensures)
    c.report_line.ensures
