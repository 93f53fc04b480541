-- Each cell has its byte on both sides.
use Rattle.std.proofs.lemmas.List.{take-map, drop-map}
use Rattle.std.proofs.Common.{sym, arith}
use Rattle.ud_passes.proofs.CellLemmas.{cells_same}
use Rattle.ud_passes.proofs.pruning.cells.CellBytes.split_at.Goals as goal

pub returns-clause-front : goal.returns-clause-front
returns-clause-front c = λ cells a.
    cells_same _ (sym c.split_bytes.ensures.front) (sym c.split_bytes-2.ensures.front) (grind (arith, take-map, a))

pub returns-clause-back : goal.returns-clause-back
returns-clause-back c = λ cells a.
    cells_same _ (sym c.split_bytes.ensures.back) (sym c.split_bytes-2.ensures.back) (grind (arith, drop-map, a))
