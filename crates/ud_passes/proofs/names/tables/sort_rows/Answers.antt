-- The rows are sorted by their order.
use Rattle.std.proofs.Common.{rules, is_lt}
use Rattle.std.proofs.lemmas.Result.{on_ok_weaker}
use Rattle.std.proofs.lemmas.List.MinMax.{ranks_by}
use Rattle.std.proofs.lemmas.Fn.{always_returns_same}
use Rattle.ud_passes.specs.names.NameTables.{row_cmp}
use Rattle.ud_passes.specs.names.RowViews.{as_count}
use Rattle.ud_passes.proofs.TableLemmas.{row_cmp_total}
use Rattle.ud_passes.proofs.names.tables.sort_rows.Goals as goal

pub returns-clause-sorted : goal.returns-clause-sorted
returns-clause-sorted c = on_ok_weaker c.sort_by.result
    (λ sorted. sorted (λ a b. is_lt (row_cmp (as_count a) (as_count b))) (ranks_by row_cmp_total as_count) (always_returns_same _ _ _ (λ a r f k. search rules)))
    c.sort_by.ensures.sorted
