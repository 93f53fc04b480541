-- The rows of the sorted names are the table.
use Rattle.std.proofs.Common.{◌++◌, ℕ, List, map, ◌∙◌, ap, subst}
use Rattle.std.specs.List.Sorted.{IsPermutation}
use Rattle.std.proofs.lemmas.Result.{on_ok_weaker}
use Rattle.std.proofs.lemmas.List.Sorted.{IsPermutation-map}
use Rattle.ud_passes.specs.names.NameTables.{names_in, row_cmp, table_text}
use Rattle.ud_passes.specs.names.RowViews.{as_count, AreCounts}
use Rattle.ud_passes.proofs.TableLemmas.{table_of, sorted_map}
use Rattle.ud_passes.proofs.names.tables.append_table.Goals as goal

pub returns-clause-table : goal.returns-clause-table
returns-clause-table c = on_ok_weaker c.append_rows.result (λ e.
    let names : List (List ℕ) = names_in c.args.list.now in
    let sorted : List (List ℕ) = map (λ n. n.now) c.sort.new.self.items in
    let p : IsPermutation names sorted =
    subst (λ (ns : List (List ℕ)). IsPermutation ns (map (λ n. n.now) c.sort.new.self.items)) c.in_ok-names.ensures (IsPermutation-map (λ n. n.now) c.in_ok-names.names.items c.sort.new.self.items c.sort.ensures.permutation) in
    let h : AreCounts sorted (map as_count c.in_ok-rows.rows.items) =
    subst (λ ns. AreCounts (map (λ n. n.now) ns) (map as_count c.in_ok-rows.rows.items)) c.as_slice.ensures.value c.in_ok-rows.ensures in
    let q = IsPermutation-map as_count c.in_ok-rows.rows.items c.sort_rows.new.rows.items c.sort_rows.ensures.same in
    let up = sorted_map row_cmp as_count c.sort_rows.new.rows.items c.in_ok-sort_rows.ensures.sorted in
    record {
      rows = map as_count c.sort_rows.new.rows.items;
      is_table = table_of names sorted (map as_count c.in_ok-rows.rows.items) (map as_count c.sort_rows.new.rows.items) p h q up;
      appended = e ∙ ap (λ x. c.args.out.now.items ++ table_text (map as_count x)) c.as_slice-2.ensures.value;
    })
    c.append_rows.ensures.lines
