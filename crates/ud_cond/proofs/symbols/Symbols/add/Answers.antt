-- By the row of the name, or by its gap.
use Rattle.std.proofs.Common.{◌∙◌, ap, subst, refl, arith}
use Rattle.std.proofs.lemmas.Result.{on_ok_weaker}
use Rattle.ud_model.specs.conditions.Table.{entry_in}
use Rattle.ud_cond.specs.symbols.SymbolTable.{AreSorted, IsRowOf, IsGapFor}
use Rattle.ud_cond.proofs.lemmas.symbols.TableLemmas.{changes-set, entry_from-insert}
use Rattle.ud_cond.proofs.lemmas.symbols.SortedLemmas.{last-row, none-gap}
use Rattle.ud_cond.proofs.symbols.Symbols.add.Goals as goal

pub returns-in-Ok-clause-ok : goal.returns-in-Ok-clause-ok
returns-in-Ok-clause-ok c =
    let sorted : AreSorted c.args.self.now = c.binary_search.ensures.sorted in
    let at = subst (λ n. IsRowOf c.args.self.now c.in-Ok.i n) c.name.ensures c.in-Ok.ensures.found in
    λ name.
    ap (λ rows. entry_in rows name) c.replace_at.ensures
    ∙ changes-set c.args.self.now c.args.self.now c.in-Ok.i c.args.row c.args.row refl refl (last-row c.args.self.now sorted c.in-Ok.i c.args.row.name at) name

pub returns-in-Err-clause-ok : goal.returns-in-Err-clause-ok
returns-in-Err-clause-ok c =
    let gap = subst (λ n. IsGapFor c.args.self.now c.in-Err.i n) c.name.ensures c.in-Err.ensures.absent in
    on_ok_weaker c.insert_at.result
    (λ added. (grind (arith, entry_from-insert, added, gap.within, none-gap c.args.self.now c.in-Err.i c.args.row.name gap)))
    c.insert_at.ensures.ok
