use Rattle.std.proofs.Common.{Some, None, ◌≡◌, ◌∙◌, sym, ap, subst}
use Rattle.std.proofs.lemmas.List.{get_or_read}
use Rattle.ud_model.specs.conditions.Table.{entry_in}
use Rattle.ud_cond.specs.symbols.SymbolTable.{no_row, IsRowOf}
use Rattle.ud_cond.specs.CondViews.{as_entry}
use Rattle.ud_cond.proofs.lemmas.symbols.TableLemmas.{entry_from-last}
use Rattle.ud_cond.proofs.lemmas.symbols.SortedLemmas.{last-row}
use Rattle.ud_cond.proofs.symbols.Symbols.find.Goals as goal
use Rattle.ud_cond.proofs.symbols.Symbols.find.Goals.{After-entry}

-- the entry of the row is the table's entry
found : (c : After-entry) → Some (as_entry c.entry.result) ≡ entry_in c.args.self.now c.args.name.now
found c =
    let rows = c.self.inside.rows.items in
    let row = subst (λ rows. IsRowOf rows c.in_ok-i.i c.args.name.now) (sym c.self.view_is) c.in_ok-i.ensures.found in
    let read = get_or_read rows c.in_ok-i.i c.index.result.now row.within c.index.ensures no_row in
    ap Some (c.entry.ensures ∙ ap (λ a. a.entry) read)
    ∙ sym (entry_from-last None rows c.in_ok-i.i c.args.name.now (last-row rows c.self.invariant.0 c.in_ok-i.i c.args.name.now row))
    ∙ ap (λ rows. entry_in rows c.args.name.now) c.self.view_is

pub returns-clause-value : goal.returns-clause-value
returns-clause-value c = found c

pub returns-clause-represents : goal.returns-clause-represents
returns-clause-represents c = λ calls represents. found c ∙ represents c.args.name.now
