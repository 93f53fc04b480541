use Rattle.std.proofs.Common.{ℕ, ◌∙◌, sym, ap, subst, arith, List}
use Rattle.std.proofs.lemmas.List.{get_or_read}
use Rattle.ud_model.specs.conditions.Table.{entry_in}
use Rattle.ud_cond.specs.symbols.SymbolTable.{name_at, no_row}
use Rattle.ud_cond.proofs.lemmas.symbols.OccurrenceLemmas.{StandsNowhere, lacking, up_to}
use Rattle.ud_cond.proofs.symbols.Symbols.may_stand_in.Goals as goal

pub loop-i-preserved : goal.loop-i-preserved
loop-i-preserved c =
    let rows = c.self.inside.rows.items in
    let read = get_or_read rows c.loop-i.i c.index.result.now
    (omega (arith, c.loop-i-test.true, c.len-i-end.ensures)) c.index.ensures no_row in
    up_to (λ (k : ℕ). StandsNowhere c.args.text.now (name_at rows k)) c.loop-i.i c.loop-i.invariant
    (subst (λ (n : List ℕ). StandsNowhere c.args.text.now n)
    (c.name.ensures ∙ ap (λ a. a.name) read) c.in_default.ensures)

pub returns-clause-lacks : goal.returns-clause-lacks
returns-clause-lacks c = λ calls represents no before name after e.
    let rows = c.self.inside.rows.items in
    sym (represents name) ∙ ap (λ table. entry_in table name) (sym c.self.view_is)
    ∙ lacking rows c.args.text.now (λ k low. c.loop-i.invariant k
    (omega (arith, low, c.loop-i-test.false, c.len-i-end.ensures))) before name after e
