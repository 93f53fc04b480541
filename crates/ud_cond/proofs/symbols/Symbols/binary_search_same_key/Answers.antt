use Rattle.std.proofs.Common.{rules, ◌≡◌}
use Rattle.std.proofs.lemmas.Fn.{always_returns_same}
use Rattle.ud_cond.specs.symbols.SymbolTable.{name_cmp}
use Rattle.ud_cond.proofs.lemmas.symbols.SortedLemmas.{searched}
use Rattle.ud_cond.proofs.symbols.Symbols.binary_search_same_key.Goals as goal

-- the closure compares a row's name, and the slice is the table's rows
pub returns-clause-found : goal.returns-clause-found
returns-clause-found c =
    let by_name = c.binary_search_by.ensures.position (λ a. name_cmp a.name c.args.name.now)
    (always_returns_same _ (λ a r. r ≡ name_cmp a.0.now.name c.args.name.now) _ (λ a r f called. search rules)) in
    rw (← c.self.view_is, ← c.deref.ensures.value) (searched _ (rw c.deref.ensures.value c.self.invariant.0) c.args.name.now _ c.binary_search_by.ensures.bound by_name).0

pub returns-clause-absent : goal.returns-clause-absent
returns-clause-absent c =
    let by_name = c.binary_search_by.ensures.position (λ a. name_cmp a.name c.args.name.now)
    (always_returns_same _ (λ a r. r ≡ name_cmp a.0.now.name c.args.name.now) _ (λ a r f called. search rules)) in
    rw (← c.self.view_is, ← c.deref.ensures.value) (searched _ (rw c.deref.ensures.value c.self.invariant.0) c.args.name.now _ c.binary_search_by.ensures.bound by_name).1
