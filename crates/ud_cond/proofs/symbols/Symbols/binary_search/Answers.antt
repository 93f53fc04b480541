use Rattle.std.proofs.Common.{rules, ◌≡◌, Err, subst}
use Rattle.std.specs.List.Sorted.{IsBinarySearchResult}
use Rattle.std.specs.Ordering.{nat_cmp}
use Rattle.std.proofs.lemmas.Fn.{always_returns_same}
use Rattle.ud_cond.specs.symbols.Keys.{key_of}
use Rattle.ud_cond.proofs.lemmas.symbols.SortedLemmas.{gap-keys}
use Rattle.ud_cond.proofs.symbols.Symbols.binary_search.Goals as goal

-- the closure returns a row's key, and the slice is the table's rows
pub returns-in-Err-clause-absent : goal.returns-in-Err-clause-absent
returns-in-Err-clause-absent c =
    let by_key = c.in-Err.ensures.position (λ a. key_of a.name) (always_returns_same _ (λ a r. r ≡ key_of a.0.now.name) _ (λ a r f called. search rules)) in
    let of_name = subst (λ k. IsBinarySearchResult (λ a. nat_cmp (key_of a.name) k) c.deref.result.now (Err c.in-Err.i)) c.requires.keyed by_key in
    rw (← c.self.view_is, ← c.deref.ensures.value) (gap-keys _ (rw c.deref.ensures.value c.self.invariant.0) c.args.name.now (Err c.in-Err.i) c.in-Err.ensures.bound of_name)
