-- The sort is stable.
use Rattle.std.proofs.Common.{◌≡◌, is_lt, rules}
use Rattle.std.proofs.lemmas.Fn.{always_returns_same}
use Rattle.std.proofs.lemmas.List.Sorted.{ranks_by}
use Rattle.ud_cond.proofs.lemmas.symbols.SortedLemmas.{name_total}
use Rattle.ud_cond.proofs.lemmas.symbols.StableLemmas.{comes_before, stable_represents}
use Rattle.ud_cond.proofs.symbols.sorted.Goals as goal

pub returns : goal.returns
returns c = stable_represents c.args.rows.items c.sort_by.new.self.items
    (c.sort_by.ensures.stable comes_before (ranks_by name_total (λ a. a.name))
    (always_returns_same _ (λ a r. is_lt r ≡ comes_before a.0.now a.1.0.now) _ (λ a r f called. search rules)))
