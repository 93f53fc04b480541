-- No name of an earlier row stands in the text.
use Rattle.std.proofs.Common.{ℕ, ◌<◌}
use Rattle.ud_cond.specs.symbols.SymbolTable.{name_at}
use Rattle.ud_cond.proofs.lemmas.symbols.OccurrenceLemmas.{StandsNowhere}
use Rattle.ud_cond.proofs.symbols.Symbols.may_stand_in.Given as goal

abbrev pub invariant-loop-i : goal.invariant-loop-i
invariant-loop-i l = (k : ℕ) → k < l.i → StandsNowhere l.text (name_at l.self-inside.rows.items k)
