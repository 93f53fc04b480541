-- The text before the place was searched.
use Rattle.std.proofs.Common.{◌≡◌, ◌+◌, ◌≤◌, List, length}
use Rattle.ud_model.specs.conditions.Table.{Argument}
use Rattle.ud_cond.specs.symbols.SymbolTable.{TableRepresents}
use Rattle.ud_passes.specs.Passes.{AppendsSome}
use Rattle.ud_passes.specs.remaining.Searches.{Searched}
use Rattle.ud_passes.proofs.remaining.search.Search.search.Given as goal

abbrev pub invariant-loop-walk : goal.invariant-loop-walk
invariant-loop-walk l = record {
  grows : AppendsSome l.fn.self.list.items l.self.list.items;
  listing : l.self.listing ≡ l.fn.self.listing;
  room : l.place.number + length l.walk.rest.now ≤ 1 + length l.text;
  searched : (calls : List Argument) → TableRepresents l.symbols calls → Searched l.symbols calls l.mode l.name l.text l.fn.self l.self l.place l.walk;
}

abbrev pub decreases-loop-walk : goal.decreases-loop-walk
decreases-loop-walk l = length l.walk.rest.now
