use Rattle.std.proofs.Common.{refl}
use Rattle.ud_cond.specs.symbols.NameFilters.{slot_of}
use Rattle.ud_cond.proofs.symbols.name_filter.slot_of.Goals as goal

pub returns-clause-value : goal.returns-clause-value
unfolding slot_of
returns-clause-value c = refl
