-- A path that ends does so in as many steps as there are arguments.
use Rattle.ud_model.proofs.conditions.SymbolLemmas.{end_found, end_is}
use Rattle.ud_model.proofs.laws.law_symbol_end.Goals as goal

pub returns-clause-found : goal.returns-clause-found
returns-clause-found c = end_found

pub returns-clause-ends : goal.returns-clause-ends
returns-clause-ends c = end_is
