-- The names of each line are listed, so each condition is decided alike.
use Rattle.ud_laws.proofs.output.ListComplete.{list_complete, list_serves}
use Rattle.ud_laws.proofs.option_laws.law_list_is_complete.Goals as goal

pub returns-clause-listed : goal.returns-clause-listed
returns-clause-listed c = λ o p input l r k e a run. list_complete o p input k e a.settings a.entries run

pub returns-clause-serves : goal.returns-clause-serves
returns-clause-serves c = λ q o p input l r s k e a run. list_serves q o p input s.settings s.lister s.listed k e a.settings a.entries run
