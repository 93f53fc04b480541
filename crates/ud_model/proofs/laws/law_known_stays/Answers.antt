-- By the way in which the C value comes about.
use Rattle.ud_model.proofs.conditions.DecidedConditions.{yes_is_true, no_is_false}
use Rattle.ud_model.proofs.conditions.KnownStays.{known_stays, least_stays}
use Rattle.ud_model.proofs.laws.law_known_stays.Goals as goal

pub returns-clause-value : goal.returns-clause-value
returns-clause-value c = known_stays

pub returns-clause-least : goal.returns-clause-least
returns-clause-least c = least_stays

pub returns-clause-yes : goal.returns-clause-yes
returns-clause-yes c = yes_is_true

pub returns-clause-no : goal.returns-clause-no
returns-clause-no c = no_is_false
