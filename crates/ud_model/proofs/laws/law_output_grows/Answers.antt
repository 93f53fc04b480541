-- The lines so far have no fault, so a longer text is read as they are, and then on.
use Rattle.ud_model.proofs.answer.Onward.{reads_on, reads_further, pieces_grow, prints_on, prints_further}
use Rattle.ud_model.proofs.laws.law_output_grows.Goals as goal

pub returns-clause-items_so_far : goal.returns-clause-items_so_far
returns-clause-items_so_far c = λ o given more xs ys t u f g a b. reads_further o given more a b

pub returns-clause-items : goal.returns-clause-items
returns-clause-items c = λ o given more xs ys t u f g a b. reads_on o given more a b

pub returns-clause-pieces : goal.returns-clause-pieces
returns-clause-pieces c = λ piece t u more e. pieces_grow t u more e piece

pub returns-clause-output_so_far : goal.returns-clause-output_so_far
returns-clause-output_so_far c = λ o given more r s a b. prints_further o given more a b

pub returns-clause-output : goal.returns-clause-output
returns-clause-output c = λ o given more r s a b. prints_on o given more a b
