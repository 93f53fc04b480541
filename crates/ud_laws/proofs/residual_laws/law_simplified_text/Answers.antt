-- Line by line.
use Rattle.ud_simplified.proofs.SimplifiedLineTexts.{bytes_left, lines_left}
use Rattle.ud_laws.proofs.output.SimplifiedAgain.{text_again, closings_same}
use Rattle.ud_laws.proofs.residual_laws.law_simplified_text.Goals as goal

pub returns-clause-bytes : goal.returns-clause-bytes
returns-clause-bytes c = bytes_left

pub returns-clause-again : goal.returns-clause-again
returns-clause-again c = text_again

pub returns-clause-lines : goal.returns-clause-lines
returns-clause-lines c = lines_left

pub returns-clause-closings : goal.returns-clause-closings
returns-clause-closings c = closings_same
