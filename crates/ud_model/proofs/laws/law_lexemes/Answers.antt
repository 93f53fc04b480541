-- By the length of a lexeme, which the text decides.
use Rattle.ud_model.proofs.text.LexLemmas.{cut_cells, cut_unique, piece_size}
use Rattle.ud_model.proofs.text.LexExists.{cut_exists}
use Rattle.ud_model.proofs.laws.law_lexemes.Goals as goal

pub returns-clause-exists : goal.returns-clause-exists
returns-clause-exists c = cut_exists

pub returns-clause-only : goal.returns-clause-only
returns-clause-only c = cut_unique

pub returns-clause-cells : goal.returns-clause-cells
returns-clause-cells c = cut_cells

pub returns-clause-extent : goal.returns-clause-extent
returns-clause-extent c = λ a bytes rest kind p. piece_size a bytes rest p
