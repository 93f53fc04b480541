-- The squeezed text has the tree of the output, without blank lines.
use Rattle.ud_tree_laws.proofs.SqueezedReadings.{selects_same}
use Rattle.ud_tree_laws.proofs.law_squeezed_selects.Goals as goal

pub returns : goal.returns
returns c = λ o p ms output ns a. selects_same o p ms output ns a
