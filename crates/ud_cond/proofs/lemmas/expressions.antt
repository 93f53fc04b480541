-- Lemmas on the reader of expressions. These matter; the others serve them:
--
--   KeepingLemmas.next_binary    the states of the parser that the program is in, by what it keeps
--   ReadingLemmas.reads_on       the meaning of a text is that of its first token and the rest
--   EvaluationLemmas.cond-some   the value that is kept decides the condition
--   KeptLemmas.all_kept          the flags that are kept are those of the residual
--   ResidualLemmas.leaf_same     the part of an operand
--   StackLemmas.top              the last operator is on top
pub mod ReadingLemmas
pub mod StackLemmas
pub mod NamedLemmas
pub mod EvaluationLemmas
pub mod DigitLemmas
pub mod ResidualLemmas
pub mod KeepingLemmas
pub mod KeptLemmas
