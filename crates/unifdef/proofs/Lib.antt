-- Lemmas on the tool. These matter; the others serve them:
--
--   HeadlineLemmas.run_answers      a run gives the definitions' answer
--   RefusalLemmas.tells-IsUsageOf   a fault of the arguments is reported as defined
--   EndedLemmas.read_reported       which stream has failed, by the result
pub mod RefusalLemmas
pub mod HeadlineLemmas
pub mod EndedLemmas
pub mod FailureLemmas
pub mod MessageLemmas
