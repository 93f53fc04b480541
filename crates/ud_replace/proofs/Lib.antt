-- Lemmas on the replacement of a file. These matter; the others serve them:
--
--   TextLemmas.is_folded           the outcome of a text whose directives are folded
--   TextLemmas.one_outcome         a text has one outcome
--   OutcomeLemmas.judges_differs   a file whose output differs is replaced by it
--   RenameLemmas.one_rename        only the rename touches the file
--   MomentLemmas.old_or_new        each file is old or new after each call
pub mod CallLemmas
pub mod MomentLemmas
pub mod RenameLemmas
mod MarkLemmas
mod PrintLemmas
mod OutcomeLemmas
mod TakesLemmas
mod StepLemmas
mod TextLemmas
mod UnnamedConditions
mod UnnamedTexts
mod VersionLemmas
