-- Lemmas on the library for C. These matter; the others serve them:
--
--   TextCallLemmas.text_answered   the answer to a call is the answer to its arguments
--   WordLemmas.word_taken          the words of a block, one after another
--   CourseLemmas.begins            the course of a text in chunks begins
pub mod WordLemmas
pub mod FaultLemmas
pub mod TextCallLemmas
pub mod WalkWords
pub mod HandleBox
pub mod HandleSteps
pub mod StreamLemmas
pub mod CourseLemmas
