-- Lemmas on arguments and printing. These matter; the others serve them:
--
--   WordLemmas.options_given      an argument gives its options, and then come those of the next
--                                 ones
--   Onward.prints_on              the output for a longer text begins with the output so far
--   PrintingLemmas.printed-more   a line after others is printed after them
pub mod PrintingLemmas
pub mod LevelLemmas
pub mod Onward
pub mod WordLemmas
