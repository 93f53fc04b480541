-- Lemmas on the table of symbols. These matter; the others serve them:
--
--   TableLemmas.represents-changes   a table that sets the entry of a call represents one call more
--   StableLemmas.stable_represents   calls in the order of their names represent the same calls
--   SortedLemmas.gap-keys            a search that finds no row ends at the gap for the name
--   FilterLemmas.noted-kept          a filter that is widened rejects no name that it passed
pub mod TableLemmas
pub mod SortedLemmas
pub mod FilterLemmas
pub mod StableLemmas
pub mod OccurrenceLemmas
pub mod MarkLemmas
