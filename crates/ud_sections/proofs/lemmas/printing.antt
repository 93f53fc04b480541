-- Lemmas on printers. These matter; the others serve them:
--
--   PartLemmas.replaced_part        a word in place of a part of a body
--   PrintedRuns.kept_one            the output for text lines by their verdict
--   RenumberLemmas.numbered_piece   which lines are numbered
--   ListingLemmas.levels_grow       the depth of names is that of the open sections
pub mod PartLemmas
pub mod RenumberLemmas
pub mod PrintedRuns
pub mod ListingLemmas
