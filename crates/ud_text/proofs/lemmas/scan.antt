-- Lemmas on scans. These matter; the others serve them:
--
--   ScannerLemmas.same_scans                 the carried state decides the scan of the next line
--   MaskLemmas.plain_run                     bytes without a mark are shown unchanged
--   UnmarkedLemmas.unmarked_scan             a line without a mark has a scan that is known at once
--   LongerTextLemmas.represents_renumbered   the number of a line never counts for a scanner
pub mod MaskLemmas
pub mod ScannerLemmas
pub mod UnmarkedLemmas
pub mod PassLemmas
pub mod LongerTextLemmas
