-- Lemmas on streams. These matter; the others serve them:
--
--   StreamLemmas.sends_parts               bytes that were sent part by part
--   BufferingLemmas.appends_all_but_then   more bytes follow those that are left
pub mod BufferingLemmas
pub mod StreamLemmas
