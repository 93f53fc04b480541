-- Lemmas on searches of many bytes at a time.
pub mod MarkLemmas
pub mod SimdLemmas
pub mod ByteLemmas
