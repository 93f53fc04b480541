-- Lemmas by subject.
pub mod expressions
pub mod symbols
pub mod NameListLemmas
