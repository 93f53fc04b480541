-- Lemmas by subject.
pub mod printing
pub mod sections
pub mod ParseLemmas
