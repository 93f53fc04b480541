-- Lemmas by subject.
pub mod bulk
pub mod lines
pub mod scan
pub mod searching
