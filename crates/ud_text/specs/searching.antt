-- Searches over many bytes at a time.
pub mod Searches
