-- The names in a directive's text.
pub mod NameLists
