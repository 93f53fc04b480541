pub mod symbols
pub mod CondViews
pub mod expressions
pub mod list_names
