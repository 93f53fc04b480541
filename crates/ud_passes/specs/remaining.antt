-- The conditions of a text that name a symbol.
pub mod Definitions
pub mod Mentions
pub mod ListedNames
pub mod Reasons
pub mod RemainingLists
pub mod Searches
