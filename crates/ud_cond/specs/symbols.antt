-- The table of symbols.
pub mod SymbolTable
pub mod Keys
pub mod NameFilters
pub mod Marks
