-- The table of symbols that the options set, and how it decides a condition (C11 6.5, 6.10.1).
pub mod Table
pub mod Constants
pub mod Tokens
pub mod Expressions
pub mod Parsing
pub mod Symbols
pub mod Values
pub mod Conditions
pub mod Names
