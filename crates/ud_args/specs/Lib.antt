pub mod CommandLines
pub mod ParsedArgs
pub mod SymbolStorage
pub mod ParsedSettings
pub mod Plans
pub mod Drafts
pub mod LeastSymbols
pub mod TreeWords
