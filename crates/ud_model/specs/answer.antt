-- The arguments of a command line, what is printed, and the answer to arguments and an input (POSIX
-- XBD 12.2, unifdef(1)).
pub mod Printing
pub mod Listing
pub mod SymbolArguments
pub mod CommandLine
pub mod Messages
pub mod Outcomes
pub mod Answer
