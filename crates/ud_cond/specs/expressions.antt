-- The evaluation of expressions.
pub mod Evaluation
pub mod Stacks
pub mod DefinedOperands
pub mod Keepings
pub mod Digits
pub mod ResidualReading
pub mod PackedAmounts
