-- The lines of a text that comes in chunks.
pub mod LimitFaults
pub mod LinesState
pub mod Borrowing
pub mod Consuming
