-- Folded texts, and the way back.
pub mod Folding
pub mod LogicalLines
