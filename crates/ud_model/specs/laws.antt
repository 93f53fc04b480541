-- The words of laws: C's values, the worlds in which a text is read, what is pruned, the conditions
-- as they are written, and the output as it is read again.
pub mod CValues
pub mod Worlds
pub mod Pruned
pub mod Rereading
pub mod WrittenConditions
