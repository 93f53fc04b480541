-- Directives, the sections that they form, and the verdict on each line (C11 6.10, unifdef(1)).
pub mod Directives
pub mod Tree
pub mod Pruning
pub mod Items
pub mod Faults
