-- The unified diff of two texts.
pub mod Hunks
pub mod Contexts
pub mod Patching
pub mod DiffTexts
pub mod Scripts
