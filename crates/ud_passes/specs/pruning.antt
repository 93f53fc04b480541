-- The rest of a text.
pub mod PrunedTexts
pub mod Cells
pub mod EditedLines
pub mod Passing
