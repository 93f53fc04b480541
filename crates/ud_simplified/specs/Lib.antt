pub mod Sublists
pub mod ResidualTexts
pub mod CommentTexts
pub mod SimplifiedTexts
pub mod FoldedTexts
