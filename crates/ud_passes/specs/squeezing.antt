-- Squeezed texts.
pub mod SqueezedTexts
pub mod Squeezing
