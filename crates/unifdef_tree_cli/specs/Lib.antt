pub mod Painting
pub mod Screens
