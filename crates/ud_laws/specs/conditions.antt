pub mod Choices
pub mod LeastValues
