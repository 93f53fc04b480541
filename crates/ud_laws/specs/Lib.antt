pub mod conditions
pub mod answer
pub mod output
