pub mod answer
pub mod conditions
pub mod examples
pub mod output
