pub mod text
pub mod conditions
pub mod sections
pub mod answer
pub mod examples
pub mod output
