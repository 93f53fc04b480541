pub mod printing
pub mod sections
pub mod directives
