pub mod lines
pub mod searching
pub mod scan
pub mod bulk
