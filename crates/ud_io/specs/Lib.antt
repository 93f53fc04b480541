pub mod Watched
pub mod Buffering
pub mod Streams
