-- Many whole text lines, read at once.
pub mod BulkScanning
pub mod BulkStates
pub mod BulkLexemes
pub mod Progress
pub mod Blocks
pub mod Reaching
pub mod PlainText
