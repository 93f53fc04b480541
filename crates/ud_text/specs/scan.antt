-- The scan of each line, and the state of a scanner.
pub mod LexerViews
pub mod ScannerState
pub mod ScanBorrows
