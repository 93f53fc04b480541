-- Texts as lines, and the scan of each line (C11 5.1.1.2, phases 1 to 3).
pub mod Bytes
pub mod Lines
pub mod Scans
pub mod Splicing
pub mod Lexemes
pub mod Scanning
