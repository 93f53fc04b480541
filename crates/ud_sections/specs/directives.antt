-- The directive of a line.
pub mod Keywords
pub mod ParsedDirectives
