-- Printers and the lister.
pub mod PieceParts
pub mod Styles
pub mod PrinterOutputs
pub mod Printers
pub mod ListerBorrows
