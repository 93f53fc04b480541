pub mod CValueExamples
pub mod SelectionExamples
pub mod ProcessingExamples
pub mod PresumedExamples
pub mod ResidualExamples
pub mod FoldedExamples
