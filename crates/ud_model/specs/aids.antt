-- Definitions that contracts of the code and proofs use besides: other forms, each equal to its
-- definition by a law or a lemma, views, and residuals. The meaning doesn't depend on them.
pub mod LexStates
pub mod SoFar
pub mod Height
pub mod LettersThen
pub mod LineViews
pub mod ReadAs
pub mod Prefixes
pub mod SpacedBytes
pub mod DirectiveParts
pub mod Residuals
