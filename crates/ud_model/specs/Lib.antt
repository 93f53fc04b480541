-- The statement is in `text`, `conditions`, `sections` and `answer`: the head of src/lib.rt has the
-- order in which to read it. `laws` has what laws speak of, and `aids` what contracts of the code
-- and proofs use besides.
pub mod text
pub mod conditions
pub mod sections
pub mod answer
pub mod laws
pub mod aids
