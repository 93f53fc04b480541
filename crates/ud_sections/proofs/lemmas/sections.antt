-- Lemmas on the machine. These matter; the others serve them:
--
--   ActionLemmas.opener_mark         the table by states is the table of verdicts
--   ActionLemmas.changed_is          how a line changes the open sections
--   TransitionLemmas.TurnsWell       the transition for the next line
--   LineFaults.is_cut_item           when a keyword can't be known
--   MachineLemmas.reads_line         what a machine represents after a line
--   MachineLemmas.ends_well          and what it returns at the end
pub mod ActionLemmas
pub mod LineFaults
pub mod CheckLemmas
pub mod TransitionLemmas
pub mod MachineLemmas
pub mod NextLemmas
