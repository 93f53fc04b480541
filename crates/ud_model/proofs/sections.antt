-- Lemmas on directives, sections, verdicts and faults. These matter; the others serve them:
--
--   SplitLines.directive_is   a line has a directive exactly if its parts say so
--   Growth.Adds               how the tree of a text grows by a line
--   Stages.verdict_by_stage   the verdict of an opener is that of the stage of its section
--   Stays.marks_stay          further lines change no mark before them
--   Exists.answer_exists      arguments and an input have an answer
--   Soundness.one_answer      and one only; `one_run`: a text has one outcome
--   FaultStays.fault_stays    a fault so far stays, with the output before it
pub mod Growth
pub mod Unique
pub mod Stays
pub mod Soundness
pub mod FaultStays
pub mod Keywords
pub mod KeywordLies
pub mod SplitLines
pub mod Stages
pub mod Exists
