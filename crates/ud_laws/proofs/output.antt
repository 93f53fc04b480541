-- Lemmas of the laws of outputs and answers. These matter; the others serve them:
--
--   ProcessedPruned.processed              a preprocessor makes the same of pruned files
--   ProcessedAnswers.outputs_processed     and of the outputs of runs, simplified or not
--   RewrittenAnswers.rewritten_processed   and, by logical lines, of folded files
--   ProcessedOnce.once                     it makes one thing of them, if it has one choice in each
--                                          state
--   NamesNumbers.names_keep                numbers for names decide a condition and its residual
--                                          alike
--   SelectedAgain.c_selected_again         C selects the same lines of a text and its output
--   LiveAnswers.answered_live              the text lines of an output are the live ones
--   LiveAnswers.answered_without           no symbol that is gone counts for the output
--   SimplifiedRuns.answered_left           a run over a simplified output copies it
--   ListComplete.list_complete             only the listed symbols count for a text
--   SharedLineLemmas.shared_lines          a run and the run with `-c` share the lines
--   StrictRuns.strict_keeps                `-K` removes no further text
--   CountedText.counted_lines              under `-n` and `-b` each line keeps its number
--   PresumedSelected.selected_presumed     and C presumes it
pub mod SelectedAgain
pub mod PrunedGroups
pub mod SelectedSomewhere
pub mod OnlyDead
pub mod LiveAnswers
pub mod ProcessedPruned
pub mod CProcessed
pub mod NodesAlike
pub mod ProcessedAlike
pub mod ProcessedAnswers
pub mod ProcessedOnce
pub mod CConditions
pub mod CSelected
pub mod AnswerLaws
pub mod ListComplete
pub mod SymbolsGone
pub mod BlankedLineLemmas
pub mod SharedLineLemmas
pub mod StrictRuns
pub mod LoneLines
pub mod Inserting
pub mod CountedLines
pub mod CountedText
pub mod ListAnswers
pub mod InsertedTree
pub mod InsertedText
pub mod ReadInMode
pub mod InsertedSelected
pub mod PresumedNumbers
pub mod OwnNumbers
pub mod PresumedSelected
pub mod FlagArguments
pub mod OptionAnswers
pub mod ReachedPruned
pub mod SimplifiedConditions
pub mod SimplifiedTree
pub mod SimplifiedAgain
pub mod SimplifiedRuns
pub mod LogicalNodes
pub mod ProcessedSimplified
pub mod RewrittenAnswers
pub mod NamesNumbers
