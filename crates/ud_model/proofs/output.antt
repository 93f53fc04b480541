-- Lemmas of the laws of the output. These matter; the others serve them:
--
--   PrunedTree.one_pruned            nodes have exactly one pruned tree: the fold over their groups
--                                    (Folded)
--   PrintedPruned.printed-pruned     the output for the lines of a text is that of its pruned tree
--   SelectedPruned.selected-pruned   a world that agrees with the decided conditions selects the
--                                    same lines of both
--   WorldsExist.world_of             the openers of a text can be given any truths
--   ExchangedScan.exchanged_scan     a line whose keyword is exchanged is scanned as before but for
--                                    the keyword
--   LeftItems.left_kept              the output for a line, read again, is the item of that line as
--                                    it is left
--   RereadStep.step                  so are the outputs for lines with one more
--   RereadLaws.runs_output           so an output whose lines fit is printed as it is
--   RereadLaws.output_undecided      and nothing of it is decided
--   Undecided.pruned_undecided       since nothing in a pruned tree is
--   OutputPieces.output_lines        the pieces that are printed are the lines of the output
--   Changed.changed                  some line differs exactly if the output is not the input
--   Heeding.the_mode                 the one mode in which all lines are read
pub mod Sizes
pub mod PrunedHeights
pub mod Formed
pub mod RereadLaws
pub mod Heeding
pub mod ExchangedScan
pub mod DirectiveFront
pub mod Undecided
pub mod KeywordPlace
pub mod EditedScan
pub mod JoinedAlike
pub mod SameShape
pub mod Folded
pub mod PrintedPruned
pub mod PrunedTree
pub mod SelectedPruned
pub mod Each
pub mod EachLines
pub mod WovenTrees
pub mod PrunedLines
pub mod ByLength
pub mod Changed
pub mod KeywordSizes
pub mod Edits
pub mod Suited
pub mod RereadChain
pub mod RereadStep
pub mod LeftItems
pub mod LeftLines
pub mod LeftScans
pub mod RereadMore
pub mod LeftModes
pub mod SoundAgain
pub mod LeavesOff
pub mod OutputPieces
pub mod SeenLines
pub mod WorldsExist
