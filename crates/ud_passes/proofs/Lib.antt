-- Lemmas on the passes. These matter; the others serve them:
--
--   WalkLemmas.line_next          a walk goes a line further, or over text lines (`texts_next`)
--   LeftLemmas.found_or_stays     when the rest of a condition's text takes its place
--   PassLemmas.line_pruned        a pruned text grows by a line
--   FitLemmas.fitting             if all lines fit, it is the simplified text
--   FoldLemmas.takes_line         a folded text grows by a line
--   RestoreLemmas.line_restored   a restored text, too
--   SqueezeLemmas.line_placed     the places of an output, with a line more
--   SqueezedFlags.only_blanks     only blank lines go from a squeezed text
--   SearchLemmas.line_searched    the mentions of a text with a line more
--   TableLemmas.table_of          the rows of a table are sorted
--   UnlistedLemmas.line_found     the conditions that can't be listed, with a line more
--   ScriptLemmas.script_whole     the script of a diff has all lines of both texts
--   UptoLemmas.hunks_all          kept lines up to the end need no further hunk
--   PatchLemmas.diff_is           a diff turns the lines of one text into the other's
mod LineLemmas
mod ScriptLemmas
mod ContextLemmas
mod HunkLemmas
mod UptoLemmas
mod PatchLemmas
pub mod WalkLemmas
pub mod UnlistedLemmas
pub mod TableLemmas
pub mod CellLemmas
pub mod TokenLists
pub mod LeftLemmas
pub mod QuoteLemmas
pub mod CommentLemmas
pub mod EditLemmas
pub mod PassLemmas
pub mod FitLemmas
pub mod NameLemmas
pub mod LackingLemmas
pub mod MentionLemmas
pub mod DefinitionLemmas
pub mod SearchLemmas
pub mod ShownLemmas
pub mod FoldLemmas
pub mod RestoreLemmas
pub mod UntouchedLemmas
pub mod SqueezeLemmas
pub mod SqueezedFlags
