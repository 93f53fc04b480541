-- Lemmas on text lines that are skipped in bulk. These matter; the others serve them:
--
--   TextLemmas.unsigned              a line that is read without a stop is text
--   QuietLineLemmas.passed_quiet     such lines are skipped, and what is carried is known
--   SpliceLemmas.passed_splice       up to a splice, too
--   ProgressLemmas.read_base         from what is known up to a position to what is known further
--                                    on
--   LexemeLemmas.line_comment_read   where lexemes lead: a line comment, a literal, a backslash
--   BlockLemmas.block_closed         the bytes of a block comment, with its newlines
--   HashLemmas.passes_plain          lines in plain mode, in which no `#` begins a directive
--   ReachLemmas.closes_there         a slash after a star closes a comment that the fast path is in
pub mod QuietLemmas
pub mod TextLemmas
pub mod BulkPlainLemmas
pub mod QuietLineLemmas
pub mod SpliceLemmas
pub mod LexemeLemmas
pub mod NameLemmas
pub mod LookLemmas
pub mod QuotedLemmas
pub mod ProgressLemmas
pub mod HashLemmas
pub mod BlockLemmas
pub mod StepLemmas
pub mod NibbleTable
pub mod BlockBitLemmas
pub mod ReachLemmas
