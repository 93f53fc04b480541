-- Lemmas on the engine. These matter; the others serve them:
--
--   DeciderLemmas.reads_one      a decider has read one line more
--   SkipLemmas.reads_all         or many text lines more
--   ProcessorLemmas.shows_line   the output for a line
--   BulkPrintLemmas.prints_run   and for many text lines
--   StepLemmas.lent_put          the engine after a step through a chunk
--   CursorLemmas.next_after      and after a skip
--   FeedLemmas.feed_goes_on      the engine after a chunk, step by step
--   EndLemmas.ends_well          the end of the text
--   RunLemmas.own_session        the course of a run, read by read
--   WaitingLemmas.fed_rest       bytes that wait for the rest of their line
pub mod NameListingLemmas
pub mod DeciderLemmas
pub mod SkipLemmas
pub mod LineOutputLemmas
pub mod ProcessorLemmas
pub mod BulkPrintLemmas
pub mod LinePartLemmas
pub mod StepLemmas
pub mod CursorLemmas
pub mod FeedLemmas
pub mod EndLemmas
pub mod RunLemmas
pub mod RunEndedLemmas
pub mod FinishLemmas
pub mod WaitingLemmas
