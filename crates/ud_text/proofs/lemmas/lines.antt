-- Lemmas on lines. These matter; the others serve them:
--
--   NewlineLemmas.up_to_newline-once   a chunk has one prefix up to its first newline
--   LinesLemmas.represent_rest         what is buffered is the partial line of the text
--   BorrowLemmas.represent_borrowed    a borrowed line is the next one
--   ConsumeLemmas.represent_consumed   whole lines can be consumed at once
--   CountLemmas.counted_rest           the newlines before a position and after it
pub mod NewlineLemmas
pub mod LinesLemmas
pub mod BorrowLemmas
pub mod ConsumeLemmas
pub mod CountLemmas
pub mod NearNewlines
pub mod FirstLineLemmas
pub mod NextLineLemmas
