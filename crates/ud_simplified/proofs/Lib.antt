-- Lemmas on simplified and folded texts. These matter; the others serve them:
--
--   ResidualRead.cells_go                    a simplified condition has some of the cells, and is
--                                            read as the residual
--   SimplifiedLineTexts.lines_left           the lines of a simplified text are the simplified
--                                            lines
--   SimplifiedReadings.readings_simplified   and are read as the lines of the text, but for their
--                                            conditions
--   FoldedLines.folded_has                   a folded line has the directive of its lines
--   FoldedReadings.readings_folded           the folded text is read as the folded logical lines
--   FoldedReadings.same_c_lines              and C reads the same logical lines
--   OtherLineScans.scanned_alike             a line that stands alone changes the scan of no other
pub mod OtherLineScans
pub mod ResidualShape
pub mod ResidualRead
pub mod SimplifiedLines
pub mod SimplifiedReadings
pub mod SimplifiedLineTexts
pub mod FoldedLines
pub mod FoldedReadings
