-- Lemmas on lines, spliced texts and scans. These matter; the others serve them:
--
--   LinesLemmas.lines_exist       a text has lines
--   LinesLemmas.lines_of-append   the whole lines of a text are the first ones of a longer text
--   LexExists.cut_exists          a text has lexemes
--   LexLemmas.cut_unique          and in one way; `cut_cells`: the computed cells are theirs
--   LexStateLemmas.Masks-step     one more byte takes the state of a text to the next one
--   ScanLaws.scan_alone           a scan depends on its logical line alone
--   ScanLaws.readings_grow        further lines change no scan before them
--   ScanBytes.scan_after-same     nor does the number of a line
--   ScanBytes.content-prefix      position i of a masked line is position i of the line's body
--   Pushes.ByPush                 a list from its last element: the induction over the lines so far
pub mod ByteLemmas
pub mod ByteTables
pub mod LinesLemmas
pub mod Pushes
pub mod Steps
pub mod LexStateLemmas
pub mod ScanLemmas
pub mod LexLemmas
pub mod LexExists
pub mod ScanLaws
pub mod ScanBytes
