use Rattle.ud_sections.proofs.printing.printer.PrinterShow.line_output.Goals as goal

pub returns-in-Deletes : goal.returns-in-Deletes
returns-in-Deletes c = rw c.in-Deletes.is (record { line_output = c.line_output.ensures.line_output })

pub returns-in-Blanks : goal.returns-in-Blanks
returns-in-Blanks c = rw c.in-Blanks.is (record { line_output = c.line_output-in-Blanks.ensures.line_output })

pub returns-in-ComplementDeletes : goal.returns-in-ComplementDeletes
returns-in-ComplementDeletes c = rw c.in-ComplementDeletes.is (record { line_output = c.line_output-in-ComplementDeletes.ensures.line_output })

pub returns-in-ComplementBlanks : goal.returns-in-ComplementBlanks
returns-in-ComplementBlanks c = rw c.in-ComplementBlanks.is (record { line_output = c.line_output-in-ComplementBlanks.ensures.line_output })
