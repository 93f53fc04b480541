use Rattle.std.proofs.Common.{refl, sym}
use Rattle.ud_sections.proofs.printing.printer.PrinterShow.pieces.Goals as goal

pub returns-in-Deletes : goal.returns-in-Deletes
returns-in-Deletes c = rw c.in-Deletes.is (rw (sym c.in-Deletes.printer-is)
    ((refl, (λ p. tt), c.pieces.follows.holds-at-none), record { parts = c.pieces.ensures.parts; is_unchanged = c.pieces.ensures.is_unchanged; represents_after = tt }))

pub returns-in-Blanks : goal.returns-in-Blanks
returns-in-Blanks c = rw c.in-Blanks.is (rw (sym c.in-Blanks.printer-is)
    ((refl, (λ p. tt), c.pieces-in-Blanks.follows.holds-at-none), record { parts = c.pieces-in-Blanks.ensures.parts; is_unchanged = c.pieces-in-Blanks.ensures.is_unchanged; represents_after = tt }))

pub returns-in-ComplementDeletes : goal.returns-in-ComplementDeletes
returns-in-ComplementDeletes c = rw c.in-ComplementDeletes.is (rw (sym c.in-ComplementDeletes.printer-is)
    ((refl, (λ p. tt), c.pieces-in-ComplementDeletes.follows.holds-at-none), record { parts = c.pieces-in-ComplementDeletes.ensures.parts; is_unchanged = c.pieces-in-ComplementDeletes.ensures.is_unchanged; represents_after = tt }))

pub returns-in-ComplementBlanks : goal.returns-in-ComplementBlanks
returns-in-ComplementBlanks c = rw c.in-ComplementBlanks.is (rw (sym c.in-ComplementBlanks.printer-is)
    ((refl, (λ p. tt), c.pieces-in-ComplementBlanks.follows.holds-at-none), record { parts = c.pieces-in-ComplementBlanks.ensures.parts; is_unchanged = c.pieces-in-ComplementBlanks.ensures.is_unchanged; represents_after = tt }))
