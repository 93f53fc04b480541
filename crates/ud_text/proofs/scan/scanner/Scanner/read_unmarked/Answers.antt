-- The state isn't changed by the line, and the line's scan.
use Rattle.std.proofs.Common.{length, ◌∙◌, sym, refl, arith}
use Rattle.ud_model.specs.aids.LineViews.{as_line}
use Rattle.ud_text.proofs.lemmas.scan.UnmarkedLemmas.{unmarked_stays, unmarked_scan_of}
use Rattle.ud_text.proofs.scan.scanner.Scanner.read_unmarked.Goals as goal

pub returns-clause-represents : goal.returns-clause-represents
returns-clause-represents g c =
    unmarked_stays c.args.self.now (sym c.self.view_is ∙ grind (arith, c.in-Text.is, c.if-not-state.false, c.if-state.false)) (as_line c.args.line.now)
    (length c.args.line.now.body.now) (sym (c.has_no_mark.ensures c.if-not-has_no_mark.false)) refl c.requires.one_line (sym c.is_empty.ensures ∙ c.if-is_empty.false)

pub returns-clause-value : goal.returns-clause-value
returns-clause-value g c = grind (arith, unmarked_scan_of)
