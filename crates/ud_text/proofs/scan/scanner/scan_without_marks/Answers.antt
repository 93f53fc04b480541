-- The state carried over the line, and the line's scan.
use Rattle.std.proofs.Common.{length, ◌∙◌, sym, ap, refl}
use Rattle.ud_model.specs.aids.LineViews.{as_line}
use Rattle.ud_text.specs.scan.LexerViews.{lex_state_of}
use Rattle.ud_text.specs.scan.ScannerState.{scanner_state_of}
use Rattle.ud_text.proofs.lemmas.scan.UnmarkedLemmas.{unmarked_carries, unmarked_scan}
use Rattle.ud_text.proofs.scan.scanner.scan_without_marks.Goals as goal

pub returns-clause-represents : goal.returns-clause-represents
returns-clause-represents c = λ before h.
    unmarked_carries (scanner_state_of c.args.scan_state) before (as_line c.args.line.now) h (ap lex_state_of c.in-Text.is)
    (length c.args.line.now.body.now) (sym (c.has_no_mark.ensures c.if-not-has_no_mark.false)) refl c.requires.one_line (sym c.is_empty.ensures ∙ c.if-is_empty.false)
    (scanner_state_of c.initial_state-scan_state.result) c.initial_state-scan_state.ensures

pub returns-clause-value : goal.returns-clause-value
returns-clause-value c = λ masked before h.
    unmarked_scan (scanner_state_of c.args.scan_state) before (as_line c.args.line.now) h (ap lex_state_of c.in-Text.is)
    (length c.args.line.now.body.now) (sym (c.has_no_mark.ensures c.if-not-has_no_mark.false)) refl c.requires.one_line (sym c.is_empty.ensures ∙ c.if-is_empty.false)
    c.args.scan_state.lexer.white c.args.scan_state.joins refl refl
