-- The state carried over the line, and the line's scan, by the lexer's state after its content.
use Rattle.std.proofs.Common.{rules, ◌≡◌, ◌∙◌, sym, ap, ap₂, refl, List, ℕ, Bool, true, false, ◌||◌, ◌++◌, length, arith}
use Rattle.ud_model.specs.text.Scans.{Reading}
use Rattle.ud_model.specs.text.Splicing.{is_spliced, content, spliced_text, c_run_of}
use Rattle.ud_model.specs.text.Scanning.{is_block, comment_at}
use Rattle.ud_model.specs.aids.LexStates.{LexState, Masks, kind_in_state, fresh_at}
use Rattle.ud_model.specs.aids.LineViews.{as_line}
use Rattle.ud_text.specs.scan.LexerViews.{lex_state_of, shown_in}
use Rattle.ud_text.specs.scan.ScannerState.{ScannerRepresents, scanner_state_of}
use Rattle.ud_text.proofs.lemmas.scan.ScannerLemmas.{represents_code, scan_carried, same_parts, no_newline-content}
use Rattle.ud_text.proofs.scan.scanner.scan_code.Given.{Over}
use Rattle.ud_text.proofs.scan.scanner.scan_code.Goals as goal
use Rattle.ud_text.proofs.scan.scanner.scan_code.Goals.{After-comment_at}
use Rattle.std.proofs.lemmas.Grind.{common_steps}

pub mask_or_borrow-requires : goal.mask_or_borrow-requires
mask_or_borrow-requires g c =
    grind (arith, common_steps, no_newline-content (as_line c.args.line.now) c.requires.one_line)

-- how the content is shown after the spliced text of the C run
shown_content : (g : Over) (c : After-comment_at g) (before : List Reading) → ScannerRepresents (scanner_state_of c.args.scan_state) before →
    Masks (length (spliced_text (c_run_of before))) (spliced_text (c_run_of before) ++ content (as_line c.args.line.now)) (lex_state_of c.mask_or_borrow.result.0.state)
    c.mask_or_borrow.result.0.white (shown_in c.mask_or_borrow.result.1 (g.H.LineBuffer.items c.mask_or_borrow.new.masked))
shown_content g c before h = grind (arith, common_steps)

or_true : (a b : Bool) → a ≡ true → a ≡ (a || b)
or_true true b e = refl
or_true false b e = cc

joins_is : (g : Over) (c : After-comment_at g) → c.if-spliced.joins ≡ (is_spliced (as_line c.args.line.now) || is_block (kind_in_state (lex_state_of c.end_line-lexer.result.state)))
joins_is g c = search rules

pub returns-clause-represents : goal.returns-clause-represents
returns-clause-represents g c = λ before h.
    represents_code (scanner_state_of c.args.scan_state) before (as_line c.args.line.now) (shown_in c.mask_or_borrow.result.1 (g.H.LineBuffer.items c.mask_or_borrow.new.masked))
    (lex_state_of c.mask_or_borrow.result.0.state) c.mask_or_borrow.result.0.white _ h (shown_content g c before h)
    c.end_line-lexer.ensures.state c.end_line-lexer.ensures.white (joins_is g c)

pub returns-clause-value : goal.returns-clause-value
returns-clause-value g c = λ before h.
    same_parts refl
    (c.is_fresh-fresh.ensures ∙ ap (λ (l : List ℕ). fresh_at (lex_state_of c.args.scan_state.lexer.state) c.args.scan_state.lexer.white l) c.content-bytes.ensures)
    refl
    (joins_is g c ∙ ap (λ (p : LexState). is_spliced (as_line c.args.line.now) || is_block (kind_in_state p)) c.end_line-lexer.ensures.state)
    c.is_spliced-spliced.ensures
    (c.comment_at.ensures ∙ ap₂ (λ (s : Bool) (p : LexState). comment_at s (kind_in_state p)) c.is_spliced-spliced.ensures c.end_line-lexer.ensures.state)
    ∙ sym (scan_carried (scanner_state_of c.args.scan_state) before (as_line c.args.line.now) (shown_in c.mask_or_borrow.result.1 (g.H.LineBuffer.items c.mask_or_borrow.new.masked))
    (lex_state_of c.mask_or_borrow.result.0.state) c.mask_or_borrow.result.0.white h (shown_content g c before h))
