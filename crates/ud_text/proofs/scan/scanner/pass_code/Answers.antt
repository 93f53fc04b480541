-- The state carried over the line, by the lexer's state after its content.
use Rattle.std.proofs.Common.{◌≡◌, ◌∙◌, sym, refl, subst, List, ℕ, Bool, true, false, ◌||◌, ◌++◌}
use Rattle.ud_model.specs.text.Lines.{NoNewline}
use Rattle.ud_model.specs.aids.LexStates.{LexesTo}
use Rattle.ud_model.specs.aids.LineViews.{as_line}
use Rattle.ud_text.specs.scan.LexerViews.{lex_state_of}
use Rattle.ud_text.specs.scan.ScannerState.{scanner_state_of}
use Rattle.ud_text.proofs.lemmas.scan.ScannerLemmas.{no_newline-content, or_false}
use Rattle.ud_text.proofs.lemmas.scan.PassLemmas.{represents_passed}
use Rattle.ud_text.proofs.scan.scanner.pass_code.Goals as goal

pub pass_content-inside-requires : goal.pass_content-inside-requires
pass_content-inside-requires c = record { one_line = subst NoNewline (sym c.content.ensures) (no_newline-content (as_line c.args.line.now) c.requires.one_line) }

or_true : (a b : Bool) → a ≡ true → true ≡ (a || b)
or_true true b e = refl
or_true false b e = cc

pub returns-then-spliced : goal.returns-then-spliced
returns-then-spliced c = λ before h.
    represents_passed (scanner_state_of c.args.scan_state) _ before (as_line c.args.line.now) (lex_state_of c.pass_content-inside.result.state) c.pass_content-inside.result.white h
    (λ text r. subst (λ (l : List ℕ). LexesTo (text ++ l) (lex_state_of c.pass_content-inside.result.state) c.pass_content-inside.result.white) c.content.ensures (c.pass_content-inside.ensures text r))
    c.end_line-lexer.ensures.state c.end_line-lexer.ensures.white
    (c.if-spliced.true ∙ or_true _ _ (sym c.is_spliced-spliced.ensures ∙ c.if-spliced.true))

pub returns-else-spliced : goal.returns-else-spliced
returns-else-spliced c = λ before h.
    represents_passed (scanner_state_of c.args.scan_state) _ before (as_line c.args.line.now) (lex_state_of c.pass_content-inside.result.state) c.pass_content-inside.result.white h
    (λ text r. subst (λ (l : List ℕ). LexesTo (text ++ l) (lex_state_of c.pass_content-inside.result.state) c.pass_content-inside.result.white) c.content.ensures (c.pass_content-inside.ensures text r))
    c.end_line-lexer.ensures.state c.end_line-lexer.ensures.white
    (c.is_in_block_comment-joins.ensures ∙ or_false _ _ (sym c.is_spliced-spliced.ensures ∙ c.if-spliced.false))
