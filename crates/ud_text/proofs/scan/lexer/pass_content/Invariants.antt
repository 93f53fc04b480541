-- The content so far was read.
use Rattle.std.proofs.Common.{◌≡◌, ℕ, List, ◌++◌, length}
use Rattle.ud_model.specs.text.Lines.{NoNewline}
use Rattle.ud_model.specs.aids.LexStates.{LexesTo}
use Rattle.ud_text.specs.scan.LexerViews.{lex_state_of}
use Rattle.ud_text.proofs.scan.lexer.pass_content.Given as goal

abbrev pub invariant-loop-rest : goal.invariant-loop-rest
invariant-loop-rest l = record {
  one_line : NoNewline l.rest;
  passed : (done : List ℕ) × (done ++ l.rest ≡ l.content) ×
      ((text : List ℕ) → LexesTo text (lex_state_of l.fn.lexer.state) l.fn.lexer.white → LexesTo (text ++ done) (lex_state_of l.inside.state) l.inside.white);
}

abbrev pub decreases-loop-rest : goal.decreases-loop-rest
decreases-loop-rest l = length l.rest
