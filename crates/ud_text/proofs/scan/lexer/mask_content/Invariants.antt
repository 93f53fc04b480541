-- The content before `at` is shown.
use Rattle.std.proofs.Common.{◌≡◌, ◌≤◌, ◌-◌, ℕ, List, ◌++◌, length, take}
use Rattle.ud_model.specs.aids.LexStates.{LexesTo, Masks}
use Rattle.ud_text.specs.scan.LexerViews.{lex_state_of}
use Rattle.ud_text.proofs.scan.lexer.mask_content.Given as goal

abbrev pub invariant-loop-at : goal.invariant-loop-at
invariant-loop-at g l = record {
  within : l.at ≤ length l.content;
  size : length (g.H.LineBuffer.items l.masked) ≡ l.at;
  masks : (text : List ℕ) → LexesTo text (lex_state_of l.fn.lexer.state) l.fn.lexer.white → Masks (length text) (text ++ take l.at l.content) (lex_state_of l.inside.state) l.inside.white (g.H.LineBuffer.items l.masked);
}

abbrev pub decreases-loop-at : goal.decreases-loop-at
decreases-loop-at g l = length l.initial.content - l.at
