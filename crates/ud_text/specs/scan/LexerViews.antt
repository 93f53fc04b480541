-- LexerViews: the lexer's states and what it masks, in terms of the definitions.
use Rattle.std.specs.Prelude.{ℕ, List, ◌++◌, length, Option, Some, None}
use Rattle.std.specs.Borrow.{Bor}
use Rattle.ud_model.specs.aids.LexStates.{LexState as TextPlace, in_text, at_slash, in_block}
use Rattle.ud_model.specs.aids.LexStates.{at_star, in_line, in_literal, at_backslash}
use Rattle.ud_model.specs.aids.LexStates.{LexesTo, Masks}
use Rattle.ud_text.specs.declared.scan.lexer.Lexer.{Lexer}
use Rattle.ud_text.specs.declared.scan.lexer.LexState.{LexState}
use Rattle.ud_text.specs.declared.scan.lexer.LexState.TheVariants.{Text, Slash, Block, Star}
use Rattle.ud_text.specs.declared.scan.lexer.LexState.TheVariants.{ToLineEnd, Literal, Backslash}

-- `lex_state_of state`: the lexer's state.
abbrev pub lex_state_of : LexState → TextPlace
lex_state_of Text = in_text
lex_state_of Slash = at_slash
lex_state_of Block = in_block
lex_state_of Star = at_star
lex_state_of ToLineEnd = in_line
lex_state_of (Literal quote) = in_literal quote
lex_state_of (Backslash quote) = at_backslash quote

-- `shown_in borrowed masked`: the masked bytes of a line: the borrowed ones or, if there are none,
-- `masked`.
abbrev pub shown_in : Option (Bor (List ℕ)) → List ℕ → List ℕ
shown_in None masked = masked
shown_in (Some bytes) masked = bytes.now

-- `MasksMore old masked bytes new longer`: the lexer `old`, after a text whose line is masked as
-- `masked`, reads `bytes`. It is then `new`, and the line is masked as `longer`.
abbrev pub MasksMore : Lexer → List ℕ → List ℕ → Lexer → List ℕ → Type 0
MasksMore old masked bytes new longer =
    (n : ℕ) → (text : List ℕ) → Masks n text (lex_state_of old.state) old.white masked →
    Masks n (text ++ bytes) (lex_state_of new.state) new.white longer

-- `MasksContent old content new masked`: the lexer `old` reads the content of a line. It is then
-- `new`, and the content is masked as `masked`.
abbrev pub MasksContent : Lexer → List ℕ → Lexer → List ℕ → Type 0
MasksContent old content new masked =
    (text : List ℕ) → LexesTo text (lex_state_of old.state) old.white →
    Masks (length text) (text ++ content) (lex_state_of new.state) new.white masked
