-- BulkLexemes: runs of bytes that the program reads in one go, and what its searches find.
--
--   is_significant b              outside comments and literals `b` may matter
--   NoHash bytes                  no byte is a `#`
--   is_star_pair a b              a star before a slash or a backslash
--   NoStarPair bytes              the bytes have no star pair
--   LastLineStarts bytes n        the last line of the bytes begins after the first `n` of them
--   CodeLexeme white bytes        the bytes lead from outside comments and literals to outside
--                                 them, and have no comment
--   LineLexeme white bytes        the bytes lead from outside them to the beginning of a line
--   may_splice a b                a newline after these two bytes may end a splice
--   IsSplice bytes                a backslash and the ending of a line
--   IsWhiteAfter bytes begins v   `v`: the logical line is white after the bytes
--
-- Each of these runs except a splice is read without a stop, and none has a newline in a block
-- comment (`BulkStates.HasNoStop`, `BulkStates.NoNewlineInBlock`).
--
-- Example: `"a\"b"` is a `CodeLexeme`, and `// a` with its newline a `LineLexeme`.
use Rattle.std.specs.Prelude.{◌≡◌, ◌≤◌, ℕ, ◌==◌, List, [], ◌∷◌, ◌++◌, length, take, drop, Bool}
use Rattle.std.specs.Prelude.{true, false, ◌&&◌, ◌||◌}
use Rattle.ud_model.specs.text.Bytes.{newline, carriage_return, backslash, number_sign, slash, star}
use Rattle.ud_model.specs.text.Bytes.{is_quote, is_white, are_white}
use Rattle.ud_model.specs.text.Lines.{NoNewline}
use Rattle.ud_model.specs.aids.LexStates.{LexState, in_text, next_state, opens_comment}
use Rattle.ud_text.specs.bulk.BulkStates.{bulk_state_after, HasNoStop, NoNewlineInBlock, code_state}

-- `is_significant b`: outside comments and literals `b` may matter: `/`, a quote, a backslash or
-- `#`.
abbrev pub is_significant : ℕ → Bool
is_significant b = (b == slash) || is_quote b || (b == backslash) || (b == number_sign)

-- `NoSignificant bytes`: none of the bytes is significant.
abbrev pub NoSignificant : List ℕ → Type 0
NoSignificant [] = Unit {0}
NoSignificant (b ∷ bytes) = (is_significant b ≡ false) × NoSignificant bytes

-- `NoHash bytes`: none of the bytes is a `#`.
abbrev pub NoHash : List ℕ → Type 0
NoHash [] = Unit {0}
NoHash (b ∷ bytes) = ((b == number_sign) ≡ false) × NoHash bytes

-- `is_star_pair a b`: a star before a slash or a backslash.
abbrev pub is_star_pair : ℕ → ℕ → Bool
is_star_pair a b = (a == star) && ((b == slash) || (b == backslash))

-- `NoStarPair bytes`: no two neighbours are a star pair.
abbrev pub NoStarPair : List ℕ → Type 0
NoStarPair [] = Unit {0}
NoStarPair (a ∷ []) = Unit {0}
NoStarPair (a ∷ b ∷ bytes) = (is_star_pair a b ≡ false) × NoStarPair (b ∷ bytes)

-- `IsLineStart bytes`: a line begins after `bytes`, which end with a newline or are empty.
pub data IsLineStart : List ℕ → Type 0 where
  at_start : IsLineStart []
  after_newline : (prefix : List ℕ) → IsLineStart (prefix ++ newline ∷ [])

-- `LastLineStarts bytes n`: the last line of `bytes` begins after the first `n` of them, or at the
-- end if the bytes end a line.
pub record LastLineStarts (bytes : List ℕ) (n : ℕ) : Type 0 where
  pub within : n ≤ length bytes
  pub begins : IsLineStart (take n bytes)
  pub one_line : NoNewline (drop n bytes)

-- `NoComment w bytes`: read from the lexer state `w`, no slash in `bytes` begins a comment.
abbrev pub NoComment : LexState → List ℕ → Type 0
NoComment w [] = Unit {0}
NoComment w (b ∷ bytes) = (opens_comment w b ≡ false) × NoComment (next_state w b) bytes

-- `CodeLexeme white bytes`: the bytes lead from outside comments and literals to outside them, and
-- have no comment. `white`: the logical line is white before them.
pub record CodeLexeme (white : Bool) (bytes : List ℕ) : Type 0 where
  pub now_white : Bool
  pub leads : bulk_state_after (code_state white) bytes ≡ code_state now_white
  pub quiet : HasNoStop (code_state white) bytes
  pub no_newline : NoNewlineInBlock (code_state white) bytes
  pub no_comment : NoComment in_text bytes

-- `LineLexeme white bytes`: the bytes lead from outside comments and literals to the beginning of a
-- logical line. `white`: the logical line is white before them.
pub record LineLexeme (white : Bool) (bytes : List ℕ) : Type 0 where
  pub leads : bulk_state_after (code_state white) bytes ≡ code_state true
  pub quiet : HasNoStop (code_state white) bytes
  pub no_newline : NoNewlineInBlock (code_state white) bytes

-- `may_splice a b`: a newline directly after `a` and `b` may end a splice.
abbrev pub may_splice : ℕ → ℕ → Bool
may_splice a b = (b == backslash) ||
    ((b == carriage_return) && ((a == backslash) || (a == carriage_return)))

-- `IsSplice bytes`: a backslash and the ending that it deletes (C11 5.1.1.2, phase 2).
pub data IsSplice : List ℕ → Type 0 where
  splice_newline : IsSplice (backslash ∷ newline ∷ [])
  splice_return_feed : IsSplice (backslash ∷ carriage_return ∷ newline ∷ [])

-- `IsWhiteAfter bytes begins v`: by looking back, `v` is whether the logical line is white after
-- `bytes`, which have no comment. If they are all white, `v` is `begins`, as before them.
pub data IsWhiteAfter (bytes : List ℕ) (begins : Bool) : Bool → Type 0 where
  all_white : are_white bytes ≡ true → IsWhiteAfter bytes begins begins
  new_line : (prefix rest : List ℕ) → bytes ≡ prefix ++ newline ∷ rest → are_white rest ≡ true →
      IsWhiteAfter bytes begins true
  black : (prefix : List ℕ) (b : ℕ) (rest : List ℕ) → bytes ≡ prefix ++ b ∷ rest →
      is_white b ≡ false →
      (b == newline) ≡ false → are_white rest ≡ true → IsWhiteAfter bytes begins false
