-- Progress: what the program knows while it skips whole lines.
--
-- Two positions advance: `at`, up to which the bytes are read, and `line`, the last beginning of a
-- line with a known state. `line` may be many lines behind, since every later line begins a logical
-- line outside comments. It catches up when the reading stops, a block comment begins or a splice
-- joins lines.
--
-- Example: in `a` newline `b /* c` with `at` before the `/`, `line` may be 0 or 2.
use Rattle.std.specs.Prelude.{◌≡◌, ◌≤◌, ℕ, ◌+◌, List, ◌++◌, length, take, Bool, Result, MatchResult}
use Rattle.ud_model.specs.aids.LexStates.{in_text}
use Rattle.ud_text.specs.bulk.BulkStates.{BulkState, bulk_state_after, HasNoStop, NoNewlineInBlock}
use Rattle.ud_text.specs.bulk.BulkStates.{line_state, code_state, block_state, inside_state}
use Rattle.ud_text.specs.bulk.BulkStates.{Skipped}
use Rattle.ud_text.specs.bulk.BulkLexemes.{NoComment}
use Rattle.ud_text.specs.scan.LexerViews.{lex_state_of}
use Rattle.ud_text.specs.declared.bulk.Progress.{Progress}
use Rattle.ud_text.specs.declared.bulk.LineStart.{LineStart}
use Rattle.ud_text.specs.declared.scan.lexer.Lexer.{Lexer}

-- `ReadTo start bytes line kept at now`: the bytes before `at` lead from `start` to `now`. The
-- lines before `line` are skipped, and lead to `kept`.
pub record ReadTo (start : BulkState) (bytes : List ℕ) (line : ℕ) (kept : BulkState) (at : ℕ)
    (now : BulkState) : Type 0 where
  -- the lines before `line`, the bytes from there up to `at`, and the others.
  pub prefix : List ℕ
  pub mid : List ℕ
  pub rest : List ℕ
  pub is : bytes ≡ prefix ++ (mid ++ rest)
  pub line_is : line ≡ length prefix
  pub at_is : at ≡ length prefix + length mid
  pub passed : Skipped start prefix kept
  pub quiet : HasNoStop kept mid
  pub no_newline : NoNewlineInBlock kept mid
  pub leads : bulk_state_after kept mid ≡ now

-- `ReadOutside start bytes line kept base begins at`: as `ReadTo`, outside comments and literals.
-- No comment begins from `base` on, and `begins`: the logical line is white there.
pub record ReadOutside (start : BulkState) (bytes : List ℕ) (line : ℕ) (kept : BulkState) (base : ℕ)
    (begins : Bool) (at : ℕ) : Type 0 where
  pub now_white : Bool
  pub so_far : ReadTo start bytes line kept at (code_state now_white)
  -- the bytes from `line` up to `base`, and from there up to `at`.
  pub before : List ℕ
  pub plain : List ℕ
  pub mid_is : so_far.mid ≡ before ++ plain
  pub base_is : base ≡ length so_far.prefix + length before
  pub base_leads : bulk_state_after kept before ≡ code_state begins
  pub no_comment : NoComment in_text plain

-- `bulk_state_of lexer`: the state at the beginning of a line, if the lexer is there.
abbrev pub bulk_state_of : Lexer → BulkState
bulk_state_of lexer = line_state (lex_state_of lexer.state) lexer.white

-- `InOrder p bytes`: the positions of `p` are in order, and lie within the bytes.
abbrev pub InOrder : Progress → List ℕ → Type 0
InOrder p bytes = (p.line.at ≤ p.at) × (p.base ≤ p.at) × (p.at ≤ length bytes)

-- `ReadBy start bytes p`: the bytes are read up to `p`.
abbrev pub ReadBy : BulkState → List ℕ → Progress → Type 0
ReadBy start bytes p = ReadOutside start bytes p.line.at (bulk_state_of p.line.lexer) p.base
    p.begins p.at

-- `SkippedBy start bytes line`: the lines before `line` are skipped.
abbrev pub SkippedBy : BulkState → List ℕ → LineStart → Type 0
SkippedBy start bytes line = Skipped start (take line.at bytes) (bulk_state_of line.lexer)

-- `InBlock start bytes line at white`: the bytes before `at` lead into a block comment, and the
-- lines before `line` are skipped. `white`: the logical line is white before the comment.
abbrev pub InBlock : BulkState → List ℕ → LineStart → ℕ → Bool → Type 0
InBlock start bytes line at white =
    (starred : Bool) × ReadTo start bytes line.at (bulk_state_of line.lexer) at
    (inside_state starred white)

-- `LeavesBlock bytes line at white result`: from `at`, which lies in a block comment, a step reads
-- on, or stops at the beginning of a line. `white`: the logical line is white before the comment.
abbrev pub LeavesBlock : List ℕ → LineStart → ℕ → Bool → Result Progress LineStart → Type 0
LeavesBlock bytes line at white result =
    (start : BulkState) →
    ReadTo start bytes line.at (bulk_state_of line.lexer) at (block_state white) →
    MatchResult result (λ q. ReadBy start bytes q) (λ stop. SkippedBy start bytes stop)

-- `ReadsOnOrStops bytes p result`: a step from `p` reads on, or stops at the beginning of a line.
abbrev pub ReadsOnOrStops : List ℕ → Progress → Result Progress LineStart → Type 0
ReadsOnOrStops bytes p result =
    (start : BulkState) → ReadBy start bytes p →
    MatchResult result (λ q. ReadBy start bytes q) (λ line. SkippedBy start bytes line)
