-- BulkStates: the state after bytes of whole lines, newlines included, read a byte at a time.
-- C11 5.1.1.2, phases 2 and 3.
--
--   BulkState                      the lexer's state, whether the logical line is white, and
--                                  whether a newline next is spliced
--   next_bulk_state s b            the state after one more byte
--   bulk_state_after s bytes       the state after these bytes
--   is_other_word bytes            the first word, after white space, can't be a keyword
--   HasNoStop s bytes              read from `s`, no splice matters and no `#` may belong to a
--                                  directive
--   NoNewlineInBlock s bytes       read from `s`, no newline is in a block comment
--   line_state state white         the state at the beginning of a line
--   can_start state                whole lines can be read from there
--   scanner_state_at state white   the scanner's state for a line that begins there
--   Skipped start bytes now        the bytes are whole lines, all text, leading from `start` to
--                                  `now`
--
-- `LexStates` defines the state after a spliced text; these definitions take the bytes as they are
-- in their lines. Both agree as long as no byte stops the reading: neither a carriage return before
-- a newline nor a splice in a block comment changes state or whiteness. A splice that would change
-- them is a stop. Lines that such a splice joins are skipped one after another: outside comments
-- and literals, on a logical line that isn't white, the next line begins in the state that the text
-- ends in.
--
-- Example: `x /* c` with its newline leads from `code_state true` without a stop to
-- `block_state false`.
use Rattle.std.specs.Prelude.{◌≡◌, ℕ, ◌==◌, List, [], ◌∷◌, Bool, true, false, not, ◌&&◌, ◌||◌}
use Rattle.std.specs.Prelude.{if◌then◌else◌}
use Rattle.ud_model.specs.text.Bytes.{newline, carriage_return, backslash, number_sign, skip_white}
use Rattle.ud_model.specs.sections.Directives.{is_no_keyword}
use Rattle.ud_model.specs.text.Scanning.{is_block}
use Rattle.ud_model.specs.aids.LexStates.{LexState, in_text, at_slash, in_block, at_star, in_line}
use Rattle.ud_model.specs.aids.LexStates.{in_literal, at_backslash, next_state, stays_white}
use Rattle.ud_model.specs.aids.LexStates.{kind_in_state}
use Rattle.ud_model.specs.declared.kind.Mode.TheVariants.{C}
use Rattle.ud_text.specs.scan.ScannerState.{ScannerState}
use Rattle.ud_text.specs.bulk.BulkScanning.{AreWholeLines, SkipsText}

-- `BulkState`: the state after bytes of whole lines.
pub record BulkState : Type 0 where
  -- the lexer's state, and whether the last logical line is white except for a slash at the end.
  pub state : LexState
  pub white : Bool
  -- a newline next would belong to a splice that matters.
  pub spliced : Bool

-- `ignores_splice state`: a splice here doesn't matter: the state stays as it is, with or without
-- the splice's bytes.
abbrev pub ignores_splice : LexState → Bool
ignores_splice in_block = true
ignores_splice in_text = false
ignores_splice at_slash = false
ignores_splice at_star = false
ignores_splice in_line = false
ignores_splice (in_literal quote) = false
ignores_splice (at_backslash quote) = false

-- `shows_hash state`: a `#` here may be the first byte shown of its line.
abbrev pub shows_hash : LexState → Bool
shows_hash in_text = true
shows_hash at_slash = false
shows_hash in_block = false
shows_hash at_star = false
shows_hash in_line = false
shows_hash (in_literal quote) = true
shows_hash (at_backslash quote) = true

-- `spliced_after state spliced b`: a newline after `b` belongs to a splice that matters. `state` is
-- the lexer's state before `b`. `spliced`: a newline in place of `b` would belong to such a splice.
abbrev pub spliced_after : LexState → Bool → ℕ → Bool
spliced_after state spliced b =
    if b == backslash then not (ignores_splice state)
    else if b == carriage_return then spliced
    else false

-- `next_bulk_state s b`: the state after one more byte.
abbrev pub next_bulk_state : BulkState → ℕ → BulkState
next_bulk_state s b = record {
  state = next_state s.state b;
  white = stays_white s.state s.white b;
  spliced = spliced_after s.state s.spliced b;
}

-- `bulk_state_after s bytes`: the state after these bytes.
abbrev pub bulk_state_after : BulkState → List ℕ → BulkState
bulk_state_after s [] = s
bulk_state_after s (b ∷ bytes) = bulk_state_after (next_bulk_state s b) bytes

-- `starts_with_no_keyword bytes`: a word other than a keyword comes first.
abbrev pub starts_with_no_keyword : List ℕ → Bool
starts_with_no_keyword [] = false
starts_with_no_keyword (a ∷ []) = false
starts_with_no_keyword (a ∷ b ∷ bytes) = is_no_keyword a b

-- `is_other_word bytes`: a word other than a keyword comes first, after white space.
abbrev pub is_other_word : List ℕ → Bool
is_other_word bytes = starts_with_no_keyword (skip_white bytes)

-- `stops_bulk s b rest`: `b`, before `rest`, is a newline of a splice that matters, or a `#` that
-- may belong to a directive.
abbrev pub stops_bulk : BulkState → ℕ → List ℕ → Bool
stops_bulk s b rest =
    if b == newline then s.spliced
    else if b == number_sign then shows_hash s.state && s.white && not (is_other_word rest)
    else false

-- `HasNoStop s bytes`: read from `s`, no byte stops the reading.
abbrev pub HasNoStop : BulkState → List ℕ → Type 0
HasNoStop s [] = Unit {0}
HasNoStop s (b ∷ bytes) = (stops_bulk s b bytes ≡ false) × HasNoStop (next_bulk_state s b) bytes

-- `NoNewlineInBlock s bytes`: read from `s`, no newline is in a block comment.
abbrev pub NoNewlineInBlock : BulkState → List ℕ → Type 0
NoNewlineInBlock s [] = Unit {0}
NoNewlineInBlock s (b ∷ bytes) =
    (((b == newline) && is_block (kind_in_state s.state)) ≡ false) ×
    NoNewlineInBlock (next_bulk_state s b) bytes

-- `line_state state white`: the state at the beginning of a line.
abbrev pub line_state : LexState → Bool → BulkState
line_state state white = record { state = state; white = white; spliced = false }

-- `code_state white`: the state outside comments and literals.
abbrev pub code_state : Bool → BulkState
code_state white = line_state in_text white

-- `block_state white`: the state in a block comment. `white`: the logical line is white before it.
abbrev pub block_state : Bool → BulkState
block_state white = line_state in_block white

-- `inside_state starred white`: as `block_state`, but after a star if `starred`.
abbrev pub inside_state : Bool → Bool → BulkState
inside_state starred white = record {
  state = if starred then at_star
      else in_block;
  white = white;
  spliced = false;
}

-- `can_start state`: whole lines can be read from here: outside comments and literals, or in a
-- block comment.
abbrev pub can_start : LexState → Bool
can_start in_text = true
can_start in_block = true
can_start at_slash = false
can_start at_star = false
can_start in_line = false
can_start (in_literal quote) = false
can_start (at_backslash quote) = false

-- `continues_line state white`: the line before joins one that begins so: a block comment
-- continues, or a logical line that isn't white.
abbrev pub continues_line : LexState → Bool → Bool
continues_line state white = is_block (kind_in_state state) || not white

-- `scanner_state_at state white`: the scanner's state for a line that begins so.
abbrev pub scanner_state_at : LexState → Bool → ScannerState
scanner_state_at state white =
    record { state = state; white = white; joins = continues_line state white }

-- `AtLine s`: `s` is a state at the beginning of a line.
pub record AtLine (s : BulkState) : Type 0 where
  pub is : s ≡ line_state s.state s.white
  pub starts : can_start s.state ≡ true

-- `Skipped start bytes now`: the bytes are whole lines, all text in C mode, and lead from `start`
-- to `now`.
pub record Skipped (start : BulkState) (bytes : List ℕ) (now : BulkState) : Type 0 where
  pub ends : AreWholeLines bytes
  pub skips : SkipsText C (scanner_state_at start.state start.white)
      (scanner_state_at now.state now.white) bytes
  pub at_line : AtLine now
