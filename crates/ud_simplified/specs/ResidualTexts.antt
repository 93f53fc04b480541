-- Residual texts: the text of a condition without the tokens of its removed operands.
--
--   left_cells flags cells   the cells of the text of a condition that are left by these flags of
--                            its tokens (`keeps` of Residuals)
--   simplified_cells cells   the cells that are left, or the text itself if it must stay
--
-- White space after an operand belongs to the token after it, other white space to the token (or
-- keyword) before it. It is removed with that token, but stays if it has a comment. So each comment
-- stays, and nothing is added or moved.
--
-- The text stays if it isn't understood, if it is decided, or if it has a quote: without the quote,
-- the text after it could be a comment. It also stays if the rest would be decided, would begin
-- with a word byte next to the keyword, or wouldn't be read as the tokens that are left.
--
-- Example: with A undefined, ` A || X // c` and ` X || A // c` both become ` X // c`.
use Rattle.std.specs.Prelude.{ℕ, ◌-◌, List, [], ◌∷◌, ◌++◌, length, map, take, drop, Bool, true}
use Rattle.std.specs.Prelude.{false, not, ◌&&◌, ◌||◌, if◌then◌else◌, Option, Some, None, bytes_eq}
use Rattle.std.specs.Prelude.{codes}
use Rattle.std.specs.List.{list_any}
use Rattle.ud_model.specs.text.Bytes.{is_word_byte, skip_white, are_white}
use Rattle.ud_model.specs.text.Lexemes.{LexemeKind, block_comment, line_comment, literal, single}
use Rattle.ud_model.specs.text.Lexemes.{Cell, shown}
use Rattle.ud_model.specs.conditions.Table.{Argument}
use Rattle.ud_model.specs.conditions.Tokens.{Token, number, name, defined, operator, opening}
use Rattle.ud_model.specs.conditions.Tokens.{closing, NextToken, at_end, unreadable, found}
use Rattle.ud_model.specs.conditions.Tokens.{next_token}
use Rattle.ud_model.specs.conditions.Expressions.{Expression, spelling}
use Rattle.ud_model.specs.conditions.Parsing.{tokens_of, expression_of}
use Rattle.ud_model.specs.conditions.Conditions.{Rules, tree_cond}
use Rattle.ud_model.specs.aids.Residuals.{is_unknown, residual, is_undecided, keeps}
use Rattle.ud_model.specs.declared.operator.Operator.{Operator}
use Rattle.ud_model.specs.declared.operator.Operator.TheVariants.{Or, And, BitOr, BitXor, BitAnd}
use Rattle.ud_model.specs.declared.operator.Operator.TheVariants.{Equal, NotEqual, Less, LessEqual}
use Rattle.ud_model.specs.declared.operator.Operator.TheVariants.{Greater, GreaterEqual, Plus}
use Rattle.ud_model.specs.declared.operator.Operator.TheVariants.{Minus, Times, Over, Remainder}
use Rattle.ud_model.specs.declared.operator.Operator.TheVariants.{Not, Complement}

-- `ends_operand t`: an operand ends with the token `t`, so an operator or the end follows.
abbrev pub ends_operand : Token → Bool
ends_operand (number w) = true
ends_operand (name n arguments) = true
ends_operand closing = true
ends_operand _ = false

-- `gap_left stays gap`: the white space `gap` if `stays` or if a comment is in it, else nothing.
abbrev pub gap_left : Bool → List Cell → List Cell
gap_left stays gap = if stays || not (are_white (map (λ (c : Cell). c.byte) gap)) then gap else []

-- `cells_before rest cells`: the cells whose text goes on with `rest`.
abbrev pub cells_before : List ℕ → List Cell → List Cell
cells_before rest cells = take (length cells - length rest) cells

-- `cells_after rest cells`: the cells of `rest`, which ends their text.
abbrev pub cells_after : List ℕ → List Cell → List Cell
cells_after rest cells = drop (length cells - length rest) cells

-- `token_left f further rest o cells`: the first token of `cells`, if `f`, and the part of the text
-- `rest` that `further` leaves. The token ends an operand if `o`.
abbrev pub token_left : Bool → (Bool → List Cell → List Cell) → List ℕ → Bool → List Cell →
    List Cell
token_left f further rest o cells =
    (if f then cells_before rest cells else []) ++ further o (cells_after rest cells)

-- `left_by prev operand f further cells next`: the part of `cells` that is left, if their first
-- token is `next`. The token stays if `f`. The token before it stayed if `prev`, and ended an
-- operand if `operand`. `further` gives the part that is left of the rest.
abbrev pub left_by : Bool → Bool → Bool → (Bool → List Cell → List Cell) → List Cell → NextToken →
    List Cell
left_by prev operand f further cells at_end = cells
left_by prev operand f further cells unreadable = cells
left_by prev operand f further cells (found t rest) =
    gap_left (if operand then f else prev) (cells_before (skip_white (map shown cells)) cells) ++
    token_left f further rest (ends_operand t) (cells_after (skip_white (map shown cells)) cells)

-- `left_from prev operand flags cells`: the part of `cells` that is left by the tokens' flags.
abbrev pub left_from : Bool → Bool → List Bool → List Cell → List Cell
left_from prev operand [] cells = cells
left_from prev operand (f ∷ flags) cells =
    left_by prev operand f (λ o c. left_from f o flags c) cells (next_token (map shown cells))

-- `left_cells flags cells`: the part that is left of the text `cells` after a keyword.
abbrev pub left_cells : List Bool → List Cell → List Cell
left_cells flags cells = left_from true false flags cells

-- `operator_bytes o`: the bytes of an operator.
abbrev pub operator_bytes : Operator → List ℕ
operator_bytes Or = codes "||"
operator_bytes And = codes "&&"
operator_bytes BitOr = codes "|"
operator_bytes BitXor = codes "^"
operator_bytes BitAnd = codes "&"
operator_bytes Equal = codes "=="
operator_bytes NotEqual = codes "!="
operator_bytes Less = codes "<"
operator_bytes LessEqual = codes "<="
operator_bytes Greater = codes ">"
operator_bytes GreaterEqual = codes ">="
operator_bytes Plus = codes "+"
operator_bytes Minus = codes "-"
operator_bytes Times = codes "*"
operator_bytes Over = codes "/"
operator_bytes Remainder = codes "%"
operator_bytes Not = codes "!"
operator_bytes Complement = codes "~"

-- `same_flag a b`: both flags are true, or neither is.
abbrev pub same_flag : Bool → Bool → Bool
same_flag true b = b
same_flag false b = not b

-- `same_token t u`: the tokens are the same.
abbrev pub same_token : Token → Token → Bool
same_token (number w) (number v) = bytes_eq w v
same_token (name n a) (name m b) = bytes_eq n m && same_flag a b
same_token defined defined = true
same_token (operator o) (operator p) = bytes_eq (operator_bytes o) (operator_bytes p)
same_token opening opening = true
same_token closing closing = true
same_token _ _ = false

-- `same_tokens ts us`: the lists have the same tokens.
abbrev pub same_tokens : List Token → List Token → Bool
same_tokens [] [] = true
same_tokens (t ∷ ts) (u ∷ us) = same_token t u && same_tokens ts us
same_tokens [] (u ∷ us) = false
same_tokens (t ∷ ts) [] = false

-- `are_tokens found ts`: exactly these tokens were found.
abbrev pub are_tokens : Option (List Token) → List Token → Bool
are_tokens None ts = false
are_tokens (Some us) ts = same_tokens us ts

-- `is_literal c`: the cell lies in a string or a character constant.
abbrev pub is_literal : Cell → Bool
is_literal c = literal_kind c.kind
  where
    literal_kind : LexemeKind → Bool
    literal_kind literal = true
    literal_kind block_comment = false
    literal_kind line_comment = false
    literal_kind single = false

-- `begins_word cells`: the text begins with a word byte.
abbrev pub begins_word : List Cell → Bool
begins_word [] = false
begins_word (c ∷ cells) = is_word_byte (shown c)

module _ (table : List Argument) (rules : Rules) where
  -- `may_go e cells`: operands of the unknown condition `e` may be removed from its text `cells`.
  abbrev pub may_go : Expression → List Cell → Bool
  may_go e cells = is_unknown (tree_cond e table rules) &&
      is_undecided table rules (residual table rules e) && not (list_any is_literal cells)

  -- `is_read e left`: `left` begins no word, and has the tokens of the residual of the tree `e`.
  abbrev pub is_read : Expression → List Cell → Bool
  is_read e left = not (begins_word left) &&
      are_tokens (tokens_of (map shown left)) (spelling (residual table rules e).tree)

  -- `simplified_tree e cells`: the text `cells` of the tree `e` without the operands that are
  -- removed.
  abbrev pub simplified_tree : Expression → List Cell → List Cell
  simplified_tree e cells =
      if may_go e cells && is_read e (left_cells (keeps table rules e) cells)
      then left_cells (keeps table rules e) cells else cells

  -- `simplified_by tree cells`: the text without these operands, or the text itself if it has no
  -- tree.
  abbrev pub simplified_by : Option Expression → List Cell → List Cell
  simplified_by None cells = cells
  simplified_by (Some e) cells = simplified_tree e cells

  -- `simplified_cells cells`: the text `cells` after the keyword of an `#if` or `#elif` without the
  -- operands that are removed.
  unfoldable pub simplified_cells : List Cell → List Cell
  simplified_cells cells = simplified_by (expression_of (map shown cells)) cells
