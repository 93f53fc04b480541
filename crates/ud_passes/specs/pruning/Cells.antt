-- Cells: what the code keeps of the cells of a condition's text.
use Rattle.std.specs.Prelude.{◌≡◌, ℕ, List, ◌++◌, map, Bool, true, false, Some, ◌&&◌}
use Rattle.std.specs.List.{list_any}
use Rattle.ud_model.specs.text.Lexemes.{Cell, shown}
use Rattle.ud_model.specs.conditions.Table.{Argument}
use Rattle.ud_model.specs.conditions.Expressions.{Expression}
use Rattle.ud_model.specs.conditions.Conditions.{Rules, expression_cond}
use Rattle.ud_model.specs.aids.Residuals.{residual, is_unknown, keeps}
use Rattle.ud_simplified.specs.ResidualTexts.{left_from, is_read, is_literal, simplified_cells}
use Rattle.ud_model.specs.conditions.Parsing.{expression_of}
use Rattle.ud_model.specs.declared.cond.Cond.TheVariants.{Unknown}
use Rattle.ud_passes.specs.declared.pruning.cells.CellBytes.{CellBytes}
use Rattle.ud_passes.specs.declared.pruning.cells.LeftText.{LeftText}
use Rattle.ud_passes.specs.declared.pruning.left_texts.Place.{Place}

-- `byte_of c`: the byte of the cell `c`.
abbrev pub byte_of : Cell → ℕ
byte_of c = c.byte

-- `AreCells cells bytes masked`: the cells have these bytes, and are shown as `masked`.
pub record AreCells (cells : List Cell) (bytes masked : List ℕ) : Type 0 where
  pub bytes_are : map byte_of cells ≡ bytes
  pub shown_are : map shown cells ≡ masked

-- `SameLeft bytes masked xs more longer ys`: `bytes` and `masked`, each followed by the bytes of
-- the cells `xs`, are `more` and `longer`, each followed by the bytes of `ys`.
pub record SameLeft (bytes masked : List ℕ) (xs : List Cell) (more longer : List ℕ)
    (ys : List Cell) : Type 0 where
  pub bytes_are : bytes ++ map byte_of xs ≡ more ++ map byte_of ys
  pub shown_are : masked ++ map shown xs ≡ longer ++ map shown ys

-- `left_at p flags cells`: the rest of the cells at the place `p`, by the flags of their tokens.
abbrev pub left_at : Place → List Bool → List Cell → List Cell
left_at p flags cells = left_from p.stays p.operand flags cells

-- `LeavesAt old xs new p flags`: the text `old`, followed by the cells `xs`, is the text `new`,
-- followed by the rest of the cells at the place `p`, by the flags of their tokens.
abbrev pub LeavesAt : LeftText → List Cell → LeftText → Place → List Bool → Type 0
LeavesAt old xs new p flags =
    (rest : List Cell) × AreCells rest p.text.bytes.now p.text.shown.now ×
    SameLeft old.bytes.items old.shown.items xs new.bytes.items new.shown.items
    (left_at p flags rest)

-- `AreKept table rules e text flags`: the text is that of the tree `e`, and the flags say which of
-- its tokens are kept.
pub record AreKept (table : List Argument) (rules : Rules) (e : Expression) (text : List ℕ)
    (flags : List Bool) : Type 0 where
  pub tree_is : expression_of text ≡ Some e
  pub flags_are : flags ≡ keeps table rules e

-- `IsUnknownResidual table rules text flags`: the text has a tree whose residual is unknown and has
-- the tokens whose flag is true.
pub record IsUnknownResidual (table : List Argument) (rules : Rules) (text : List ℕ)
    (flags : List Bool) : Type 0 where
  pub tree : Expression
  pub kept : AreKept table rules tree text flags
  pub unknown : (residual table rules tree).cond ≡ Unknown

-- `stands table rules e cells`: the cells, left of a text of the tree `e`, are read as the residual
-- of `e`, and are unknown.
abbrev pub stands : List Argument → Rules → Expression → List Cell → Bool
stands table rules e cells = is_read table rules e cells &&
    is_unknown (expression_cond (map shown cells) table rules)

-- `IsFound table rules cells found left`: if found, `left` has the rest of the cells; else all of
-- them are left.
abbrev pub IsFound : List Argument → Rules → List Cell → Bool → LeftText → Type 0
IsFound table rules cells true left =
    AreCells (simplified_cells table rules cells) left.bytes.items left.shown.items
IsFound table rules cells false left = simplified_cells table rules cells ≡ cells

-- `FindsLeft table rules text found left`: if no literal is in the text, the rest of its cells was
-- found (`IsFound`), or they stay.
abbrev pub FindsLeft : List Argument → Rules → CellBytes → Bool → LeftText → Type 0
FindsLeft table rules text found left = (cells : List Cell) →
    AreCells cells text.bytes.now text.shown.now → list_any is_literal cells ≡ false →
    IsFound table rules cells found left
