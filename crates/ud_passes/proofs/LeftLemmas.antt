-- Left cells: when the rest of a condition's text takes its place.
use Rattle.std.proofs.Common.{◌≡◌, ℕ, List, map, Bool, true, false, Some, None, arith}
use Rattle.std.specs.List.{list_any}
use Rattle.ud_model.specs.text.Lexemes.{Cell, shown}
use Rattle.ud_model.specs.conditions.Table.{Argument}
use Rattle.ud_model.specs.conditions.Expressions.{Expression}
use Rattle.ud_model.specs.conditions.Conditions.{Rules, tree_cond, expression_cond}
use Rattle.ud_model.specs.aids.Residuals.{residual, is_unknown, keeps}
use Rattle.ud_simplified.specs.ResidualTexts.{left_cells, is_literal, may_go, is_read, simplified_tree, simplified_cells}
use Rattle.ud_model.specs.conditions.Parsing.{expression_of}
use Rattle.ud_simplified.proofs.ResidualRead.{written_left, untouched}
use Rattle.ud_passes.specs.pruning.Cells.{AreCells, stands, IsFound}
use Rattle.ud_passes.specs.declared.pruning.cells.LeftText.{LeftText}

module _ (table : List Argument) (rules : Rules) where
  cond_of : (text : List ℕ) (e : Expression) → expression_of text ≡ Some e → expression_cond text table rules ≡ tree_cond e table rules
  unfolding expression_cond
  cond_of text e p = grind arith

  -- The text is that of a tree, and stays or not.
  by_tree : (cells : List Cell) (e : Expression) → expression_of (map shown cells) ≡ Some e → simplified_cells table rules cells ≡ simplified_tree table rules e cells
  unfolding simplified_cells
  by_tree cells e p = grind arith

  stays : (cells : List Cell) (e : Expression) → expression_of (map shown cells) ≡ Some e → may_go table rules e cells ≡ false → simplified_cells table rules cells ≡ cells
  stays cells e p q = let all = by_tree cells e p in grind (arith, all)

  -- A text with or without a tree.
  by_option : (cells : List Cell) (P : Type 0) → (expression_of (map shown cells) ≡ None → P) → ((e : Expression) → expression_of (map shown cells) ≡ Some e → P) → P
  by_option cells P f g = grind arith

  -- A condition that is decided stays.
  pub known_stays : (cells : List Cell) → is_unknown (expression_cond (map shown cells) table rules) ≡ false → simplified_cells table rules cells ≡ cells
  known_stays cells h =
      by_option cells (simplified_cells table rules cells ≡ cells) (untouched table rules cells)
      (λ e p. let t = cond_of (map shown cells) e p in stays cells e p (grind (arith, t)))

  -- A condition whose residual is decided stays.
  pub settled_stays : (cells : List Cell) → ((e : Expression) → expression_of (map shown cells) ≡ Some e → is_unknown (residual table rules e).cond ≡ false) → simplified_cells table rules cells ≡ cells
  settled_stays cells h =
      by_option cells (simplified_cells table rules cells ≡ cells) (untouched table rules cells) (λ
      e p. stays cells e p (grind (arith, h e p)))

  -- A text with a quote stays.
  pub quote_stays : (cells : List Cell) → list_any is_literal cells ≡ true → simplified_cells table rules cells ≡ cells
  quote_stays cells h =
      by_option cells (simplified_cells table rules cells ≡ cells) (untouched table rules cells) (λ
      e p. stays cells e p (grind (arith, h)))

  -- The rest takes the text's place exactly if it is read so, and unknown.
  module _ (cells : List Cell) (e : Expression) (p : expression_of (map shown cells) ≡ Some e) (unknown : is_unknown (expression_cond (map shown cells) table rules) ≡ true)
      (left_unknown : is_unknown (residual table rules e).cond ≡ true) (no_quote : list_any is_literal cells ≡ false) where
    abbrev left : List Cell
    left = left_cells (keeps table rules e) cells

    rest_cond : is_read table rules e left ≡ true → expression_cond (map shown left) table rules ≡ tree_cond (residual table rules e).tree table rules
    rest_cond q = grind (arith, cond_of, written_left)

    goes : is_read table rules e left ≡ true → is_unknown (expression_cond (map shown left) table rules) ≡ true → simplified_cells table rules cells ≡ left
    goes q r =
        let a = cond_of (map shown cells) e p in let b = rest_cond q in let c = by_tree cells e p in
        grind (arith, a, b, c)

    misread : is_read table rules e left ≡ false → simplified_cells table rules cells ≡ cells
    misread q = let all = by_tree cells e p in grind (arith, all)

    decided : is_read table rules e left ≡ true → is_unknown (expression_cond (map shown left) table rules) ≡ false → simplified_cells table rules cells ≡ cells
    decided q r = let b = rest_cond q in stays cells e p (grind (arith, b))

    -- The bytes of what is left.
    pub found_or_stays : (b : Bool) (text : LeftText) → AreCells left text.bytes.items text.shown.items → b ≡ stands table rules e left → IsFound table rules cells b text
    found_or_stays b text a f = grind (arith, goes, decided, misread)
