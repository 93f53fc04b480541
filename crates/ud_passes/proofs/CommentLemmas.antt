-- Comments: where the text of a comment ends, and how it is masked.
use Rattle.std.proofs.Common.{◌≡◌, ℕ, suc, ◌+◌, ◌<◌, List, [], ◌++◌, length, take, drop, map, Bool}
use Rattle.std.proofs.Common.{true, false, if◌then◌else◌, sym, ◌∙◌, ap, arith}
use Rattle.std.specs.Prelude.{codes, nat_eq}
use Rattle.std.specs.List.{starts_with}
use Rattle.std.proofs.lemmas.List.{drop_more, map-append, length-map}
use Rattle.ud_model.specs.text.Lexemes.{block_comment, Cell, shown, cells_in}
use Rattle.ud_model.specs.text.Scans.{Scan}
use Rattle.ud_model.specs.text.Scanning.{content_cells, scan_after}
use Rattle.ud_model.specs.declared.kind.Mode.TheVariants.{C}
use Rattle.ud_model.proofs.text.ScanBytes.{masked-content_cells}
use Rattle.ud_simplified.specs.CommentTexts.{close_at, has_lone_comment, text_at, text_len, text_line, cells_around, comment_cells}
use Rattle.ud_simplified.proofs.SimplifiedLines.{byte_of, bytes-comment_cells}

-- Another byte comes before the end of the comment.
pub close_later : (bytes : List ℕ) (n : ℕ) → n < length bytes → starts_with nat_eq (drop n bytes) (codes "*/") ≡ false → close_at (drop n bytes) ≡ suc (close_at (drop (n + 1) bytes))
close_later bytes n lt e = let d = drop_more bytes n 0 lt in grind (arith, d)

-- It ends here.
pub close_here : (bytes : List ℕ) (n : ℕ) → n < length bytes → starts_with nat_eq (drop n bytes) (codes "*/") ≡ true → close_at (drop n bytes) ≡ 0
close_here bytes n lt e = grind (arith, drop_more)

-- The masked text between bytes that are as in a comment.
module _ (n m : ℕ) (bytes : List ℕ) (s : Scan) (read : s ≡ scan_after [] C (text_line (take m (drop n bytes)))) where
  abbrev pub front : List Cell
  front = cells_in block_comment (take n bytes)

  abbrev pub back : List Cell
  back = cells_in block_comment (drop m (drop n bytes))

  abbrev text : List Cell
  text = content_cells [] (text_line (take m (drop n bytes)))

  cells_by : (b : Bool) → s.joins_after ≡ b → cells_around n m bytes ≡ (if b then cells_in block_comment bytes else (front ++ text) ++ back)
  cells_by b e = ap (λ (x : Bool). if x then cells_in block_comment bytes else (front ++ text) ++ back) (ap (λ (x : Scan). x.joins_after) (sym read) ∙ e)

  -- The text leaves a comment open.
  pub shown_open : s.joins_after ≡ true → map shown (cells_around n m bytes) ≡ map shown (cells_in block_comment bytes)
  shown_open e = ap (map shown) (cells_by true e)

  -- It leaves none open.
  pub shown_around : s.joins_after ≡ false → map shown (cells_around n m bytes) ≡ map shown front ++ s.masked ++ map shown back
  shown_around e = ap (map shown) (cells_by false e) ∙ map-append shown (front ++ text) back
      ∙ ap (λ (x : List ℕ). x ++ map shown back) (map-append shown front text ∙ ap (λ (x : List ℕ). map shown front ++ x) (sym (masked-content_cells [] (text_line (take m (drop n bytes)))) ∙ ap (λ (x : Scan). x.masked) (sym read)))

-- One comment is alone, or not.
pub comment_by : (bytes : List ℕ) (b : Bool) → has_lone_comment bytes ≡ b → comment_cells bytes ≡ (if b then cells_around (text_at bytes) (text_len bytes) bytes else cells_in block_comment bytes)
unfolding comment_cells
comment_by bytes b e = ap (λ (x : Bool). if x then cells_around (text_at bytes) (text_len bytes) bytes else cells_in block_comment bytes) e

-- Each byte has its masked form.
pub shown_length : (bytes : List ℕ) → length (map shown (comment_cells bytes)) ≡ length bytes
shown_length bytes = let cells : List Cell = comment_cells bytes in
    length-map cells shown ∙ sym (length-map cells byte_of) ∙ ap (λ (x : List ℕ). length x) (bytes-comment_cells bytes)
