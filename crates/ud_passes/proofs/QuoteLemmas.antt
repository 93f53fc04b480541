-- Quotes: a part of a line has a literal exactly if a quote is shown in it.
use Rattle.std.proofs.Common.{◌≡◌, ℕ, zero, suc, List, [], ◌∷◌, ◌++◌, length, map, take, drop, Bool}
use Rattle.std.proofs.Common.{true, false, if◌then◌else◌, refl, sym, ◌∙◌, ap, arith}
use Rattle.std.specs.List.{list_any}
use Rattle.ud_model.specs.text.Bytes.{is_quote, are_white, are_word_bytes}
use Rattle.std.proofs.lemmas.List.{map-append}
use Rattle.std.proofs.lemmas.List.Folds.{list_any-append}
use Rattle.ud_model.specs.text.Lexemes.{LexemeKind, block_comment, line_comment, literal, single, Cell, cells_in, shown, shown_as, lexeme_at, lex_from, lex}
use Rattle.ud_model.specs.text.Lines.{Line}
use Rattle.ud_model.specs.text.Scans.{Scan}
use Rattle.ud_model.specs.text.Splicing.{content, spliced_part}
use Rattle.ud_model.specs.text.Scanning.{content_cells, scan_after_run, scan_after}
use Rattle.ud_model.specs.sections.Directives.{Directive, directive, content_of}
use Rattle.ud_model.specs.conditions.Table.{Argument}
use Rattle.ud_model.specs.conditions.Conditions.{Rules}
use Rattle.ud_simplified.specs.ResidualTexts.{is_literal}
use Rattle.ud_simplified.specs.CommentTexts.{text_line, cells_around, comment_cells}
use Rattle.ud_simplified.specs.SimplifiedTexts.{keyword_end, condition_cells, is_closing, text_cells}
use Rattle.ud_model.specs.declared.kind.Mode.TheVariants.{C}
use Rattle.ud_model.proofs.text.ScanBytes.{masked-content_cells}
use Rattle.ud_model.proofs.sections.SplitLines.{directive_is}
use Rattle.ud_simplified.proofs.SimplifiedLines.{after_is}

-- 1. Cells.

-- A cell of this kind, whose lexeme begins with such a byte, is no single byte that is a quote.
abbrev IsQuiet : LexemeKind → ℕ → Type 0
IsQuiet single b = is_quote b ≡ false
IsQuiet block_comment b = Unit {0}
IsQuiet line_comment b = Unit {0}
IsQuiet literal b = Unit {0}

quiet_at : (a : ℕ) (rest : List ℕ) → IsQuiet (lexeme_at a rest).kind a
unfolding lexeme_at
quiet_at a rest = grind arith

-- Each single cell is no quote.
abbrev AreQuiet : List Cell → Type 0
AreQuiet [] = Unit {0}
AreQuiet (c ∷ cells) = IsQuiet c.kind c.byte × AreQuiet cells

-- A lexeme of this kind may go on for so many bytes.
abbrev GoesOn : LexemeKind → ℕ → Type 0
GoesOn single more = more ≡ 0
GoesOn block_comment more = Unit {0}
GoesOn line_comment more = Unit {0}
GoesOn literal more = Unit {0}

goes_on : (a : ℕ) (rest : List ℕ) → GoesOn (lexeme_at a rest).kind (lexeme_at a rest).more
unfolding lexeme_at
goes_on a rest = grind arith

quiet_from : (k : LexemeKind) (n : ℕ) (text : List ℕ) → GoesOn k n → AreQuiet (lex_from k n text)
unfolding lex_from
quiet_from k n [] g = tt
quiet_from k zero (a ∷ rest) g = (quiet_at a rest, quiet_from (lexeme_at a rest).kind (lexeme_at a rest).more rest (goes_on a rest))
quiet_from k (suc n) (a ∷ rest) g = (grind (arith, g), quiet_from k n rest (grind (arith, g)))

pub quiet_lex : (text : List ℕ) → AreQuiet (lex text)
unfolding lex
quiet_lex text = quiet_from single 0 text refl

pub quiet_drop : (n : ℕ) (cells : List Cell) → AreQuiet cells → AreQuiet (drop n cells)
quiet_drop zero cells q = q
quiet_drop (suc n) [] q = tt
quiet_drop (suc n) (c ∷ cells) q = quiet_drop n cells q.1

pub quiet_take : (n : ℕ) (cells : List Cell) → AreQuiet cells → AreQuiet (take n cells)
quiet_take zero cells q = tt
quiet_take (suc n) [] q = tt
quiet_take (suc n) (c ∷ cells) q = (q.0, quiet_take n cells q.1)

-- A literal is there where a quote is shown.
pub quote_shown : (cells : List Cell) → AreQuiet cells → list_any is_quote (map shown cells) ≡ true → list_any is_literal cells ≡ true
quote_shown [] q e = cc
quote_shown (c ∷ cells) q e = grind (arith, quote_shown cells q.1)

-- No literal is there where no quote is shown.
abbrev IsNoLiteral : LexemeKind → Type 0
IsNoLiteral literal = ⊥
IsNoLiteral single = Unit {0}
IsNoLiteral block_comment = Unit {0}
IsNoLiteral line_comment = Unit {0}

none_at : (a : ℕ) (rest : List ℕ) → is_quote (shown_as (lexeme_at a rest).kind a) ≡ false → IsNoLiteral (lexeme_at a rest).kind
unfolding lexeme_at
none_at a rest = grind arith

none_from : (k : LexemeKind) (n m : ℕ) (text : List ℕ) → IsNoLiteral k → list_any is_quote (map shown (take m (lex_from k n text))) ≡ false → list_any is_literal (take m (lex_from k n text)) ≡ false
unfolding lex_from
none_from k n zero text l e = refl
none_from k n (suc m) [] l e = refl
none_from k zero (suc m) (a ∷ rest) l e = let x = lexeme_at a rest in
    grind (arith, none_at, none_from x.kind x.more m rest)
none_from k (suc n) (suc m) (a ∷ rest) l e = grind (arith, none_from k n m rest l)

none_lex : (m : ℕ) (text : List ℕ) → list_any is_quote (map shown (take m (lex text))) ≡ false → list_any is_literal (take m (lex text)) ≡ false
unfolding lex
none_lex m text e = none_from single 0 m text tt e

-- 2. A line.

none_after : (n : ℕ) (cells : List Cell) → list_any is_literal cells ≡ false → list_any is_literal (drop n cells) ≡ false
none_after zero cells e = e
none_after (suc n) [] e = e
none_after (suc n) (c ∷ cells) e = grind (arith, none_after n cells)

whites : (bytes : List ℕ) → are_white bytes ≡ true → list_any is_quote bytes ≡ false
whites [] e = refl
whites (b ∷ bytes) e = grind (arith, whites bytes)

words : (bytes : List ℕ) → are_word_bytes bytes ≡ true → list_any is_quote bytes ≡ false
words [] e = refl
words (b ∷ bytes) e = grind (arith, words bytes)

module _ (table : List Argument) (rules : Rules) (l : Line) (scan : Scan) (d : Directive) (s : scan ≡ scan_after [] C l) (h : content_of scan ≡ directive d) where
  -- A line without a quote after the keyword has no literal there.
  pub no_literal : list_any is_quote d.after ≡ false → list_any is_literal (condition_cells l d) ≡ false
  no_literal e = none_after (keyword_end d) (content_cells [] l)
      (none_lex (length (content l)) (spliced_part l) (ap (list_any is_quote) (sym (masked-content_cells [] l) ∙ ap (λ (x : Scan). x.masked) (sym s)) ∙ (grind (arith, list_any-append, words, whites, (directive_is scan d).0 h, e))))

  -- A quote after the keyword begins a literal there.
  pub a_literal : list_any is_quote d.after ≡ true → list_any is_literal (condition_cells l d) ≡ true
  a_literal e = grind (arith, quote_shown, quiet_drop, quiet_take, quiet_lex, after_is)

-- 3. A text that may be edited has a literal exactly if a quote is shown in it.

module _ (cells : List Cell) where
  abbrev pub SameQuotes : Type 0
  SameQuotes = list_any is_literal cells ≡ list_any is_quote (map shown cells)

  by_quotes : (list_any is_quote (map shown cells) ≡ true → list_any is_literal cells ≡ true) →
      (list_any is_quote (map shown cells) ≡ false → list_any is_literal cells ≡ false) → SameQuotes
  by_quotes f g = grind arith

both_same : (xs ys : List Cell) → SameQuotes xs → SameQuotes ys → SameQuotes (xs ++ ys)
both_same xs ys p q = grind (arith, list_any-append, map-append)

comment_same : (bytes : List ℕ) → SameQuotes (cells_in block_comment bytes)
comment_same [] = refl
comment_same (b ∷ bytes) = comment_same bytes

read_same : (l : Line) → SameQuotes (content_cells [] l)
read_same l = by_quotes (content_cells [] l) (quote_shown (content_cells [] l) (quiet_take (length (content l)) (lex (spliced_part l)) (quiet_lex (spliced_part l)))) (none_lex (length (content l)) (spliced_part l))

around_same : (n m : ℕ) (bytes : List ℕ) → SameQuotes (cells_around n m bytes)
around_same n m bytes = by (scan_after_run [] (text_line (take m (drop n bytes)))).joins_after
  where
    front : List Cell
    front = cells_in block_comment (take n bytes)

    read : List Cell
    read = content_cells [] (text_line (take m (drop n bytes)))

    by : (b : Bool) → SameQuotes (if b then cells_in block_comment bytes else (front ++ read) ++ cells_in block_comment (drop m (drop n bytes)))
    by true = comment_same bytes
    by false = both_same (front ++ read) (cells_in block_comment (drop m (drop n bytes)))
        (both_same front read (comment_same (take n bytes)) (read_same (text_line (take m (drop n bytes))))) (comment_same (drop m (drop n bytes)))

comment_text_same : (bytes : List ℕ) → SameQuotes (comment_cells bytes)
unfolding comment_cells
comment_text_same bytes = grind (arith, around_same, comment_same)

pub same_quotes : (table : List Argument) (rules : Rules) (l : Line) (d : Directive) → content_of (scan_after [] C l) ≡ directive d → SameQuotes (text_cells l d)
same_quotes table rules l d h = by (is_closing d.kind)
  where
    after : map shown (condition_cells l d) ≡ d.after
    after = after_is table rules l (scan_after [] C l) d refl h

    by : (b : Bool) → SameQuotes (if b then comment_cells (drop (keyword_end d) l.body) else condition_cells l d)
    by true = comment_text_same (drop (keyword_end d) l.body)
    by false = by_quotes (condition_cells l d) (λ e. a_literal table rules l (scan_after [] C l) d refl h (ap (list_any is_quote) (sym after) ∙ e))
        (λ e. no_literal table rules l (scan_after [] C l) d refl h (ap (list_any is_quote) (sym after) ∙ e))
