-- Examples: texts that are folded, and the way back, computed by the checker.
use Rattle.std.proofs.Common.{◌≡◌, refl, ℕ, List, [], ◌∷◌, ◌++◌, codes}
use Rattle.std.specs.List.{flat_map}
use Rattle.ud_model.specs.text.Lines.{split_lines, line_at}
use Rattle.ud_model.specs.text.Lexemes.{lexeme_at, lex_from, lex, kind_at_end}
use Rattle.ud_model.specs.text.Scanning.{joins, scan_after_run, next_reading}
use Rattle.ud_simplified.specs.FoldedTexts.{folded_text, restored_text, vertical_tab, unnumbered, directive_line, other_lines, c_lines}
use Rattle.ud_laws.specs.output.LogicalProcessing.{unknown_opener, line_items}
use Rattle.ud_model.specs.sections.Tree.{if_line, text_line}
use Rattle.ud_model.specs.declared.kind.Kind.TheVariants.{If}
use Rattle.ud_model.specs.declared.kind.Mode.TheVariants.{C}

-- The text is folded to `line`, which is restored to the text.
abbrev Folds : List ℕ → List ℕ → Type 0
Folds text line = (folded_text text ≡ line) × (restored_text line ≡ text)

abbrev Stays : List ℕ → Type 0
Stays text = Folds text text

abbrev over_lines : List ℕ
over_lines = codes "#if A || \\\n  B\nx\n"

-- A splice becomes a vertical tab, and so does a newline in a comment, where a backslash stays.
pub folds : Folds over_lines (codes "#if A || " ++ vertical_tab ∷ codes "  B\nx\n") ×
    Folds (codes "#else /* a\n b */\n") (codes "#else /* a" ++ vertical_tab ∷ codes " b */\n") ×
    Folds (codes "#if A /* \\\n */ \\\n B\n")
    (codes "#if A /* \\" ++ vertical_tab ∷ codes " */ " ++ vertical_tab ∷ codes " B\n") ×
    Folds (codes "#endif \\\r\n\r\n") (codes "#endif " ++ vertical_tab ∷ codes "\r\n") ×
    Folds (codes "#if A // x \\\n y\nz\n") (codes "#if A // x \\" ++ vertical_tab ∷ codes " y\nz\n")
unfolding split_lines joins scan_after_run lexeme_at lex_from lex kind_at_end
folds = ((refl, refl), (refl, refl), (refl, refl), (refl, refl), (refl, refl))

-- Without white space beside the splice, a line stays. So do text, a cut keyword, a directive after
-- a comment over lines, and one with a literal.
pub stay : Stays (codes "#if A\\\n|| B\n") × Stays (codes "x \\\n#if A\n") × Stays (codes "#el\\\nse\n") ×
    Stays (codes "/* a\n */ #if A \\\n B\n") × Stays (codes "#if 'a' \\\n B\n")
unfolding split_lines joins scan_after_run lexeme_at lex_from lex kind_at_end
stay = ((refl, refl), (refl, refl), (refl, refl), (refl, refl), (refl, refl))

-- C reads `#if` with ` A || B`, and the line `x`.
reads_lines : c_lines over_lines ≡ directive_line If (codes " A || B") ∷
    other_lines (unnumbered (next_reading [] C (line_at 3 (codes "x\n"))) ∷ []) ∷ []
unfolding split_lines joins scan_after_run lexeme_at lex_from lex kind_at_end
reads_lines = refl

-- So the `#if` is one logical line.
one_item : flat_map line_items (c_lines over_lines) ≡
    if_line (unknown_opener (directive_line If (codes " A || B"))) ∷
    text_line (other_lines (unnumbered (next_reading [] C (line_at 3 (codes "x\n"))) ∷ [])) ∷ []
unfolding split_lines joins scan_after_run lexeme_at lex_from lex kind_at_end
one_item = refl

-- C reads one `#if` with ` A B`, though a comment over lines comes first.
reads_after_comment : c_lines (codes "/* a\n */ #if A \\\n B\n") ≡ directive_line If (codes " A B") ∷ []
unfolding split_lines joins scan_after_run lexeme_at lex_from lex kind_at_end
reads_after_comment = refl
