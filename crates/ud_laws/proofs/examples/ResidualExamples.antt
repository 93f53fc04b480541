-- Examples: the simplified text of a condition and of whole texts, computed by the checker, against
-- texts worked out by hand. A is undefined, B is 1 and N is -1.
use Rattle.std.proofs.Common.{◌≡◌, refl, ℕ, List, [], ◌∷◌, ◌++◌, map, codes, false}
use Rattle.ud_model.specs.text.Lines.{split_lines}
use Rattle.ud_model.specs.text.Lexemes.{Cell, cells_in, single, literal, block_comment, line_comment, lexeme_at, lex_from, lex, kind_at_end}
use Rattle.ud_model.specs.text.Scanning.{joins, scan_after_run}
use Rattle.ud_model.specs.conditions.Table.{Argument}
use Rattle.ud_model.specs.conditions.Constants.{suffix_sign}
use Rattle.ud_model.specs.conditions.Tokens.{next_token}
use Rattle.ud_model.specs.conditions.Parsing.{tokens_of, reads, expression_of}
use Rattle.ud_model.specs.conditions.Symbols.{resolve}
use Rattle.ud_model.specs.conditions.Values.{name_value, name_has_u, defined_value, apply_binary_known, apply_unary_known}
use Rattle.ud_model.specs.conditions.Conditions.{Rules}
use Rattle.ud_simplified.specs.ResidualTexts.{simplified_cells}
use Rattle.ud_simplified.specs.CommentTexts.{comment_cells}
use Rattle.ud_simplified.specs.SimplifiedTexts.{simplified_text}
use Rattle.ud_laws.proofs.examples.CValueExamples.{sets, undefines}

abbrev symbols : List Argument
symbols = undefines (codes "A") ∷ sets (codes "B") (codes "1") ∷ sets (codes "N") (codes "-1") ∷ []

abbrev usual : Rules
usual = record { constants = false; strict = false }

-- The condition `before`, in cells, is `after` when it is simplified.
abbrev CellsBecome : List Cell → List ℕ → Type 0
CellsBecome before after = map (λ (c : Cell). c.byte) (simplified_cells symbols usual before) ≡ after

-- The condition `before`, without comments and quotes, is `after`, or stays.
abbrev Becomes : List ℕ → List ℕ → Type 0
Becomes before after = CellsBecome (cells_in single before) after

abbrev Stays : List ℕ → Type 0
Stays text = Becomes text text

-- White space goes with its token. The rest never begins with a word byte: `#ifX` would be no
-- directive.
pub operands_go : Becomes (codes "\tdefined(A)  ||  X ") (codes "\tX ") × Becomes (codes " X\t||\tA\t||\tY")
    (codes " X\t||\tY") × Becomes (codes " ( defined(X) || defined A ) && Y") (codes " defined(X) && Y") ×
    Becomes (codes "!A&&!X") (codes "!X") × Stays (codes "!B||X") × Stays (codes "(A)||X")
unfolding simplified_cells expression_of reads tokens_of next_token suffix_sign
    apply_binary_known apply_unary_known name_value name_has_u resolve defined_value
operands_go = (refl, refl, refl, refl, refl, refl)

-- A condition that is decided stays, and so does one that names no symbol. And so does one that
-- would be decided: the `u` hides that N is less than 0.
pub decided_stay : Stays (codes " A || B") × Stays (codes " X || Y") × Stays (codes " N < 0 || X && B == 1u")
unfolding simplified_cells expression_of reads tokens_of next_token suffix_sign
    apply_binary_known apply_unary_known name_value name_has_u resolve defined_value
decided_stay = (refl, refl, refl)

-- A comment stays, with the white space around it, and a text with a quote stays.
pub comments_and_quotes :
    CellsBecome (cells_in single (codes " A ") ++ cells_in block_comment (codes "/* old */") ++
    cells_in single (codes " || X ") ++ cells_in line_comment (codes "// new"))
    (codes "  /* old */ X // new") ×
    CellsBecome (cells_in single (codes " F(") ++ cells_in literal (codes "'(') || A"))
    (codes " F('(') || A")
unfolding simplified_cells expression_of reads tokens_of next_token suffix_sign
    apply_binary_known apply_unary_known name_value name_has_u resolve defined_value
comments_and_quotes = (refl, refl)

abbrev TextBecomes : List ℕ → List ℕ → Type 0
TextBecomes before after = simplified_text symbols usual before ≡ after

abbrev TextStays : List ℕ → Type 0
TextStays text = TextBecomes text text

-- An operand goes from an `#if` and from an `#elif`. A line stays if a carriage return would then
-- precede its newline. So do lines of text, and a condition over two lines.
pub texts : TextBecomes (codes "#if X||A // c\na\n#elif A||Y\n#endif\n")
    (codes "#if X // c\na\n#elif Y\n#endif\n") ×
    TextStays (codes "#if X/**/\r||A\n#endif\n") ×
    TextStays (codes "/*\n#if X||A\n*/\n#if X||\\\nA\n#endif\n#if X||A/*\n*/\n#endif")
unfolding split_lines lexeme_at lex_from lex kind_at_end joins scan_after_run simplified_cells
    comment_cells expression_of reads tokens_of next_token suffix_sign apply_binary_known apply_unary_known
    name_value name_has_u resolve defined_value
texts = (refl, refl, refl)

-- An operand goes from the comment of an `#else` or `#endif`. The comment stays if it is decided,
-- or if another one follows.
pub closings : TextBecomes (codes "#else // !A&&X\n#endif /* A||X */\n")
    (codes "#else // X\n#endif /* X */\n") ×
    TextStays (codes "#else // A\n#endif /* A||X *//**/\n")
unfolding split_lines lexeme_at lex_from lex kind_at_end joins scan_after_run simplified_cells
    comment_cells expression_of reads tokens_of next_token suffix_sign apply_binary_known
    apply_unary_known name_value name_has_u resolve defined_value
closings = (refl, refl)
