-- Messages: the text of each fault, which ends with a newline.
--
-- The messages for faults of the arguments are in CommandLine.
use Rattle.std.specs.Prelude.{ℕ, List, ◌++◌, codes, decimal}
use Rattle.ud_model.specs.sections.Faults.{Fault, too_many_lines, line_too_long, obfuscated}
use Rattle.ud_model.specs.sections.Faults.{inappropriate_elif, inappropriate_else}
use Rattle.ud_model.specs.sections.Faults.{inappropriate_endif, too_many_levels, eof_in_comment}
use Rattle.ud_model.specs.sections.Faults.{premature_eof}

-- `about name text`: the message `text` about the input `name`.
abbrev pub about : List ℕ → List ℕ → List ℕ
about name text = codes "unifdef: " ++ name ++ codes ": " ++ text ++ codes "\n"

-- `about_line name line text`: the message `text` about a line of the input `name`.
abbrev pub about_line : List ℕ → ℕ → List ℕ → List ℕ
about_line name line text = codes "unifdef: " ++ name ++ codes ": " ++ decimal line ++ codes ": " ++
    text ++ codes "\n"

-- `message_of name fault`: the message of a text's fault, with the input's name and the line.
abbrev pub message_of : List ℕ → Fault → List ℕ
message_of name (too_many_lines line) = about_line name line (codes "Too many lines")
message_of name (line_too_long line) = about_line name line (codes "Line too long")
message_of name (obfuscated line) =
    about_line name line (codes "Obfuscated preprocessor control line")
message_of name (inappropriate_elif line) = about_line name line (codes "Inappropriate #elif")
message_of name (inappropriate_else line) = about_line name line (codes "Inappropriate #else")
message_of name (inappropriate_endif line) = about_line name line (codes "Inappropriate #endif")
message_of name (too_many_levels line) = about_line name line (codes "Too many levels of nesting")
message_of name (eof_in_comment line) = about_line name line (codes "EOF in comment")
message_of name (premature_eof line if_line) =
    about_line name line (codes "Premature EOF (#if line " ++ decimal if_line ++ codes ")")

-- `read_error name`: the message if a read of the input `name` fails.
abbrev pub read_error : List ℕ → List ℕ
read_error name = about name (codes "Read error")

-- `write_error name`: the message if a write fails, with the input's name.
abbrev pub write_error : List ℕ → List ℕ
write_error name = about name (codes "Write error")

-- The message if memory for the symbols can't be allocated.
abbrev pub out_of_memory : List ℕ
out_of_memory = codes "unifdef: Out of memory\n"
