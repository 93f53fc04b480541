-- Splicing: the text that lines in C mode form when their splices are deleted.
-- C11 5.1.1.2, phase 2.
--
-- Only a line's body and ending count, never its number.
--
-- Example: the lines `a\` and `b`, each with a newline, form the text `ab` with one newline.
use Rattle.std.specs.Prelude.{ℕ, ◌-◌, ◌==◌, nat_eq, List, [], ◌∷◌, ◌++◌, length, take, Bool, false}
use Rattle.std.specs.Prelude.{not, ◌&&◌, ◌||◌, if◌then◌else◌}
use Rattle.std.specs.List.{flat_map, ends_with}
use Rattle.ud_model.specs.text.Bytes.{backslash, newline}
use Rattle.ud_model.specs.text.Lines.{Line}
use Rattle.ud_model.specs.text.Scans.{Reading}
use Rattle.ud_model.specs.declared.kind.Mode.{Mode}
use Rattle.ud_model.specs.declared.kind.Mode.TheVariants.{C, Plain}

-- `is_empty bytes`: `bytes` has no byte.
abbrev pub is_empty : List ℕ → Bool
is_empty bytes = length bytes == 0

-- `is_spliced line`: `line` has an ending and a backslash just before it, so the next line
-- continues it.
abbrev pub is_spliced : Line → Bool
is_spliced line = ends_with nat_eq line.body (backslash ∷ []) && not (is_empty line.ending)

-- `content line`: the body of `line` without a splice's backslash.
abbrev pub content : Line → List ℕ
content line = if is_spliced line then take (length line.body - 1) line.body else line.body

-- `stays_open line`: `line` adds no newline to the spliced text, since it is spliced or has no
-- ending.
abbrev pub stays_open : Line → Bool
stays_open line = is_spliced line || is_empty line.ending

-- `newline_of line`: the newline that `line` adds to the spliced text, or nothing if the line stays
-- open.
abbrev pub newline_of : Line → List ℕ
newline_of line = if stays_open line then [] else newline ∷ []

-- `spliced_part line`: the bytes that `line` adds to the spliced text: its content and its newline.
abbrev pub spliced_part : Line → List ℕ
spliced_part line = content line ++ newline_of line

-- `spliced_text lines`: the spliced text of `lines`.
abbrev pub spliced_text : List Line → List ℕ
spliced_text lines = flat_map spliced_part lines

-- `extended_run run mode line`: the C run after `line`, which is read in this mode after the C run
-- `run`. A line in plain mode ends the run.
abbrev pub extended_run : List Line → Mode → Line → List Line
extended_run run C line = run ++ line ∷ []
extended_run run Plain line = []

-- `c_run_from run readings`: the C run after `readings`, which follow the C run `run`.
abbrev pub c_run_from : List Line → List Reading → List Line
c_run_from run [] = run
c_run_from run (r ∷ readings) = c_run_from (extended_run run r.mode r.line) readings

-- `c_run_of readings`: the C run after `readings`: the lines in C mode after the last one in plain
-- mode.
abbrev pub c_run_of : List Reading → List Line
c_run_of readings = c_run_from [] readings

-- `last_is_spliced lines`: the last of `lines` is spliced.
abbrev pub last_is_spliced : List Line → Bool
last_is_spliced [] = false
last_is_spliced (line ∷ []) = is_spliced line
last_is_spliced (line ∷ next ∷ lines) = last_is_spliced (next ∷ lines)
