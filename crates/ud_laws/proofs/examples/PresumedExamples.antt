-- Presumed lines, computed: which lines begin with `# line`, and the numbers after a `#line` that C
-- obeys or skips.
use Rattle.std.proofs.Common.{◌≡◌, ℕ, List, [], ◌∷◌, true, false, Option, Some, None, codes, refl, arith}
use Rattle.std.proofs.lemmas.Fmt.{decimal_digit}
use Rattle.ud_model.specs.text.Lines.{Line}
use Rattle.ud_model.specs.text.Scans.{Reading, plain_scan}
use Rattle.ud_laws.specs.output.PresumedLines.{line_operand, GivesNumber, Presumes, no_lines, passes, processes, obeys}
use Rattle.ud_model.specs.declared.kind.Mode.TheVariants.{C}

abbrev line : List ℕ → ℕ → Line
line body number = record { body = body; ending = 10 ∷ []; number = number }

-- A line that stands alone.
abbrev read : List ℕ → ℕ → Reading
read body number = record { line = line body number; mode = C; scan = plain_scan (line body number) }

abbrev operand : List ℕ → Option (List ℕ)
operand body = line_operand (plain_scan (line body 1))

pub inserted : operand (codes "#line 5") ≡ Some (codes "5")
inserted = refl

pub white_between : operand (codes " #\tline  5 \"f\"") ≡ Some (codes "5 \"f\"")
white_between = refl

pub without_operand : operand (codes "#line") ≡ Some []
without_operand = refl

pub another_word : operand (codes "#lines 5") ≡ None
another_word = refl

pub a_section : operand (codes "#if line") ≡ None
a_section = refl

pub a_text : operand (codes "line 5") ≡ None
a_text = refl

-- `z` is line 6 of the input. X is 0, so C skips the `#line`.
pub skipped : Presumes (read (codes "#if X") 1 ∷ read (codes "#line 4") 2 ∷ read (codes "y") 3 ∷ read (codes "#endif") 4 ∷ read (codes "z") 5 ∷ [])
    (record { line = read (codes "z") 5; number = 5; sure = false } ∷ []) false 6
skipped =
    processes (passes (passes (passes (passes no_lines (read (codes "#if X") 1)) (read (codes "#line 4") 2)) (read (codes "y") 3)) (read (codes "#endif") 4))
    (read (codes "z") 5) refl

gives_4 : GivesNumber 4 (read (codes "#line 4") 2)
gives_4 = record { operand = rw (decimal_digit 4 (omega arith)) refl; alone = refl; limit = omega arith }

-- X isn't 0, so C obeys it.
pub obeyed : Presumes (read (codes "#if X") 1 ∷ read (codes "#line 4") 2 ∷ read (codes "y") 3 ∷ read (codes "#endif") 4 ∷ read (codes "z") 5 ∷ [])
    (record { line = read (codes "#line 4") 2; number = 2; sure = true } ∷ record { line = read (codes "y") 3; number = 4; sure = true }
    ∷ record { line = read (codes "z") 5; number = 6; sure = true } ∷ [])
    true 7
obeyed =
    processes (passes (processes (obeys (passes no_lines (read (codes "#if X") 1)) (read (codes "#line 4") 2) 4 gives_4) (read (codes "y") 3) refl) (read (codes "#endif") 4))
    (read (codes "z") 5) refl
