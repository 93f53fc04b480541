-- Passes: what all passes over a text share.
--
-- Example: line 2 of the file `f.c`, `#if A`, is listed as `f.c:2: #if A`.
use Rattle.std.specs.Prelude.{◌≡◌, ℕ, List, [], ◌∷◌, ◌++◌, length, Bool, leb}
use Rattle.std.specs.Prelude.{codes, decimal}
use Rattle.ud_model.specs.text.Bytes.{newline}
use Rattle.ud_model.specs.text.Lines.{Line, text_of}
use Rattle.ud_model.specs.declared.limits.TheConstants.{MAX_LINE_BYTES}

-- `AppendsSome old new`: `new` is `old`, perhaps with bytes appended.
abbrev pub AppendsSome : List ℕ → List ℕ → Type 0
AppendsSome old new = (more : List ℕ) × (new ≡ old ++ more)

-- `fits l`: with its ending, the line `l` has no more bytes than a line may have.
abbrev pub fits : Line → Bool
fits l = leb (length (text_of l)) MAX_LINE_BYTES

-- `place_at file number`: where the line with this number is in the file.
abbrev pub place_at : List ℕ → ℕ → List ℕ
place_at file number = file ++ codes ":" ++ decimal number ++ codes ": "

-- `numbered_line file number body`: a line of a list: the file, the line's number in it, and the
-- line without its ending.
abbrev pub numbered_line : List ℕ → ℕ → List ℕ → List ℕ
numbered_line file number body = place_at file number ++ body ++ newline ∷ []
