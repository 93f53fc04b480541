-- Lines in place: the output under `-b`, line for line.
-- unifdef(1), `-b`, `-l`.
--
-- Example: under `-b -UA` the output for `#ifdef A`, `x`, `#endif`, `y` is three blank lines and
-- `y`, which is line 4 of both.
use Rattle.std.specs.Prelude.{◌≡◌, ℕ, List, [], ◌∷◌, map, Bool, true, false, if◌then◌else◌}
use Rattle.ud_model.specs.text.Lines.{Line, text_of, lines_of}
use Rattle.ud_model.specs.sections.Items.{Options}
use Rattle.ud_model.specs.answer.Printing.{Judged, complemented, piece_alone}
use Rattle.ud_model.specs.declared.settings.Listing.TheVariants.{Off}

-- `Blanks o`: `o` has `-b` or `-l`, and neither `-s` nor `-S`. Spaces replace lost bytes.
pub record Blanks (o : Options) : Type 0 where
  pub blank : o.settings.blank ≡ true
  pub unlisted : o.settings.listing ≡ Off
  pub padded : o.settings.unpadded ≡ false

-- `endings_of text`: the endings of the lines of `text`, in order.
abbrev pub endings_of : List ℕ → List (List ℕ)
endings_of text = map (λ (l : Line). l.ending) (lines_of text)

-- `complemented_if c j`: the judged line `j`, complemented if `c`.
abbrev pub complemented_if : Bool → Judged → Judged
complemented_if c j = if c then complemented j else j

-- `blanked c j`: the output under `-b` for the line `j`, with `-c` if `c`.
abbrev pub blanked : Bool → Judged → List ℕ
blanked c j = piece_alone false true (complemented_if c j)

-- `IsBlankedLine c j k`: the line `k` is the output for `j`, and has its number and its ending.
pub record IsBlankedLine (c : Bool) (j : Judged) (k : Line) : Type 0 where
  pub number : k.number ≡ j.line.number
  pub ending : k.ending ≡ j.line.ending
  pub bytes : text_of k ≡ blanked c j

-- `AreBlankedLines c js ks`: each line of `ks` is the output for the line of `js` at its position.
-- A last line that is removed and has no ending leaves no line.
pub data AreBlankedLines (c : Bool) : List Judged → List Line → Type 0 where
  no_line : AreBlankedLines c [] []
  one_line : (j : Judged) (k : Line) (js : List Judged) (ks : List Line) → IsBlankedLine c j k →
      AreBlankedLines c js ks → AreBlankedLines c (j ∷ js) (k ∷ ks)
  lost_line : (j : Judged) → j.line.ending ≡ [] → blanked c j ≡ [] → AreBlankedLines c (j ∷ []) []

-- `AreBlankedBy o js text`: the lines of `text` are the output for the lines `js`, each at its
-- position, under `o`.
abbrev pub AreBlankedBy : Options → List Judged → List ℕ → Type 0
AreBlankedBy o js text = AreBlankedLines o.settings.complement js (lines_of text)
