-- SharedLines: how a run and the run with `-c` share the lines of a text.
-- unifdef(1), `-c`: lines that would be removed are kept, and vice versa.
--
-- Example: under `-UA` the run over `#ifdef A`, `x`, `#endif`, `y` prints `y`, and with `-c` the
-- three lines before.
use Rattle.std.specs.Prelude.{◌≡◌, ℕ, List, [], ◌∷◌, ◌++◌, true, false, codes}
use Rattle.ud_model.specs.text.Lines.{text_of}
use Rattle.ud_model.specs.sections.Pruning.{is_removed}
use Rattle.ud_model.specs.sections.Items.{Options}
use Rattle.ud_model.specs.answer.CommandLine.{options_of}
use Rattle.ud_model.specs.answer.Printing.{Judged, piece_by}
use Rattle.ud_model.specs.answer.Answer.{Answer, IsAnswer}
use Rattle.ud_model.specs.declared.settings.Listing.TheVariants.{Off}

-- `OnlyDecides o`: `o` has none of `-s`, `-S`, `-b`, `-l`, `-c` and `-n`, and spaces replace lost
-- bytes, as always in unifdef(1).
pub record OnlyDecides (o : Options) : Type 0 where
  pub unlisted : o.settings.listing ≡ Off
  pub unblanked : o.settings.blank ≡ false
  pub uncomplemented : o.settings.complement ≡ false
  pub unnumbered : o.settings.renumber ≡ false
  pub padded : o.settings.unpadded ≡ false

-- `with_complement o`: the options `o` with `-c`.
abbrev pub with_complement : Options → Options
with_complement o = record {
  settings = record o.settings { complement = true };
  table =
      o.table;
}

-- `AnswersWithComplement args input a c`: `a` is the answer to arguments that only decide, and `c`
-- the answer to `-c` and these arguments.
pub record AnswersWithComplement (args : List (List ℕ)) (input : List ℕ) (a c : Answer) : Type 0
  where
    pub decides : OnlyDecides (options_of args)
    pub answer : IsAnswer args input a
    pub complement : IsAnswer (codes "-c" ∷ args) input c

-- `ShareLines js a b`: each line of `js` is printed in `a` or in `b`, and not in both.
pub data ShareLines : List Judged → List ℕ → List ℕ → Type 0 where
  no_line : ShareLines [] [] []
  -- A line that isn't removed, perhaps edited.
  stays : {j : Judged} {js : List Judged} {a b : List ℕ} → is_removed j.verdict ≡ false →
      ShareLines js a b →
      ShareLines (j ∷ js) (piece_by false j.verdict j.keyword j.line ++ a) b
  -- A removed line.
  goes : {j : Judged} {js : List Judged} {a b : List ℕ} → is_removed j.verdict ≡ true →
      ShareLines js a b → ShareLines (j ∷ js) a (text_of j.line ++ b)
