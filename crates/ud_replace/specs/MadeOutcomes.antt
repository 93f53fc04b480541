-- MadeOutcomes: the value that holds the outcome of a text.
--
--   output_in made text       the output that `made` holds: the text itself, if it has none
--   IsSameText made           it holds the outcome of a text that stays
--   has_marks plan            marks are wanted
--   asks_first plan           a run that writes nothing comes first
--   IsMade o text marked has made   `made` holds an outcome of `text`, and its marks if `marked`
--   IsItself o text marked    the outcome of `text` is that it stays
--   IsPrunedBy o output differs made   `made` holds the output of a run, pruned if that is wanted
--   FoldsInto text lines      the text with each directive on one line
--   RestoresTo lines ran made   `made` holds the outcome `ran` of the folded lines, restored
--   IsFoldedBy o text marked made   the outcome of a text that is folded
--   IsFresh k, RunsKept o plan k differs, output_of k   a text and its outcome
use Rattle.std.specs.Prelude.{◌≡◌, ℕ, List, [], Bool, true, false, Option, Some, None, ◌||◌, ◌&&◌}
use Rattle.std.specs.Prelude.{nat_lt, not}
use Rattle.ud_model.specs.text.Lines.{texts_of}
use Rattle.ud_model.specs.sections.Items.{rules_of}
use Rattle.ud_model.specs.declared.settings.Listing.TheVariants.{Off}
use Rattle.ud_simplified.specs.FoldedTexts.{folded_text, restored_text}
use Rattle.ud_passes.specs.pruning.PrunedTexts.{pruned_text, edited_count}
use Rattle.std.specs.Global.{Vec}
use Rattle.ud_replace.specs.declared.kept.Kept.{Kept}
use Rattle.ud_replace.specs.declared.outcome.Outcome.{Outcome}
use Rattle.ud_replace.specs.declared.text_plan.TextPlan.{TextPlan}
use Rattle.ud_replace.specs.FoldedMarks.{unfolded}
use Rattle.ud_replace.specs.TextOutcomes.{TextOptions, TextOutcome, HasUnsqueezed, HasMarkedOutcome}
use Rattle.ud_replace.specs.TextOutcomes.{StaysUnfolded, comes_back, goes_back, is_off}

-- `bytes_or text kept`: the bytes that were kept, or `text` if none were.
abbrev pub bytes_or : List ℕ → Option (Vec ℕ) → List ℕ
bytes_or text None = text
bytes_or text (Some kept) = kept.items

-- `output_in made text`: the output that `made` holds: the text itself, if it has none.
abbrev pub output_in : Outcome → List ℕ → List ℕ
output_in made text = bytes_or text made.output

-- `IsSameText made`: it holds the outcome of a text that stays: that text, without a difference or
-- an edited condition.
pub record IsSameText (made : Outcome) : Type 0 where
  pub output : made.output ≡ None
  pub differs : made.differs ≡ false
  pub edited : made.edited ≡ 0

-- `has_marks plan`: the plan wants marks, for a diff or to squeeze blank lines.
abbrev pub has_marks : TextPlan → Bool
has_marks plan = plan.marks || plan.squeezes

-- `asks_first plan`: the plan lists no names and numbers no lines, and prunes or has no diff.
abbrev pub asks_first : TextPlan → Bool
asks_first plan = is_off plan.run.settings.listing && not plan.run.settings.renumber &&
    (plan.prunes || not plan.marks)

-- `IsMade o text marked has made`: `made` holds an outcome of `text` that `has` is true of, which
-- has no fault. If `marked`, and if the output differs and lists no names, it holds the marks.
pub record IsMade (o : TextOptions) (text : List ℕ) (marked : Bool)
    (has : TextOutcome → List ℕ → Type 0) (made : Outcome) : Type 0 where
  pub outcome : TextOutcome
  pub marks : List ℕ
  pub runs : has outcome marks
  pub faultless : outcome.fault ≡ None
  pub output_is : output_in made text ≡ outcome.output
  pub differs_is : made.differs ≡ outcome.differs
  pub edited_is : made.edited ≡ outcome.edited
  pub marks_are : marked ≡ true → made.differs ≡ true → o.run.settings.listing ≡ Off →
      made.marks.items ≡ marks

-- `IsItself o text marked`: the outcome of `text` is that it stays.
abbrev pub IsItself : TextOptions → List ℕ → Bool → Type 0
IsItself o text marked = (made : Outcome) → IsSameText made →
    IsMade o text marked (HasMarkedOutcome o text) made

-- `IsPrunedBy o output differs made`: `made` holds the output of a run, which differs from its text
-- or doesn't; without the operands that the options decide, if they prune.
pub data IsPrunedBy (o : TextOptions) (output : List ℕ) (differs : Bool) (made : Outcome) :
    Type 0 where
  as_it_was : o.prunes ≡ false → ((text : List ℕ) → output_in made text ≡ output) →
      made.differs ≡ differs → made.edited ≡ 0 → IsPrunedBy o output differs made
  without_operands : o.prunes ≡ true → ((text : List ℕ) →
      output_in made text ≡ pruned_text o.run.table (rules_of o.run.settings) output) →
      made.edited ≡ edited_count o.run.table (rules_of o.run.settings) output →
      made.differs ≡ (differs || nat_lt 0 made.edited) → IsPrunedBy o output differs made

-- `FoldsInto text lines`: `lines` is the folded text, which goes back to `text`; `None` if it
-- doesn't.
abbrev pub FoldsInto : List ℕ → Option (Vec ℕ) → Type 0
FoldsInto text None = goes_back (folded_text text) text ≡ false
FoldsInto text (Some lines) =
    (lines.items ≡ folded_text text) × (goes_back (folded_text text) text ≡ true)

-- `IsRestored lines ran made`: `made` holds the outcome `ran` of the folded lines, restored.
pub record IsRestored (lines : List ℕ) (ran made : Outcome) : Type 0 where
  pub output_is : (text : List ℕ) → output_in made text ≡ restored_text (output_in ran lines)
  pub marks_are : made.marks.items ≡
      unfolded ran.marks.items (texts_of lines) (texts_of (output_in ran lines))
  pub differs_is : made.differs ≡ ran.differs
  pub edited_is : made.edited ≡ ran.edited

-- `RestoresTo lines ran made`: the output of `ran` comes back, and `made` holds it restored; `None`
-- if it doesn't come back.
abbrev pub RestoresTo : List ℕ → Outcome → Option Outcome → Type 0
RestoresTo lines ran None = comes_back (output_in ran lines) ≡ false
RestoresTo lines ran (Some made) =
    (comes_back (output_in ran lines) ≡ true) × IsRestored lines ran made

-- `IsFoldedBy o text marked made`: `made` holds the outcome of `text`, which is folded; `None` if
-- it isn't.
abbrev pub IsFoldedBy : TextOptions → List ℕ → Bool → Option Outcome → Type 0
IsFoldedBy o text marked None = StaysUnfolded o text
IsFoldedBy o text marked (Some made) = IsMade o text marked (HasUnsqueezed o text) made

-- `IsFresh k`: no text was read.
abbrev pub IsFresh : Kept → Type 0
IsFresh k = k.text.items ≡ []

-- `output_of k`: the output for the text.
abbrev pub output_of : Kept → List ℕ
output_of k = output_in k.outcome k.text.items

-- `RunsKept o plan k differs`: the text has no fault, its outcome was kept, and `differs` is
-- whether the output differs.
pub record RunsKept (o : TextOptions) (plan : TextPlan) (k : Kept) (differs : Bool) : Type 0 where
  pub made : IsMade o k.text.items (has_marks plan) (HasMarkedOutcome o k.text.items) k.outcome
  pub differs_is : differs ≡ k.outcome.differs
