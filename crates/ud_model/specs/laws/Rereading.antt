-- Rereading: the tree of a text, and the runs whose output is read again.
--
--   PrintsText o          the lines of the text are printed, without line numbers
--   IsPlain o             the options change nothing about how lines are printed, and no symbol
--                         makes its sections plain text
--   IsPlainC o            such options without `-t`
--   AreRead o xs t        the items `xs` have the tree `t`, and each line was read in the
--                         mode that the lines before it give
--   IsTreeOf o text t     `t` is the tree of the text
--   IsClean o input r     a run without a fault, under plain options
--   CleanRun              such a run, with the trees of its input and its output
--   line_bytes l          a line of the input or output, with its ending
--   selected_bytes w ns   the lines that are selected in a world, with their endings
--   edited_bytes unpadded e
--                         the output for a line of the pruned tree
--   KeepsTruths w b v a   each opener of the output `a` has in `v` the truth that the opener
--                         it comes from has in `w`
--
-- Example: under -DA the output for `#if X`, `#elif defined A`, `#endif` has one opener with a
-- condition, `#if X`, which comes from the first line.
use Rattle.std.specs.Prelude.{◌≡◌, ◌≤◌, ℕ, List, [], ◌∷◌, ◌++◌, length, map, Bool, false, None}
use Rattle.ud_model.specs.text.Lines.{Line, text_of, lines_of}
use Rattle.ud_model.specs.text.Scans.{Reading}
use Rattle.ud_model.specs.sections.Directives.{content_of}
use Rattle.ud_model.specs.conditions.Table.{Argument}
use Rattle.ud_model.specs.sections.Tree.{Item, Nodes, Tree, closed, nothing, lines}
use Rattle.ud_model.specs.sections.Items.{Options, line_of, next_item}
use Rattle.ud_model.specs.answer.Printing.{piece_by, keyword_in}
use Rattle.ud_model.specs.answer.Outcomes.{Outcome, HasOutcome}
use Rattle.ud_model.specs.laws.Worlds.{World, selected, truths_of, openers_in}
use Rattle.ud_model.specs.laws.Pruned.{Edited, pruned_lines}
use Rattle.ud_model.specs.declared.settings.Listing.TheVariants.{Off}
use Rattle.ud_model.specs.declared.limits.TheConstants.{MAX_LINE_BYTES}

-- `NoneIgnores table`: no argument makes its sections plain text.
abbrev pub NoneIgnores : List Argument → Type 0
NoneIgnores [] = Unit {0}
NoneIgnores (a ∷ table) = (a.entry.ignoring ≡ false) × NoneIgnores table

-- `PrintsText o`: none of -s, -S and -n is given.
pub record PrintsText (o : Options) : Type 0 where
  pub unnumbered : o.settings.renumber ≡ false
  pub unlisted : o.settings.listing ≡ Off

-- `IsPlain o`: none of -s, -S, -b, -l, -c, -n, -iD and -iU is given.
pub record IsPlain (o : Options) : Type 0 where
  pub unlisted : o.settings.listing ≡ Off
  pub unblanked : o.settings.blank ≡ false
  pub uncomplemented : o.settings.complement ≡ false
  pub unnumbered : o.settings.renumber ≡ false
  pub none_ignores : NoneIgnores o.table

-- `IsPlainC o`: none of -s, -S, -b, -l, -c, -n, -iD, -iU and -t is given.
pub record IsPlainC (o : Options) : Type 0 where
  pub plain : IsPlain o
  pub in_c : o.settings.plain ≡ false

-- `AreRead o xs t`: the items `xs` have the tree `t`, and each line was read in the mode that the
-- lines before give.
pub data AreRead (o : Options) : List (Item Reading) → Tree Reading → Type 0 where
  no_items : AreRead o [] (closed nothing)
  one_item : (xs : List (Item Reading)) (t : Tree Reading) → AreRead o xs t →
      (l : Line) (u : Tree Reading) →
      lines u ≡ xs ++ next_item o xs t l ∷ [] → AreRead o (xs ++ next_item o xs t l ∷ []) u

-- `IsTreeOf o text t`: `t` is the tree of `text`.
pub record IsTreeOf (o : Options) (text : List ℕ) (t : Tree Reading) : Type 0 where
  pub items : List (Item Reading)
  pub read : AreRead o items t
  pub are : lines_of text ≡ map line_of items

-- `IsClean o input r`: a run over `input` has the outcome `r` without a fault, and the options are
-- plain.
pub record IsClean (o : Options) (input : List ℕ) (r : Outcome) : Type 0 where
  pub plain : IsPlain o
  pub runs : HasOutcome o input r
  pub faultless : r.fault ≡ None

-- A run under plain options without a fault: the nodes of its input, `before`, and those of its
-- output, `after`.
pub record CleanRun : Type 0 where
  pub options : Options
  pub input : List ℕ
  pub outcome : Outcome
  pub clean : IsClean options input outcome
  pub before : Nodes Reading
  pub of_input : IsTreeOf options input (closed before)
  pub after : Nodes Reading
  pub of_output : IsTreeOf options outcome.output (closed after)

-- `LinesFit ls`: no line of `ls` is too long.
abbrev pub LinesFit : List Line → Type 0
LinesFit [] = Unit {0}
LinesFit (l ∷ ls) = (length (text_of l) ≤ MAX_LINE_BYTES) × LinesFit ls

-- `line_bytes l`: the bytes of a line that was read, with its ending.
abbrev pub line_bytes : Reading → List ℕ
line_bytes l = text_of l.line

-- `selected_bytes w ns`: the bytes of the lines that are selected in the world `w`.
abbrev pub selected_bytes : World Reading → Nodes Reading → List (List ℕ)
selected_bytes w ns = map line_bytes (selected w ns)

-- `edited_bytes unpadded e`: the output for a line of the pruned tree.
abbrev pub edited_bytes : Bool → Edited Reading → List ℕ
edited_bytes unpadded e =
    piece_by unpadded e.verdict (keyword_in (content_of e.line.scan)) e.line.line

-- `KeepsTruths w before v after`: each opener of the output has in `v` the truth that the opener it
-- comes from has in `w`.
abbrev pub KeepsTruths : World Reading → Nodes Reading → World Reading → Nodes Reading → Type 0
KeepsTruths w before v after =
    truths_of v after ≡ map (λ e. w e.line) (openers_in (pruned_lines before))
