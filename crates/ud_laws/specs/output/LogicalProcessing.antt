-- Logical processing: what a preprocessor does with files by their logical lines, and the files of
-- a tree that are replaced while directives over several lines are folded.
-- C11 5.1.1.2, phase 2, 6.10; unifdef(1).
--
--   HasNoLong bytes          no directive of the text is over several lines
--   IsCTree bytes ns         the nodes `ns` are those of the text, by its logical lines
--   condition_of l           the condition of the logical line `l`
--   over_logical_lines takes ..
--                            the preprocessor with these choices over logical lines
--   IsRewritten o prunes input final
--                            `final` replaces `input`: folded, it is the output for the folded
--                            input, perhaps simplified
--   RewrittenTree o prunes F the files `F` of a tree, which are so, and the nodes of both
--
-- A directive over several lines is one logical line, with its whole condition. So no condition
-- continues here.
--
-- Example: `#if A || \`, `  X` and `#if X` are two logical lines. Under `-UA` the second one is the
-- rest of the first.
use Rattle.std.specs.Prelude.{◌≡◌, ℕ, List, [], ◌∷◌, map, Bool, false, ◌&&◌}
use Rattle.std.specs.List.{flat_map, list_any}
use Rattle.ud_model.specs.text.Scans.{Scan, Reading, is_spanning}
use Rattle.ud_model.specs.sections.Directives.{content_of, role_of, test_of}
use Rattle.ud_model.specs.sections.Items.{Options}
use Rattle.ud_model.specs.sections.Tree.{Item, Opener, Nodes, closed, lines_of_nodes, text_line}
use Rattle.ud_model.specs.sections.Tree.{if_line, elif_line, else_line, endif_line}
use Rattle.ud_model.specs.aids.ReadAs.{read_as}
use Rattle.ud_model.specs.laws.Rereading.{IsTreeOf, line_bytes}
use Rattle.ud_simplified.specs.FoldedTexts.{CLine, directive_line, other_lines, c_lines}
use Rattle.ud_simplified.specs.FoldedTexts.{is_directive, folded_text}
use Rattle.ud_model.specs.laws.WrittenConditions.{Condition, no_condition}
use Rattle.ud_laws.specs.output.Processing.{Preprocessor}
use Rattle.ud_laws.specs.output.ProcessedFiles.{IsOutput}
use Rattle.ud_model.specs.declared.cond.Cond.TheVariants.{Unknown}
use Rattle.ud_model.specs.declared.kind.Mode.TheVariants.{C}
use Rattle.ud_model.specs.declared.kind.Role.{Role}
use Rattle.ud_model.specs.declared.kind.Role.TheVariants.{IfGroup, ElifGroup, ElseGroup, EndifLine}
use Rattle.ud_model.specs.declared.kind.Test.{Test}
use Rattle.ud_model.specs.declared.kind.Test.TheVariants.{Nothing}

-- `unknown_opener l`: an opener on the line `l`, whose condition isn't known.
abbrev pub unknown_opener : {L : Type 0} → L → Opener L
unknown_opener l = record { line = l; cond = Unknown; ignoring = false }

-- `role_item role l`: a directive with this role on the line `l`.
abbrev pub role_item : {L : Type 0} → Role → L → Item L
role_item IfGroup l = if_line (unknown_opener l)
role_item ElifGroup l = elif_line (unknown_opener l)
role_item ElseGroup l = else_line l
role_item EndifLine l = endif_line l

-- `is_long r`: the line has a directive and is joined to a neighbour.
abbrev pub is_long : Reading → Bool
is_long r = is_directive (content_of r.scan) && is_spanning r.scan

-- `HasNoLong bytes`: no directive of the text is over several lines.
abbrev pub HasNoLong : List ℕ → Type 0
HasNoLong bytes = list_any is_long (read_as C bytes) ≡ false

-- `line_items l`: the items of the logical line `l`: a directive, or lines of text.
abbrev pub line_items : CLine → List (Item CLine)
line_items (directive_line kind after) =
    role_item (role_of kind) (directive_line kind after) ∷ []
line_items (other_lines rs) = map (λ (r : Reading). text_line (other_lines (r ∷ []))) rs

-- `IsCTree bytes ns`: the nodes `ns` have the logical lines of the text.
abbrev pub IsCTree : List ℕ → Nodes CLine → Type 0
IsCTree bytes ns = lines_of_nodes ns ≡ flat_map line_items (c_lines bytes)

-- `spaced_test test text`: the condition with this test and text, if there is a test.
abbrev pub spaced_test : Test → List ℕ → Condition
spaced_test Nothing text = no_condition
spaced_test test text = record { test = test; text = text; goes_on = false }

-- `condition_of l`: the condition of the logical line `l`.
abbrev pub condition_of : CLine → Condition
condition_of (directive_line kind after) = spaced_test (test_of kind) after
condition_of (other_lines rs) = no_condition

-- `takes_text takes s l t`: the logical line `l` is one line of text, and `takes` leads from `s` to
-- `t` by its bytes and its scan.
abbrev pub takes_text : {S : Type 0} → (S → List ℕ → Scan → S → Type 0) → S → CLine → S → Type 0
takes_text takes s (other_lines (r ∷ [])) t = takes s (line_bytes r) r.scan t
takes_text takes s l t = ⊥

-- `enters_text enters s l f t`: the same, for a line that includes the file `f`.
abbrev pub enters_text : {S F : Type 0} → (S → List ℕ → Scan → F → S → Type 0) → S → CLine → F →
    S → Type 0
enters_text enters s (other_lines (r ∷ [])) f t = enters s (line_bytes r) r.scan f t
enters_text enters s l f t = ⊥

-- `over_logical_lines takes enters leaves decides`: the preprocessor with these choices over
-- logical lines. It is given a text line's bytes and scan, and the whole condition of a directive.
abbrev pub over_logical_lines : {S F : Type 0} → (S → List ℕ → Scan → S → Type 0) →
    (S → List ℕ → Scan → F → S → Type 0) → (S → S → Type 0) → (S → Condition → Bool → S → Type 0) →
    Preprocessor S F CLine
over_logical_lines takes enters leaves decides = record {
  takes = takes_text takes;
  enters = enters_text enters;
  leaves = leaves;
  decides = λ s o b t. decides s (condition_of o.line) b t;
}

-- `IsRewritten o prunes input final`: the folded `final` is the output for the folded `input`,
-- perhaps simplified, or is the folded `input` itself. Neither has a directive over several lines.
pub record IsRewritten (o : Options) (prunes : Bool) (input final : List ℕ) : Type 0 where
  pub nodes : Nodes Reading
  pub of_input : IsTreeOf o (folded_text input) (closed nodes)
  pub is_output : IsOutput o prunes (folded_text input) (folded_text final)
  pub short : HasNoLong (folded_text input)
  pub short_final : HasNoLong (folded_text final)

-- The files of a tree: the text of each before and after, and the nodes of both.
pub record RewrittenTree (o : Options) (prunes : Bool) (F : Type 0) : Type 0 where
  pub inputs : F → List ℕ
  pub outputs : F → List ℕ
  pub are_rewritten : (f : F) → IsRewritten o prunes (inputs f) (outputs f)
  pub before : F → Nodes CLine
  pub of_inputs : (f : F) → IsCTree (inputs f) (before f)
  pub after : F → Nodes CLine
  pub of_outputs : (f : F) → IsCTree (outputs f) (after f)
