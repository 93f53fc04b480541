-- Mentions: the lines of a text that may name a symbol, each with the rest of its logical line.
-- C11 5.1.1.2, phases 2 and 3, and 6.10.
--
--   Mention                          a condition, a definition of a listed symbol, or an `#else` or
--                                    `#endif`, and what follows its keyword
--   mention_on table r               the mention that begins on the line `r`, if any
--   joined_text class goes_on rs     the text of the first of the lines `rs`, as far as each one
--                                    joins the next
--   mentions_in table inside rs      the mentions of the lines `rs`
--   mentions_of table mode bytes     the mentions of a text
--
-- In a condition a comment is shown as spaces. After an `#else` or `#endif` it is shown as it is,
-- with a space between its lines. A mention whose comment never closes ends with the text. A line
-- over the limit has no mention, adds nothing to one, and joins no other line.
--
-- Example: `#if A \` and `|| B /* c */` are one condition with the text ` A || B        `, and the
-- number and body of its first line.
use Rattle.std.specs.Prelude.{ℕ, ◌-◌, List, [], ◌∷◌, ◌++◌, length, drop, Bool, true, false, ◌&&◌}
use Rattle.std.specs.Prelude.{Option, Some, None, if◌then◌else◌}
use Rattle.ud_model.specs.text.Bytes.{space}
use Rattle.ud_model.specs.text.Scans.{Reading, is_spanning}
use Rattle.ud_model.specs.sections.Directives.{Directive, Content, cut_keyword, directive, text}
use Rattle.ud_model.specs.sections.Directives.{content_of}
use Rattle.ud_model.specs.conditions.Table.{Argument}
use Rattle.ud_model.specs.aids.ReadAs.{read_as}
use Rattle.ud_model.specs.declared.kind.Kind.{Kind}
use Rattle.ud_model.specs.declared.kind.Kind.TheVariants.{Else, Endif}
use Rattle.ud_model.specs.declared.kind.Mode.{Mode}
use Rattle.ud_passes.specs.Passes.{fits}
use Rattle.ud_passes.specs.remaining.Definitions.{is_definition}
use Rattle.ud_passes.specs.declared.remaining.mentions.Class.{Class}
use Rattle.ud_passes.specs.declared.remaining.mentions.Class.TheVariants.{Condition, Definition}
use Rattle.ud_passes.specs.declared.remaining.mentions.Class.TheVariants.{Closing}

-- A line that may name a symbol.
pub record Mention : Type 0 where
  -- The number and the body of the line it begins on.
  pub number : ℕ
  pub body : List ℕ
  -- That line is joined to a neighbour.
  pub spanning : Bool
  pub class : Class
  -- The text after the keyword, up to the end of the logical line.
  pub after : List ℕ

-- `class_of kind`: the class of a directive of this kind.
abbrev pub class_of : Kind → Class
class_of Else = Closing
class_of Endif = Closing
class_of kind = Condition kind

-- `shown_after r d class`: what follows the keyword of the directive `d` of this class on the line
-- `r`.
abbrev pub shown_after : Reading → Directive → Class → List ℕ
shown_after r d Closing = drop (length r.scan.masked - length d.after) r.line.body
shown_after r d class = d.after

-- `joins_next r`: the line `r` fits, and joins the next one.
abbrev pub joins_next : Reading → Bool
joins_next r = fits r.line && r.scan.joins_after

-- `shown_line class r`: what a mention of this class shows of the line `r`, which continues it.
abbrev pub shown_line : Class → Reading → List ℕ
shown_line Closing r = space ∷ r.line.body
shown_line class r = r.scan.masked

-- `shown_of class r`: the same, or nothing if the line doesn't fit.
abbrev pub shown_of : Class → Reading → List ℕ
shown_of class r = if fits r.line then shown_line class r else []

-- `joined_text class goes_on rs`: what such a mention shows of the lines that the line before `rs`
-- joins, if it goes on.
abbrev pub joined_text : Class → Bool → List Reading → List ℕ
joined_text class false rs = []
joined_text class true [] = []
joined_text class true (r ∷ rs) = shown_of class r ++ joined_text class (joins_next r) rs

-- `mention_at r class after`: the mention of this class on the line `r`, with the text `after`.
abbrev pub mention_at : Reading → Class → List ℕ → Mention
mention_at r class after = record {
  number = r.line.number;
  body = r.line.body;
  spanning = is_spanning r.scan;
  class = class;
  after = after;
}

-- `with_text m more`: the mention `m`, and this text after it.
abbrev pub with_text : Mention → List ℕ → Mention
with_text m more = record m { after = m.after ++ more }

-- `begun found goes_on rs inside others`: the mention `found` with the text of the lines `rs` that
-- continue it, then the mentions `inside`; or the mentions `others` if none was found.
abbrev pub begun : Option Mention → Bool → List Reading → List Mention → List Mention →
    List Mention
begun None goes_on rs inside others = others
begun (Some m) goes_on rs inside others = with_text m (joined_text m.class goes_on rs) ∷ inside

module _ (table : List Argument) where
  -- `mention_by r content`: the mention on the line `r` with this content, up to its end.
  abbrev pub mention_by : Reading → Content → Option Mention
  mention_by r cut_keyword = None
  mention_by r text = if is_definition table r then Some (mention_at r Definition []) else None
  mention_by r (directive d) =
      Some (mention_at r (class_of d.kind) (shown_after r d (class_of d.kind)))

  -- `mention_on r`: the mention that begins on the line `r`, up to the line's end.
  abbrev pub mention_on : Reading → Option Mention
  mention_on r = if fits r.line then mention_by r (content_of r.scan) else None

  -- `mentions_in inside rs`: the mentions of the lines `rs`. `inside`: the line before them belongs
  -- to a mention, and joins them. A logical line has at most one mention.
  abbrev pub mentions_in : Bool → List Reading → List Mention
  mentions_in inside [] = []
  mentions_in true (r ∷ rs) = mentions_in (joins_next r) rs
  mentions_in false (r ∷ rs) =
      begun (mention_on r) (joins_next r) rs (mentions_in (joins_next r) rs)
      (mentions_in false rs)

  -- `mentions_of mode bytes`: the mentions of a text whose lines are read in this mode.
  abbrev pub mentions_of : Mode → List ℕ → List Mention
  mentions_of mode bytes = mentions_in false (read_as mode bytes)
