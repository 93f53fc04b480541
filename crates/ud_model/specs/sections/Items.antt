-- Items: each line of a text as text or a directive, read in the mode that the lines before it
-- give.
-- unifdef(1), `-t`, `-iD`, `-iU`.
--
-- A line is read in plain mode under `-t`, and if an ignoring section is open before it. So that
-- section's `#endif` is read in plain mode, and the section doesn't affect the line after it.
use Rattle.std.specs.Prelude.{List, map, Bool, true, false, ◌||◌}
use Rattle.ud_model.specs.text.Lines.{Line}
use Rattle.ud_model.specs.text.Scans.{Reading}
use Rattle.ud_model.specs.text.Scanning.{scan_after}
use Rattle.ud_model.specs.sections.Directives.{Content, cut_keyword, directive, text, content_of}
use Rattle.ud_model.specs.sections.Directives.{role_of}
use Rattle.ud_model.specs.conditions.Table.{Argument}
use Rattle.ud_model.specs.conditions.Conditions.{Decision, Rules, decision_on}
use Rattle.ud_model.specs.sections.Tree.{Item, Opener, Tree, text_line, if_line, elif_line}
use Rattle.ud_model.specs.sections.Tree.{else_line, endif_line, is_ignoring}
use Rattle.ud_model.specs.declared.settings.Settings.{Settings}
use Rattle.ud_model.specs.declared.kind.Mode.{Mode}
use Rattle.ud_model.specs.declared.kind.Mode.TheVariants.{C, Plain}
use Rattle.ud_model.specs.declared.kind.Role.{Role}
use Rattle.ud_model.specs.declared.kind.Role.TheVariants.{IfGroup, ElifGroup, ElseGroup, EndifLine}

-- The options of a command line: the settings, and the arguments that name symbols.
pub record Options : Type 0 where
  pub settings : Settings
  pub table : List Argument

-- `rules_of s`: the rules for expressions under the settings `s`.
abbrev pub rules_of : Settings → Rules
rules_of s = record { constants = s.constants; strict = s.strict }

-- `opener_at r d`: the opener on the line `r` with the decision `d`.
abbrev pub opener_at : Reading → Decision → Opener Reading
opener_at r d = record { line = r; cond = d.cond; ignoring = d.ignoring }

-- `directive_item r role d`: the directive on the line `r` with this role and the decision `d`.
abbrev pub directive_item : Reading → Role → Decision → Item Reading
directive_item r IfGroup d = if_line (opener_at r d)
directive_item r ElifGroup d = elif_line (opener_at r d)
directive_item r ElseGroup d = else_line r
directive_item r EndifLine d = endif_line r

-- `item_by o r content`: the item of the line `r` with this content. A line with a cut keyword is
-- faulty; here it counts as text.
abbrev pub item_by : Options → Reading → Content → Item Reading
item_by o r cut_keyword = text_line r
item_by o r text = text_line r
item_by o r (directive d) = directive_item r (role_of d.kind)
    (decision_on r.scan d o.table (rules_of o.settings))

-- `item_of o r`: the item of the line `r` as read.
abbrev pub item_of : Options → Reading → Item Reading
item_of o r = item_by o r (content_of r.scan)

-- `reading_of x`: the reading of the item's line.
abbrev pub reading_of : Item Reading → Reading
reading_of (text_line r) = r
reading_of (if_line o) = o.line
reading_of (elif_line o) = o.line
reading_of (else_line r) = r
reading_of (endif_line r) = r

-- `line_of x`: the item's line.
abbrev pub line_of : Item Reading → Line
line_of x = (reading_of x).line

-- `mode_by plain`: plain mode if `plain`, else C mode.
abbrev pub mode_by : Bool → Mode
mode_by true = Plain
mode_by false = C

-- `mode_after o t`: the mode of the line after a text with the tree `t`.
abbrev pub mode_after : Options → Tree Reading → Mode
mode_after o t = mode_by (o.settings.plain || is_ignoring t)

-- `read_after xs mode l`: the reading of the line `l` in this mode after the lines `xs`.
abbrev pub read_after : List (Item Reading) → Mode → Line → Reading
read_after xs mode l = record {
  line = l;
  mode = mode;
  scan =
      scan_after (map reading_of xs) mode l;
}

-- `next_item o xs t l`: the item of the line `l` after the lines `xs`, whose tree is `t`.
abbrev pub next_item : Options → List (Item Reading) → Tree Reading → Line → Item Reading
next_item o xs t l = item_of o (read_after xs (mode_after o t) l)
