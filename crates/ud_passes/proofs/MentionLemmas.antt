-- Mentions: a line more, and the end of a mention.
use Rattle.std.proofs.Common.{◌≡◌, List, [], true, false, Option, Some, None, ap, arith}
use Rattle.std.proofs.lemmas.Grind.{common_steps}
use Rattle.ud_model.specs.text.Scans.{Reading}
use Rattle.ud_model.specs.sections.Directives.{Directive, Content, directive, text}
use Rattle.ud_model.specs.conditions.Table.{Argument}
use Rattle.ud_passes.specs.Passes.{fits}
use Rattle.ud_passes.specs.remaining.Definitions.{is_definition}
use Rattle.ud_passes.specs.remaining.Mentions.{Mention, mention_at, mention_by, class_of, shown_after}
use Rattle.ud_passes.specs.declared.remaining.mentions.Class.TheVariants.{Definition}
use Rattle.ud_passes.specs.remaining.Searches.{extended, taken, rest_from, ended}

module _ (table : List Argument) where
  -- A line that fits is taken as it is.
  pub taken_fitting : (p : Option Mention) (r : Reading) → fits r.line ≡ true → taken table p r ≡ extended table p r
  taken_fitting p r e = grind arith

  -- A line that doesn't fit adds nothing.
  pub taken_long : (p : Option Mention) (r : Reading) → fits r.line ≡ false → taken table p r ≡ p
  taken_long p r e = grind (arith, common_steps)

  -- The text has ended.
  pub end_of_text : (p : Option Mention) → rest_from table p true [] ≡ ended p
  end_of_text p = grind (arith, common_steps)

  -- The mention on a line that fits.
  pub undefined_text : (r : Reading) (content : Content) → text ≡ content → is_definition table r ≡ false → None ≡ mention_by table r content
  undefined_text r content e d = grind arith

  pub defining_text : (r : Reading) (content : Content) → text ≡ content → is_definition table r ≡ true → Some (mention_at r Definition []) ≡ mention_by table r content
  defining_text r content e d = grind arith

  pub directive_line : (r : Reading) (d : Directive) (content : Content) → directive d ≡ content →
      Some (mention_at r (class_of d.kind) (shown_after r d (class_of d.kind))) ≡ mention_by table r content
  directive_line r d content e = ap (mention_by table r) e
