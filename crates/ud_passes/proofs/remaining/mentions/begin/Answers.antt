-- No mention, a definition, or a directive.
use Rattle.std.proofs.Common.{List, ℕ, ◌++◌, Some, sym, ◌∙◌, ap, ap₂}
use Rattle.ud_model.specs.text.Scans.{Reading}
use Rattle.ud_model.specs.aids.LineViews.{as_line, as_scan}
use Rattle.ud_sections.specs.directives.ParsedDirectives.{as_directive, directive_or_text}
use Rattle.ud_passes.specs.Walks.{reading_at}
use Rattle.ud_passes.specs.remaining.Mentions.{mention_at, shown_after}
use Rattle.ud_passes.specs.declared.remaining.mentions.Class.{Class}
use Rattle.ud_passes.specs.declared.remaining.mentions.Class.TheVariants.{Definition}
use Rattle.ud_passes.proofs.MentionLemmas.{undefined_text, defining_text, directive_line}
use Rattle.ud_passes.proofs.remaining.mentions.begin.Goals as goal

pub returns-then-not-is_definition : goal.returns-then-not-is_definition
returns-then-not-is_definition c = λ calls h mode.
    let r : Reading = reading_at mode (as_line c.args.line.now) (as_scan c.args.scan.now) c.args.number in
    undefined_text calls r _ (ap directive_or_text (sym c.in-Ok-None.field-0-is) ∙ c.in-Ok-None.ensures.value) (sym (c.is_definition.ensures calls h mode c.args.number) ∙ c.if-not-is_definition.true)

pub returns-else-not-is_definition : goal.returns-else-not-is_definition
returns-else-not-is_definition c = λ calls h mode.
    let r : Reading = reading_at mode (as_line c.args.line.now) (as_scan c.args.scan.now) c.args.number in
    ap Some (c.begun_on-in-Ok-None.ensures mode _) ∙ ap (λ (x : List ℕ). Some (mention_at r Definition x)) c.clear-in-Ok-None.ensures.items
    ∙ defining_text calls r _ (ap directive_or_text (sym c.in-Ok-None.field-0-is) ∙ c.in-Ok-None.ensures.value) (sym (c.is_definition.ensures calls h mode c.args.number) ∙ c.if-not-is_definition.false)

pub returns-in_ok-extend_from_slice-in-Ok-Some : goal.returns-in_ok-extend_from_slice-in-Ok-Some
returns-in_ok-extend_from_slice-in-Ok-Some c = λ calls h mode.
    let r : Reading = reading_at mode (as_line c.args.line.now) (as_scan c.args.scan.now) c.args.number in
    let text = c.in_ok-extend_from_slice-in-Ok-Some.ensures.items ∙ ap (λ (x : List ℕ). x ++ c.shown_after.result.now) c.clear.ensures.items
    ∙ c.shown_after.ensures mode c.args.number ∙ ap (shown_after r (as_directive c.in-Ok-Some.found)) c.class_of-class.ensures in
    ap Some (c.begun_on.ensures mode _) ∙ ap₂ (λ (x : Class) (y : List ℕ). Some (mention_at r x y)) c.class_of-class.ensures text
    ∙ directive_line calls r (as_directive c.in-Ok-Some.found) _ (ap directive_or_text (sym c.in-Ok-Some.field-0-is) ∙ c.in-Ok-Some.ensures.value)
