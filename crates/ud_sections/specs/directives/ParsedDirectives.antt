-- ParsedDirectives: the directive that the program finds on a line, as a value of the definitions.
--
-- Example: a line where the program finds no directive is text.
use Rattle.std.specs.Prelude.{◌≡◌, ◌+◌, ℕ, length, Option, Some, None, Result, Ok, Err}
use Rattle.std.specs.Prelude.{IfOk, IfSome}
use Rattle.ud_model.specs.sections.Directives.{Content, cut_keyword, text}
use Rattle.ud_model.specs.sections.Directives as model
use Rattle.ud_sections.specs.declared.directives.Directive.{Directive}
use Rattle.ud_sections.specs.declared.directives.Cut.{Cut}
use Rattle.ud_sections.specs.sections.StepViews.{as_span}

-- `as_directive d`: the program's directive, as one of the definitions.
abbrev pub as_directive : Directive → model.Directive
as_directive d = record {
  kind = d.kind;
  keyword = as_span d.keyword;
  after = d.after.now;
  broken =
      d.broken;
}

-- `directive_or_text found`: a directive, or text if there is none.
abbrev pub directive_or_text : Option Directive → Content
directive_or_text None = text
directive_or_text (Some d) = model.directive (as_directive d)

-- `content_found result`: the content of a line for which `directive` returned `result`.
abbrev pub content_found : Result (Option Directive) Cut → Content
content_found (Ok found) = directive_or_text found
content_found (Err cut) = cut_keyword

-- `IsWithinScan found n`: if a directive was found, its keyword and what follows are at the end of
-- the `n` masked bytes of its line.
abbrev pub IsWithinScan : Result (Option Directive) Cut → ℕ → Type 0
IsWithinScan found n =
    IfOk found (λ o. IfSome o (λ d. d.keyword.at + d.keyword.len + length d.after.now ≡ n))
