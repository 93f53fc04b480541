-- ClassifiedLines: what decides a directive's line among the sections.
use Rattle.std.specs.Prelude.{List}
use Rattle.ud_model.specs.text.Scans.{Scan, is_spanning}
use Rattle.ud_model.specs.sections.Directives.{role_of, Directive, Span as TextSpan}
use Rattle.ud_model.specs.conditions.Conditions.{Rules, decision_on}
use Rattle.ud_model.specs.conditions.Table.{Argument}
use Rattle.ud_sections.specs.declared.sections.classify_line.ClassifiedLine.{ClassifiedLine}
use Rattle.ud_sections.specs.declared.sections.step.Span.{Span}

-- `span_of s`: the program's form of a span.
abbrev pub span_of : TextSpan → Span
span_of s = record { at = s.at; len = s.len }

-- `classified scan d table rules`: the line with this scan and the directive `d`, classified.
abbrev pub classified : Scan → Directive → List Argument → Rules → ClassifiedLine
classified scan d table rules = record {
  role = role_of d.kind;
  cond = (decision_on scan d table rules).cond;
  ignoring = (decision_on scan d table rules).ignoring;
  keyword = span_of d.keyword;
  spans = is_spanning scan;
  joins_before = scan.joins_before;
}
