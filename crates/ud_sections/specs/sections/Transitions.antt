-- Transitions: the machine's transition for the next line.
use Rattle.std.specs.Prelude.{◌≡◌, ℕ, List, length, Result, Ok, Err}
use Rattle.ud_model.specs.text.Scans.{Scan}
use Rattle.ud_model.specs.sections.Directives.{Content, content_of, cut_keyword, directive, text}
use Rattle.ud_model.specs.conditions.Conditions.{Rules}
use Rattle.ud_model.specs.conditions.Table.{Argument}
use Rattle.ud_model.specs.declared.verdict.Verdict.{Verdict}
use Rattle.ud_model.specs.sections.Items.{mode_by, rules_of}
use Rattle.ud_cond.specs.symbols.SymbolTable.{TableRepresents}
use Rattle.ud_sections.specs.declared.sections.fault.SectionFault.{SectionFault}
use Rattle.ud_sections.specs.declared.sections.fault.SectionFault.TheVariants.{Obfuscated}
use Rattle.ud_sections.specs.declared.sections.check.LineContext.{LineContext}
use Rattle.ud_sections.specs.declared.sections.open_section.Action.{Action}
use Rattle.ud_sections.specs.declared.sections.open_section.StackOp.TheVariants.{Stay}
use Rattle.ud_sections.specs.declared.sections.machine.Machine.{Machine}
use Rattle.ud_sections.specs.declared.sections.machine.Transition.{Transition}
use Rattle.ud_sections.specs.declared.sections.step.Span.{Span}
use Rattle.ud_sections.specs.declared.sections.text_policy.TextPolicy.{TextPolicy}
use Rattle.ud_sections.specs.sections.Actions.{kept_at, plain_at, text_verdict_at}
use Rattle.ud_sections.specs.sections.StackOps.{innermost_of}
use Rattle.ud_sections.specs.sections.ClassifiedLines.{classified, span_of}
use Rattle.ud_sections.specs.sections.Checking.{checked_by}

-- `context_of m`: the context of the next line: what the lines before it decide.
abbrev pub context_of : Machine → LineContext
context_of m = record {
  enclosing = record { section = innermost_of m.open_sections.items; plain = m.settings.plain };
  depth = length m.open_sections.items;
  removed = m.removed;
}

-- `text_verdict m`: the verdict of a text line, by the innermost open section.
abbrev pub text_verdict : Machine → Verdict
text_verdict m = text_verdict_at (kept_at (innermost_of m.open_sections.items))

-- `text_policy_of m`: the mode and verdict of a text line, by the innermost open section.
abbrev pub text_policy_of : Machine → TextPolicy
text_policy_of m = record {
  mode = mode_by (plain_at m.settings.plain (innermost_of m.open_sections.items));
  verdict = text_verdict m;
}

-- `transition_with keyword result`: the transition with this action and keyword span, or the same
-- fault.
abbrev pub transition_with : Span → Result Action SectionFault → Result Transition SectionFault
transition_with keyword (Ok a) =
    Ok (record { step = record { verdict = a.verdict; keyword = keyword }; change = a.change })
transition_with keyword (Err f) = Err f

-- `transition_of before n scan table rules content`: the step of a line of number `n` with this
-- scan and content, and its change of the open sections. A cut keyword is a fault.
abbrev pub transition_of : LineContext → ℕ → Scan → List Argument → Rules → Content →
    Result Transition SectionFault
transition_of before n scan table rules cut_keyword = Err (Obfuscated n)
transition_of before n scan table rules text = Ok (record {
  step = record {
    verdict = text_verdict_at (kept_at before.enclosing.section);
    keyword = record { at = 0; len = 0 };
  };
  change = Stay;
})
transition_of before n scan table rules (directive d) =
    transition_with (span_of d.keyword) (checked_by before (classified scan d table rules) n)

-- `IsTransition m scan table n result`: for the calls that `table` represents, `result` is the
-- transition of the line of number `n` with this scan.
abbrev pub IsTransition : Machine → Scan → List Argument → ℕ →
    Result Transition SectionFault → Type 0
IsTransition m scan table n result =
    (calls : List Argument) → TableRepresents table calls →
    result ≡ transition_of (context_of m) n scan calls (rules_of m.settings) (content_of scan)
