use Rattle.std.proofs.Common.{◌≡◌, rules, ap, sym, ◌∙◌, [], suc, take, true, false, refl, subst, arith}
use Rattle.std.proofs.Math.ListN.{length-take}
use Rattle.ud_model.specs.text.Lines.{text_of, numbered_from, whole_lines}
use Rattle.ud_sections.specs.sections.Transitions.{text_verdict}
use Rattle.ud_sections.specs.printing.PrinterOutputs.{PrintsOne}
use Rattle.ud_text.specs.bulk.BulkLexemes.{at_start}
use Rattle.ud_text.proofs.lemmas.bulk.BulkPlainLemmas.{begins_ends}
use Rattle.ud_engine.specs.DecidedLines.{DecidesBulk}
use Rattle.ud_engine.proofs.SkipLemmas.{skips_none}
use Rattle.ud_engine.proofs.BulkPrintLemmas.{prints_none, prints_run, lists_run, kept_same, kept_text, dropped_differ, dropped_text, no_lines, none_other}
use Rattle.ud_engine.proofs.line_processor.LineProcessor.skip_text.Goals as goal
use Rattle.ud_sections.proofs.lemmas.sections.ActionLemmas.{or_false}

pub returns-then-is_some-clause-printed : goal.returns-then-is_some-clause-printed
returns-then-is_some-clause-printed g c = λ o piece xs t h.
    let bytes = take c.skip_text.result c.args.bytes.now in
    lists_run g.S.Show.represents g.S.Show.piece o piece xs t c.args.self.now h _ (numbered_from (suc c.args.lines.now.before) (whole_lines bytes)) (text_verdict c.args.self.now.decider.machine)
    (sym c.is_some.ensures ∙ c.if-is_some.true) refl refl refl (c.skip_text.ensures.read o xs t h.has)

pub returns-in-Ending-clause-ends : goal.returns-in-Ending-clause-ends
returns-in-Ending-clause-ends g c = begins_ends _ at_start

pub returns-in-Ending-clause-consumed : goal.returns-in-Ending-clause-consumed
returns-in-Ending-clause-consumed g c = skips_none c.args.lines.now

pub returns-in-Ending-clause-printed : goal.returns-in-Ending-clause-printed
returns-in-Ending-clause-printed g c = λ o piece xs t h.
    prints_none g.S.Show.represents g.S.Show.piece o piece xs t c.args.self.now h (suc c.args.lines.now.before)

pub returns-in-Whole-clause-printed : goal.returns-in-Whole-clause-printed
returns-in-Whole-clause-printed g c = λ o piece xs t h.
    let bytes = take c.skip_text-in-Whole.result c.args.bytes.now in
    let verdict = text_verdict c.args.self.now.decider.machine in
    prints_run g.S.Show.represents g.S.Show.piece o piece xs t c.args.self.now h _ (numbered_from (suc c.args.lines.now.before) (whole_lines bytes)) verdict text_of false bytes
    (search rules) refl refl (or_false c.args.self.now.differs) (c.skip_text-in-Whole.ensures.read o xs t h.has)
    (subst (λ v. PrintsOne (g.S.Show.represents c.args.self.now.printer) (g.S.Show.piece c.args.self.now.printer) v text_of) (ap (λ p. p.verdict) c.text_policy-policy.ensures.value) c.in-Whole.ensures.line_output)
    (kept_same verdict (numbered_from (suc c.args.lines.now.before) (whole_lines bytes)))
    (kept_text (suc c.args.lines.now.before) bytes c.skip_text-in-Whole.ensures.ends)

pub returns-then-count-eq0-clause-printed : goal.returns-then-count-eq0-clause-printed
returns-then-count-eq0-clause-printed g c = λ o piece xs t h.
    let verdict = text_verdict c.args.self.now.decider.machine in
    let lines = numbered_from (suc c.args.lines.now.before) (whole_lines []) in
    let none = no_lines (suc c.args.lines.now.before) in
    prints_run g.S.Show.represents g.S.Show.piece o piece xs t c.args.self.now h _ lines verdict (λ l. []) false []
    (search rules) refl refl (or_false c.args.self.now.differs)
    (subst (λ n. DecidesBulk o c.skip_text-count.new.self xs t (numbered_from (suc c.args.lines.now.before) (whole_lines (take n c.args.bytes.now))) verdict)
    c.if-count-eq0.true (c.skip_text-count.ensures.read o xs t h.has))
    (subst (λ v. PrintsOne (g.S.Show.represents c.args.self.now.printer) (g.S.Show.piece c.args.self.now.printer) v (λ l. [])) (ap (λ p. p.verdict) c.text_policy-policy.ensures.value) c.in-Nothing.ensures.line_output)
    (none_other verdict (λ l. []) lines none)
    (dropped_text lines)

pub returns-else-count-eq0-clause-printed : goal.returns-else-count-eq0-clause-printed
returns-else-count-eq0-clause-printed g c = λ o piece xs t h.
    let bytes = take c.skip_text-count.result c.args.bytes.now in
    let verdict = text_verdict c.args.self.now.decider.machine in
    let lines = numbered_from (suc c.args.lines.now.before) (whole_lines bytes) in
    let some : c.skip_text-count.result ≡ 0 → ⊥ = c.if-count-eq0.false in
    let bound = c.skip_text-count.ensures.bound in
    let cut = length-take c.skip_text-count.result c.args.bytes.now in
    prints_run g.S.Show.represents g.S.Show.piece o piece xs t c.args.self.now h _ lines verdict (λ l. []) true []
    (search rules) refl refl (grind arith) (c.skip_text-count.ensures.read o xs t h.has)
    (subst (λ v. PrintsOne (g.S.Show.represents c.args.self.now.printer) (g.S.Show.piece c.args.self.now.printer) v (λ l. [])) (ap (λ p. p.verdict) c.text_policy-policy.ensures.value) c.in-Nothing.ensures.line_output)
    (dropped_differ verdict (suc c.args.lines.now.before) bytes c.skip_text-count.ensures.ends (omega (arith, some, bound, cut)))
    (dropped_text lines)
