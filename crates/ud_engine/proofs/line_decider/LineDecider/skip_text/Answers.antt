use Rattle.std.proofs.Common.{◌∷◌, take, refl, ap, ◌∙◌, subst, arith}
use Rattle.std.proofs.Math.ListN.{length-take}
use Rattle.ud_text.specs.lines.LinesState.{LinesState}
use Rattle.ud_text.specs.bulk.BulkScanning.{SkipsText}
use Rattle.ud_model.specs.sections.Items.{mode_by}
use Rattle.ud_sections.proofs.lemmas.sections.MachineLemmas.{plain_is}
use Rattle.ud_sections.specs.sections.MachineState.{StepsText}
use Rattle.ud_sections.specs.sections.Transitions.{text_verdict}
use Rattle.ud_engine.proofs.SkipLemmas.{can_skip_take, reads_none, reads_all, some_line, skips_none}
use Rattle.ud_engine.proofs.line_decider.LineDecider.skip_text.Goals as goal

pub returns-then-count-eq0-clause-consumed : goal.returns-then-count-eq0-clause-consumed
returns-then-count-eq0-clause-consumed g c = skips_none c.args.lines.now

pub returns-then-count-eq0-clause-read : goal.returns-then-count-eq0-clause-read
returns-then-count-eq0-clause-read g c = λ o xs t h.
    reads_none o c.args.self.now _ xs t h c.args.lines.now.before (text_verdict c.args.self.now.machine) c.args.policy.mode refl
    (subst (λ n. SkipsText c.args.policy.mode c.args.self.now.scanner c.skip_text-count.new.self (take n c.args.bytes.now)) c.if-count-eq0.true c.skip_text-count.ensures.skips)

pub consume-last-requires-clause-whole_lines : goal.consume-last-requires-clause-whole_lines
consume-last-requires-clause-whole_lines g c = can_skip_take c.args.lines.now c.args.bytes.now c.skip_text-count.result c.skip_text-count.ensures.ends c.requires.run

pub returns-clause-read : goal.returns-clause-read
returns-clause-read g c = λ o xs t h.
    let bytes = take c.skip_text-count.result c.args.bytes.now in
    let can = can_skip_take c.args.lines.now c.args.bytes.now c.skip_text-count.result c.skip_text-count.ensures.ends c.requires.run in
    let numbered = can.numbered in
    let limit = c.requires.limit in
    let some = c.if-count-eq0.false in
    let bound = c.skip_text-count.ensures.bound in
    let cut = length-take c.skip_text-count.result c.args.bytes.now in
    reads_all o c.args.self.now _ xs t h c.args.lines.now.before (text_verdict c.args.self.now.machine) c.args.policy.mode (ap (λ p. p.mode) c.requires.policy ∙ ap mode_by (plain_is c.args.self.now.machine o xs t h.read))
    bytes can.fits (omega (arith, numbered, limit)) c.skip_text-count.ensures.skips c.consume-last.result
    (c.consume-last.ensures.number ∙ ap (λ (k : LinesState). k.before) c.consume-last.ensures.value) c.step_text.ensures.fault_unchanged
    (λ r rs a last. subst (StepsText c.step_text.new.self o xs t (r ∷ rs)) c.step_text.ensures.verdict (c.step_text.ensures.value o xs t h.read r rs a last))
    (some_line bytes c.skip_text-count.ensures.ends (omega (arith, some, bound, cut)))
