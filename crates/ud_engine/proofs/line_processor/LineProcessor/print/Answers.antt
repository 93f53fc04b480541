use Rattle.std.proofs.Common.{refl, rules}
use Rattle.ud_model.specs.aids.LineViews.{as_line}
use Rattle.ud_model.specs.answer.Printing.{judged_lines}
use Rattle.ud_model.specs.sections.Pruning.{marks}
use Rattle.ud_io.specs.Streams.{stream_of}
use Rattle.ud_engine.proofs.ProcessorLemmas.{shows_line}
use Rattle.ud_engine.proofs.line_processor.LineProcessor.print.Goals as goal

pub returns-in_ok-step-in-None-clause-prints : goal.returns-in_ok-step-in-None-clause-prints
returns-in_ok-step-in-None-clause-prints g c = λ o piece xs t represents h.
    let one = c.in_ok-step-in-None.ensures.decides o xs t represents h.has in
    shows_line g.S.Show.represents g.S.Show.piece o piece xs t (as_line c.args.line.now) c.args.self.now _ c.in_ok-step-in-None.step c.append_line-shown.result
    (stream_of g.W.Write.contents c.args.out.now) (stream_of g.W.Write.contents c.append_line-shown.new.out) c.args.output.now c.append_line-shown.new.output c.args.pending.now h
    (search rules) refl refl one c.append_line-shown.ensures.represents c.append_line-shown.ensures.stays
    (c.append_line-shown.ensures.shows (judged_lines xs (marks t)))
