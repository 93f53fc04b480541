use Rattle.std.proofs.Common.{refl, sym, ap, ◌∙◌, []}
use Rattle.ud_model.specs.sections.Items.{Options}
use Rattle.ud_model.specs.answer.Printing.{piece_after, style_of}
use Rattle.ud_engine.proofs.RunLemmas.{own_session}
use Rattle.ud_engine.proofs.FinishLemmas.{begins}
use Rattle.ud_engine.proofs.pump.run.Goals as goal

pub pump-requires-clause-begun : goal.pump-requires-clause-begun
pump-requires-clause-begun g c =
    let o : Options = record { settings = c.args.plan.now.settings; table = c.args.plan.now.symbols } in
    record {
      options = o;
      text = [];
      printed = [];
      fed = c.with_buffers-engine.ensures.represents (own_session o [] []) (record {
        settings_are = refl;
        symbols_are = λ name. refl;
        show_is_new = λ off. c.of-printer.ensures.represents;
        pieces_are = λ before j. c.of-printer.ensures.piece before j ∙ ap (λ q. piece_after (style_of q) before j) c.settings.ensures;
        no_text = refl;
        no_output = refl;
      });
    }

pub returns-in-Some-clause-finished : goal.returns-in-Some-clause-finished
returns-in-Some-clause-finished g c = λ o s t.
    let u = begins o c.with_buffers-engine.result (g.R.Read.remaining c.args.reader.now.inner) (g.W.Write.contents c.args.out.now.inner)
    (c.with_buffers-engine.ensures.represents (own_session o [] []) (record {
      settings_are = s;
      symbols_are = t;
      show_is_new = λ off. c.of-printer.ensures.represents;
      pieces_are = λ before j. c.of-printer.ensures.piece before j ∙ ap (λ q. piece_after (style_of q) before j) (c.settings.ensures ∙ sym s);
      no_text = refl;
      no_output = refl;
    })) in
    c.in-Some.ensures.finished o (g.R.Read.remaining c.args.reader.now.inner) (g.W.Write.contents c.args.out.now.inner) u

pub returns-in-None-clause-finished : goal.returns-in-None-clause-finished
returns-in-None-clause-finished g c = λ o s t.
    let u = begins o c.with_buffers-engine.result (g.R.Read.remaining c.args.reader.now.inner) (g.W.Write.contents c.args.out.now.inner)
    (c.with_buffers-engine.ensures.represents (own_session o [] []) (record {
      settings_are = s;
      symbols_are = t;
      show_is_new = λ off. c.of-printer.ensures.represents;
      pieces_are = λ before j. c.of-printer.ensures.piece before j ∙ ap (λ q. piece_after (style_of q) before j) (c.settings.ensures ∙ sym s);
      no_text = refl;
      no_output = refl;
    })) in
    c.run_with_long_buffer.ensures.finished o (g.R.Read.remaining c.args.reader.now.inner) (g.W.Write.contents c.args.out.now.inner)
    (c.in-None.ensures.goes_on o (g.R.Read.remaining c.args.reader.now.inner) (g.W.Write.contents c.args.out.now.inner) u)
