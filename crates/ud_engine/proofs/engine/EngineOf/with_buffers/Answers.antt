use Rattle.std.proofs.Common.{refl, sym, ap, ◌∙◌, [], arith}
use Rattle.ud_model.specs.sections.Tree.{closed, nothing}
use Rattle.ud_model.specs.sections.Faults.{no_lines}
use Rattle.ud_text.specs.lines.LinesState.{LinesState}
use Rattle.ud_engine.proofs.FeedLemmas.{in_session, none_so_far, none_begun, none_count}
use Rattle.ud_engine.proofs.engine.EngineOf.with_buffers.Goals as goal

pub returns-clause-represents : goal.returns-clause-represents
returns-clause-represents g c = λ s b. in_session g.S.Show.represents g.S.Show.piece _ b.no_text b.no_output (record {
  taken = record {
    items = [];
    tree = closed nothing;
    goes = record { sound = no_lines; are = none_so_far };
    has = c.new.ensures s.options s.pieces (b.settings_are ∙ sym c.settings-settings.ensures) b.show_is_new b.pieces_are;
    printed_is = grind arith;
    symbols = b.symbols_are;
    opened = grind (arith, c.with_buffer.ensures.value);
    took = c.with_buffer.ensures.represents;
    no_fault = ap (λ (l : LinesState). l.fault) c.with_buffer.ensures.value;
    begun = none_begun c.with_buffer.result c.with_buffer.ensures.value;
    count = none_count c.with_buffer.result c.with_buffer.ensures.value;
  };
  works = refl;
  written = c.new-2.ensures;
})
