use Rattle.std.proofs.Common.{ap, sym, ◌∙◌, arith}
use Rattle.ud_model.specs.declared.settings.Settings.{Settings}
use Rattle.ud_engine.specs.ProcessedLines.{lister_of}
use Rattle.ud_engine.proofs.line_processor.LineProcessor.new.Goals as goal

pub returns : goal.returns
returns g c = λ o piece e represents stays. record {
  has = c.new.ensures o e;
  lister = c.lister_of.ensures ∙ ap (λ (s : Settings). lister_of s.listing) (sym e);
  shown = represents;
  stays = stays;
  differs = grind arith;
}
