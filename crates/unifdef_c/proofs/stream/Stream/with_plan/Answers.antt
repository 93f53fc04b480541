use Rattle.std.proofs.Common.{rules, refl, sym, ap, ◌∙◌, []}
use Rattle.ud_model.specs.answer.Printing.{piece_after, style_of}
use Rattle.unifdef_c.specs.Streams.{session}
use Rattle.unifdef_c.proofs.stream.Stream.with_plan.Goals as goal

pub returns-clause-ok : goal.returns-clause-ok
returns-clause-ok c = record {
  fed = λ o s t. c.new.ensures.represents (session o [] []) (record {
    settings_are = s;
    symbols_are = t;
    show_is_new = λ off. c.of.ensures.represents;
    pieces_are = λ before j. c.of.ensures.piece before j ∙ ap (λ q. piece_after (style_of q) before j) (c.settings-settings.ensures ∙ sym s);
    no_text = refl;
    no_output = refl;
  });
  empty = ap (λ v. v.items) c.new-3.ensures.inner ∙ c.new-2.ensures.items;
  works = c.new-3.ensures.failed;
  untaken = refl;
  named = search rules;
  set = c.settings-settings.ensures;
  goes_on = refl;
}
