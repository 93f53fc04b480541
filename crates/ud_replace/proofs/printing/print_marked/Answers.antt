-- The engine is fed the text, and ends.
use Rattle.std.proofs.Common.{refl, ap, sym, ◌∙◌}
use Rattle.ud_replace.specs.Marks.{marked_piece}
use Rattle.ud_replace.proofs.PrintLemmas.{fresh, prints_marks}
use Rattle.ud_replace.proofs.printing.print_marked.Goals as goal

pub returns : goal.returns
returns c = λ o settings table.
    let s = fresh o (marked_piece c.new-printer.result.settings) in
    let fed = c.in-Ok.ensures.feeds s (c.with_buffers-engine.ensures.represents s (record {
      settings_are = settings;
      symbols_are = table;
      show_is_new = λ off. tt;
      pieces_are = λ before j. refl;
      no_text = refl;
      no_output = refl;
    })) in
    prints_marks o c.new-printer.result.settings c.args.text.now _ _ _ fed.more _ (c.new-printer.ensures ∙ c.settings.ensures ∙ sym settings)
    (ap (λ v. v.items) c.new-out.ensures.inner ∙ c.new-3.ensures.items) fed.appended
    (c.in-Ok-finish.ensures.finishes (record { options = o; pieces = marked_piece c.new-printer.result.settings; text = c.args.text.now; printed = fed.more }) fed.fed)
