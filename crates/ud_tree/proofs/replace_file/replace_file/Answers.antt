use Rattle.std.proofs.Common.{[], ◌∷◌, false, refl}
use Rattle.ud_replace.specs.MadeOutcomes.{output_of}
use Rattle.ud_tree.specs.Changes.{after_error, after_update}
use Rattle.ud_tree.specs.Runs.{made}
use Rattle.ud_tree.proofs.RemainderLemmas.{finds_none, finds_then, found_in}
use Rattle.ud_io.specs.Streams.{stream_of}
use Rattle.ud_io.proofs.StreamLemmas.{sends_none, sends_same}
use Rattle.ud_tree.proofs.replace_file.replace_file.Goals as goal

pub returns-in-Err-clause-writes : goal.returns-in-Err-clause-writes
returns-in-Err-clause-writes g c = rw c.unedited.ensures (record {
  shown = [];
  outputs = [];
  texts = c.replace_named.new.kept.text.items ∷ [];
  lost = false;
  loses = λ whole. refl;
  does = λ told. record { text = c.replace_named.new.kept.text.items; is_text = refl; does = c.in-Err.ensures.replaces; change = after_error };
  sent = sends_none (stream_of g.W.Write.contents c.args.out.now);
  finds = found_in c.as_slice.ensures.value c.find_names.ensures.finds;
})

pub returns-clause-writes : goal.returns-clause-writes
returns-clause-writes g c = record {
  shown = c.change_of-diff.result.items;
  outputs = made c.args.file.name.now (output_of c.replace_named.new.kept);
  texts = c.replace_named.new.kept.text.items ∷ [];
  lost = c.change_of-diff.new.report.lacks_memory;
  loses = λ whole. whole;
  does = λ told. record {
    text = c.replace_named.new.kept.text.items;
    is_text = refl;
    does = c.in-Ok.ensures.replaces;
    change = after_update _ _ c.edits_of.result (λ o p. rw c.edits_of.ensures.conditions (c.in-Ok.ensures.keeps refl o p)) c.edits_of.ensures.lines
        c.change_of-diff.ensures.change;
  };
  sent = sends_same c.as_slice-2.ensures.value c.send.ensures;
  finds = finds_then _ [] _ [] c.find.ensures.finds
      (finds_none c.change_of-diff.ensures.remaining c.change_of-diff.ensures.lost c.change_of-diff.ensures.unnamed);
}
