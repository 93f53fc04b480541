-- By the run over the file's text, and the diff of text and output.
use Rattle.std.proofs.Common.{[], ◌∷◌, false, refl}
use Rattle.ud_replace.specs.MadeOutcomes.{output_of}
use Rattle.ud_tree.specs.Runs.{made}
use Rattle.ud_tree.proofs.RemainderLemmas.{finds_output, finds_then, found_in}
use Rattle.ud_tree.specs.Shown.{faulty, same, several}
use Rattle.ud_io.specs.Streams.{stream_of}
use Rattle.ud_tree.proofs.ShownLemmas.{no_memory, runs_over, shows_none, shows_changed}
use Rattle.ud_io.proofs.StreamLemmas.{sends_same}
use Rattle.ud_tree.proofs.show_file.show_file.Goals as goal

pub returns-in-Err-clause-writes : goal.returns-in-Err-clause-writes
returns-in-Err-clause-writes g c = rw c.unedited.ensures
    (shows_none (stream_of g.W.Write.contents c.args.out.now) c.run_file.ensures.reads (λ o p. faulty (c.in-Err.ensures.ran o p)) (found_in c.as_slice.ensures.value c.find_names.ensures.finds))

pub returns-in_default-clause-writes : goal.returns-in_default-clause-writes
returns-in_default-clause-writes g c = rw c.unedited-in_default.ensures
    (shows_none (stream_of g.W.Write.contents c.args.out.now) c.run_file.ensures.reads (λ o p. faulty (no_memory o c.in-Ok.ensures.text)) (found_in c.as_slice-2.ensures.value c.find_names-2.ensures.finds))

pub returns-then-not-ran-clause-writes : goal.returns-then-not-ran-clause-writes
returns-then-not-ran-clause-writes g c = rw c.unedited-then-not-ran.ensures
    (shows_none (stream_of g.W.Write.contents c.args.out.now) c.run_file.ensures.reads (λ o p. same _ _ _ _ c.in-Ok.ensures.text (runs_over (c.in-Ok.ensures.ran o p) c.if-not-ran.true)) c.find.ensures.finds)

pub returns-then-is_left_alone-clause-writes : goal.returns-then-is_left_alone-clause-writes
returns-then-is_left_alone-clause-writes g c =
    let left = c.is_left_alone.ensures.left c.if-is_left_alone.true in
    rw c.unedited-then-is_left_alone.ensures (shows_none (stream_of g.W.Write.contents c.args.out.now) c.run_file.ensures.reads
    (λ o p. several _ _ _ _ c.in-Ok.ensures.text (runs_over (c.in-Ok.ensures.ran o p) c.if-not-ran.false) left.0 left.1) (found_in c.as_slice-2.ensures.value c.find_names-2.ensures.finds))

pub returns-clause-writes : goal.returns-clause-writes
returns-clause-writes g c = record {
  shown = c.in-Ok-diff_of.diff.items;
  outputs = made c.args.file.name.now (output_of c.run_file.new.kept);
  texts = c.run_file.new.kept.text.items ∷ [];
  lost = false;
  loses = λ whole. refl;
  does = λ told. record {
    text = c.run_file.new.kept.text.items;
    is_text = refl;
    reads = c.run_file.ensures.reads;
    shows = λ o p. shows_changed o _ _ _ _ _ c.edits_of.result _ _ _
        c.in-Ok.ensures.text (rw c.edits_of.ensures.conditions (runs_over (c.in-Ok.ensures.ran o p) c.if-not-ran.false)) (c.is_left_alone.ensures.replaced c.if-is_left_alone.false)
        c.in-Ok-diff_of.ensures c.edits_of.ensures.lines;
  };
  sent = sends_same c.as_slice-3.ensures.value c.send.ensures;
  finds = finds_then _ [] [] _ (found_in c.as_slice-2.ensures.value c.find_names-2.ensures.finds) (finds_output (rw c.output.ensures at c.search.ensures.finds));
}
