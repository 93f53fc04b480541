use Rattle.std.proofs.Common.{◌∙◌, take, arith}
use Rattle.std.proofs.lemmas.Grind.{common_steps}
use Rattle.ud_tree.specs.TreeRuns.{all_done, stopped}
use Rattle.ud_tree.proofs.RunLemmas.{writes_none, writes_push, writes_all}
use Rattle.ud_tree.proofs.process_files.process_files.Goals as goal

pub loop-done-init : goal.loop-done-init
loop-done-init g c = grind (arith, common_steps, writes_none)

pub loop-done-preserved : goal.loop-done-preserved
loop-done-preserved g c = record {
  counted = omega arith;
  lists = c.process_file-result.ensures.writes.adds.lists ∙ c.loop-done.invariant.lists;
  written =
      writes_push c.args.files.now c.loop-done.done c.index-files-done.result c.as_bytes-name.result.now
      c.process_file-result.result c.fate_of.result c.add.new.self c.loop-done-test.true
      c.index-files-done.is c.as_bytes-name.ensures.value c.loop-done.invariant.written
      c.progress.ensures c.process_file-result.ensures.screen
      c.process_file-result.ensures.writes c.tell_result.ensures c.fate_of.ensures c.add.ensures.changed c.add.ensures.unchanged c.add.ensures.faulty c.add.ensures.conditions c.add.ensures.lines;
}

pub returns-then-is_unrecorded : goal.returns-then-is_unrecorded
returns-then-is_unrecorded g c = record {
  done = take c.loop-done.done c.args.files.now;
  is_done = let it = c.is_unrecorded.ensures.yes c.if-is_unrecorded.true in stopped c.loop-done.done it.0 it.1;
  does = c.loop-done.invariant.written;
}

pub returns : goal.returns
returns g c = record {
  done = c.args.files.now;
  is_done = all_done;
  does = writes_all c.args.files.now c.loop-done.done (omega arith) c.loop-done.invariant.written;
}
