-- One file after another.
use Rattle.ud_replace.specs.Moments.{no_call}
use Rattle.ud_tree.proofs.OtherLemmas.{reads_none}
use Rattle.ud_tree.proofs.TreeLaws.{each_then}
use Rattle.ud_tree.proofs.other_files.read_others.Goals as goal

pub loop-found-init : goal.loop-found-init
loop-found-init g c = (no_call, reads_none _ _ c.none-others.ensures)

pub loop-found-preserved : goal.loop-found-preserved
loop-found-preserved g c = (
  each_then c.loop-found.invariant.0 c.add_other.ensures.touches,
  c.in_ok-add_other.ensures.adds c.loop-found.yielded _ c.loop-found.invariant.1,
)

pub returns-in_err-add_other-clause-touches : goal.returns-in_err-add_other-clause-touches
returns-in_err-add_other-clause-touches g c = each_then c.loop-found.invariant.0 c.add_other.ensures.touches
