use Rattle.std.proofs.Common.{false}
use Rattle.ud_tree.specs.WalkSteps.{is_cut, is_told}
use Rattle.ud_tree.proofs.walk.Walk.list_directory.Goals as goal

pub returns : goal.returns
returns g c = record {
  answer = false;
  messages = _;
  called = c.if-listed.ensures.noted;
  told = is_told c.failure.ensures.message c.failure.ensures.reports;
  reads = is_cut c.failure.ensures.message
      (rw c.as_bytes.ensures.value at c.failure.ensures.is_of);
}
