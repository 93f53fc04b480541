-- By what was read.
use Rattle.ud_tree.specs.Runs.{reads}
use Rattle.ud_tree.proofs.run_file.read_file.Goals as goal

pub returns-in-None-clause-reads : goal.returns-in-None-clause-reads
returns-in-None-clause-reads g c = reads _ c.in-None.ensures.noted

pub returns-then-not-is_of-clause-reads : goal.returns-then-not-is_of-clause-reads
returns-then-not-is_of-clause-reads g c = reads _ c.in-Some.ensures.noted

pub returns-else-not-is_of-clause-reads : goal.returns-else-not-is_of-clause-reads
returns-else-not-is_of-clause-reads g c = reads _ c.in-Some.ensures.noted
