use Rattle.std.proofs.Common.{inr, refl}
use Rattle.ud_replace.specs.Replacing.{several, read_only, several_writes}
use Rattle.ud_replace.proofs.StepLemmas.{overwrites_from}
use Rattle.ud_replace.proofs.replacement.put_into.Goals as goal

pub returns-then-not-target : goal.returns-then-not-target
returns-then-not-target g c = several c.requires.several c.if-not-target.true refl

pub returns-then-not-open_to_write : goal.returns-then-not-open_to_write
returns-then-not-open_to_write g c = read_only (inr c.if-not-target.false) c.if-not-open_to_write.ensures

pub returns : goal.returns
returns g c = several_writes c.requires.several c.if-not-target.false (overwrites_from c.if-not-open_to_write.ensures c.overwrite.ensures)
