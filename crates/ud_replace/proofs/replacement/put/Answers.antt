use Rattle.std.proofs.Common.{inl, arith}
use Rattle.ud_replace.specs.Replacing.{read_only, one_link}
use Rattle.ud_replace.proofs.replacement.put.Goals as goal

pub returns-then-not-open_to_write : goal.returns-then-not-open_to_write
returns-then-not-open_to_write g c = read_only (inl c.if-before-gt1.false) c.if-not-open_to_write.ensures

pub returns : goal.returns
returns g c = one_link c.if-before-gt1.false (grind (arith, c.if-not-open_to_write.ensures, c.rename_over.ensures))
