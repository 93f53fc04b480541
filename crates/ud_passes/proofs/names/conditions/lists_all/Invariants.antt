-- For each name before `rest` one was taken from the list.
use Rattle.std.proofs.Common.{◌≡◌, ◌+◌, false, length}
use Rattle.ud_model.specs.conditions.Names.{names_of}
use Rattle.ud_model.specs.declared.kind.Kind.TheVariants.{If}
use Rattle.ud_passes.specs.names.UnlistedConditions.{name_words}
use Rattle.ud_passes.proofs.names.conditions.lists_all.Given as goal

abbrev pub invariant-loop-first : goal.invariant-loop-first
invariant-loop-first l = name_words false l.text + length l.listed ≡ name_words false l.rest + length (names_of If l.text)

abbrev pub decreases-loop-first : goal.decreases-loop-first
decreases-loop-first l = length l.rest
