use Rattle.std.proofs.Common.{◌≡◌, ◌++◌}
use Rattle.ud_model.specs.conditions.Names.{names_of}
use Rattle.ud_model.specs.declared.kind.Kind.TheVariants.{If}
use Rattle.unifdef_c.specs.Words.{block_of}
use Rattle.unifdef_c.proofs.decide.name_block.Given as goal

abbrev pub invariant-loop-name : goal.invariant-loop-name
invariant-loop-name l = record {
  can : (goal.iterator-loop-name).can_next l.name-iterator;
  ends : (goal.iterator-loop-name).is_finite l.name-iterator;
  taken : l.all.items ++ block_of l.name-iterator ≡ block_of (names_of If l.expression);
}
