use Rattle.std.proofs.Common.{refl, sym, ◌∙◌}
use Rattle.ud_replace.specs.declared.node.Lookup.TheVariants.{Absent}
use Rattle.ud_tree.specs.WalkMessages.{is_missing, is_lines}
use Rattle.ud_tree.proofs.report.Report.missing.Goals as goal

pub returns-then-contains : goal.returns-then-contains
returns-then-contains g c = record {
  message = _;
  is_of = is_lines c.args.path.now Absent refl refl (sym c.contains.ensures.value ∙ c.if-contains.true) refl;
  reports = c.fault_of.ensures;
}

pub returns : goal.returns
returns g c = record { message = _; is_of = is_missing c.args.path.now refl refl; reports = c.fault.ensures }
