use Rattle.std.proofs.Common.{◌∙◌, refl, sym}
use Rattle.ud_replace.specs.declared.node.Lookup.TheVariants.{Unknown}
use Rattle.ud_tree.specs.WalkMessages.{is_lines, is_unknown}
use Rattle.ud_tree.proofs.ReportLemmas.{reports_weaker}
use Rattle.ud_tree.proofs.report.Report.unknown.Goals as goal

pub returns-then-contains : goal.returns-then-contains
returns-then-contains g c = record {
  message = _;
  is_of = is_lines c.args.path.now Unknown refl refl (sym c.contains.ensures.value ∙ c.if-contains.true) refl;
  reports = c.fault_of.ensures;
}

pub returns : goal.returns
returns g c = reports_weaker (λ m of. is_unknown c.args.path.now refl of) c.failure.ensures
