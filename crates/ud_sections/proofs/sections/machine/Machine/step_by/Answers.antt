use Rattle.std.proofs.Common.{sym, refl, rules}
use Rattle.ud_model.specs.aids.LineViews.{as_line, as_scan}
use Rattle.ud_sections.proofs.lemmas.sections.TransitionLemmas.{turns_well, turns_ill}
use Rattle.ud_sections.proofs.lemmas.sections.MachineLemmas.{reads_line}
use Rattle.ud_sections.proofs.sections.machine.Machine.step_by.Goals as goal

pub returns-in-Ok : goal.returns-in-Ok
returns-in-Ok c = record {
  represents = λ o xs t h next.
      reads_line c.args.self.now _ o xs t (as_line c.args.line.now) c.in-Ok.next h
      (turns_well c.args.self.now o xs t (as_scan c.args.scan.now) (as_line c.args.line.now) c.args.symbols.now h next c.requires.within c.transition.ensures.fits
      c.in-Ok.next (sym (c.in-Ok.ensures.value o.table next.represents)))
      refl c.apply.ensures c.is_removed-self.ensures refl;
  finds_fault = search rules;
  keyword_within = search rules;
  no_fault = search rules;
  records_fault = search rules;
  unchanged = search rules;
  fused = search rules;
}

pub returns-in-Err : goal.returns-in-Err
returns-in-Err c = record {
  represents = search rules;
  finds_fault = λ o xs t h next none.
      turns_ill c.args.self.now o xs t (as_scan c.args.scan.now) (as_line c.args.line.now) c.args.symbols.now h next c.requires.within c.transition.ensures.fits
      c.in-Err.fault (sym (c.in-Err.ensures.value o.table next.represents));
  keyword_within = search rules;
  no_fault = search rules;
  records_fault = search rules;
  unchanged = search rules;
  fused = search rules;
}
