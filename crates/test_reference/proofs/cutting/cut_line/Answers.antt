-- The bytes before the first newline have none.
use Rattle.std.proofs.Common.{refl, subst, sym}
use Rattle.ud_model.specs.text.Lines.{NoNewline}
use Rattle.ud_text.proofs.lemmas.lines.NewlineLemmas.{no_newline_front, up_to_newline-none}
use Rattle.ud_text.proofs.lemmas.scan.MaskLemmas.{no_newline-take}
use Rattle.test_reference.proofs.cutting.cut_line.Goals as goal

pub returns-in_default-clause-one_line : goal.returns-in_default-clause-one_line
returns-in_default-clause-one_line c = ((up_to_newline-none c.args.text.now c.in_default.ensures).all refl).1

pub returns-in_default-strip_suffix-clause-one_line :
    goal.returns-in_default-strip_suffix-clause-one_line
returns-in_default-strip_suffix-clause-one_line c = no_newline_front c.args.text.now c.in-Some.at c.in-Some.ensures.0.before

pub returns-clause-one_line : goal.returns-clause-one_line
returns-clause-one_line c =
    subst NoNewline (sym c.in-Some-strip_suffix.ensures.cases.1)
    (no_newline-take _ _ (no_newline_front c.args.text.now c.in-Some.at c.in-Some.ensures.0.before))
