-- By what the printer of marks printed.
use Rattle.std.proofs.Common.{ap, ◌∙◌}
use Rattle.std.proofs.lemmas.Result.{IfOk-weaker}
use Rattle.ud_model.specs.text.Lines.{texts_of}
use Rattle.ud_replace.specs.Marks.{read_marks}
use Rattle.ud_replace.proofs.PrintLemmas.{marks_printed}
use Rattle.ud_replace.proofs.line_marks.marks_of.Goals as goal

pub returns : goal.returns
returns c =
    IfOk-weaker c.marks_in.result _ _
    (λ ms read o settings table off. marks_printed o c.args.text.now _ (c.in_ok-marked.ensures o settings table) off ms.items
    (read ∙ ap (λ x. read_marks (texts_of c.args.text.now) (texts_of x)) (c.as_slice.ensures.value ∙ ap (λ v. v.items) c.inner.ensures)))
    c.marks_in.ensures
