-- One line after another.
use Rattle.std.proofs.Common.{ℕ, List, ◌++◌, length, replicate, ap, ap₂, append-nil, append_assoc, sym, ◌∙◌}
use Rattle.std.proofs.lemmas.Bool.{eqb-true, eqb-false}
use Rattle.ud_passes.specs.declared.diff.script.TheConstants.{SAME}
use Rattle.ud_replace.specs.Marks.{read_marks}
use Rattle.ud_model.specs.text.Lines.{texts_of, whole_lines}
use Rattle.ud_replace.proofs.MarkLemmas.{marks_after, read_marks-next, read_marks-none}
use Rattle.ud_replace.proofs.line_marks.marks_in.Goals as goal

pub loop-rest-preserved : goal.loop-rest-preserved
loop-rest-preserved c =
    ap (λ (x : List ℕ). x ++ read_marks (texts_of c.first_line.result.1.now) (texts_of c.first_line-else-same-gt0.result.1.now)) c.in_ok-push.ensures.items
    ∙ read_marks-next _ _ _ _ _ _ _ _ (eqb-false _ _ (sym c.loop-rest-test.ensures))
    c.first_line.ensures.first c.first_line-else-same-gt0.ensures.first c.first_line.ensures.rest c.first_line-else-same-gt0.ensures.rest c.mark_in.ensures
    ∙ c.loop-rest.invariant

pub loop-rest-preserved-then-same-gt0 : goal.loop-rest-preserved-then-same-gt0
loop-rest-preserved-then-same-gt0 c =
    ap₂ (λ (x y : List ℕ). x ++ y)
    (c.in_ok-push_same.ensures ∙ ap (λ (n : ℕ). c.loop-rest.marks.items ++ replicate n SAME) (c.count_lines.ensures ∙ ap (λ (x : List ℕ). length (whole_lines x)) c.split_at.ensures.front))
    (ap₂ (λ (x y : List ℕ). read_marks (texts_of x) (texts_of y)) c.split_at.ensures.back c.split_at-then-same-gt0.ensures.back)
    ∙ append_assoc c.loop-rest.marks.items _ _
    ∙ ap (λ (x : List ℕ). c.loop-rest.marks.items ++ x) (marks_after c.same_lines_len-same.result c.loop-rest.rest.now c.loop-rest.printed.now c.same_lines_len-same.ensures.same c.same_lines_len-same.ensures.whole)
    ∙ c.loop-rest.invariant

pub returns : goal.returns
returns c =
    sym (append-nil c.loop-rest.marks.items)
    ∙ ap (λ (x : List ℕ). c.loop-rest.marks.items ++ x) (sym (read_marks-none (texts_of c.loop-rest.rest.now) c.loop-rest.printed.now (eqb-true _ _ (sym c.loop-rest-test.ensures))))
    ∙ c.loop-rest.invariant
