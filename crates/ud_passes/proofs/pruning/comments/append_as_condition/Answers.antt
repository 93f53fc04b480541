-- One comment alone, or not.
use Rattle.std.proofs.Common.{ℕ, List, ◌++◌, map, true, false, ◌∙◌, sym, ap, ap₂}
use Rattle.ud_model.specs.text.Lexemes.{Cell, shown}
use Rattle.ud_simplified.specs.CommentTexts.{cells_around}
use Rattle.ud_passes.proofs.CellLemmas.{if_ok}
use Rattle.ud_passes.proofs.CommentLemmas.{comment_by}
use Rattle.ud_passes.proofs.pruning.comments.append_as_condition.Goals as goal

pub returns-in-Some : goal.returns-in-Some
returns-in-Some c = let p = c.in-Some.ensures.some in
    if_ok c.append_around.result c.append_around.ensures (λ _ e. e ∙ ap (λ (x : List Cell). c.args.shown.now.items ++ map shown x)
    (ap₂ (λ (n m : ℕ). cells_around n m c.args.bytes.now) p.1 p.2 ∙ sym (comment_by c.args.bytes.now true p.0)))

pub returns-in-None : goal.returns-in-None
returns-in-None c = if_ok c.append_spaces.result c.append_spaces.ensures (λ _ e. e ∙ ap (λ (x : List Cell). c.args.shown.now.items ++ map shown x) (sym (comment_by c.args.bytes.now false c.in-None.ensures.none)))
