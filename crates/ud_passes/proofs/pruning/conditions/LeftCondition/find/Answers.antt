-- The text stays, or the rest of it was found.
use Rattle.std.proofs.lemmas.Grind.{common_steps}
use Rattle.std.proofs.Common.{◌≡◌, ℕ, List, Bool, map, Some, sym, ◌∙◌, ap, subst, arith}
use Rattle.ud_model.specs.text.Lexemes.{shown}
use Rattle.ud_model.specs.conditions.Conditions.{Rules, expression_cond}
use Rattle.ud_model.specs.aids.Residuals.{is_unknown, keeps}
use Rattle.ud_simplified.specs.ResidualTexts.{left_cells}
use Rattle.ud_model.specs.conditions.Parsing.{expression_of}
use Rattle.ud_cond.specs.CondViews.{as_rules}
use Rattle.ud_passes.specs.pruning.Cells.{AreCells}
use Rattle.ud_passes.proofs.LeftLemmas.{known_stays, settled_stays, found_or_stays}
use Rattle.ud_passes.proofs.pruning.conditions.LeftCondition.find.Goals as goal

pub returns-then-not-is_unknown-clause-found : goal.returns-then-not-is_unknown-clause-found
returns-then-not-is_unknown-clause-found c = λ calls h cells a q.
    grind (arith, known_stays, c.is_unknown.ensures calls h)

pub returns-then-not-find_residual-clause-found : goal.returns-then-not-find_residual-clause-found
returns-then-not-find_residual-clause-found c = λ calls h cells a q.
    grind (arith, settled_stays, c.if-not-find_residual.true)

pub returns-clause-found : goal.returns-clause-found
returns-clause-found c = λ calls h cells a q.
    let rules : Rules = as_rules c.args.rules in
    let r = c.find_residual.ensures.yes c.if-not-find_residual.false calls h in
    let p : expression_of (map shown cells) ≡ Some r.tree = ap expression_of a.shown_are ∙ r.kept.tree_is in
    let flags : c.as_slice.result.now ≡ keeps calls rules r.tree = c.as_slice.ensures ∙ r.kept.flags_are in
    let left : AreCells (left_cells (keeps calls rules r.tree) cells) c.append_left.new.left.bytes.items c.append_left.new.left.shown.items =
    subst (λ (l : List Bool). AreCells (left_cells l cells) c.append_left.new.left.bytes.items c.append_left.new.left.shown.items) flags
    (grind (arith, common_steps, c.clear.ensures.bytes, c.clear.ensures.shown, c.in_ok-append_left.ensures.left cells a)) in
    found_or_stays calls rules cells r.tree p
    (ap (λ (l : List ℕ). is_unknown (expression_cond l calls rules)) a.shown_are ∙ sym (c.is_unknown.ensures calls h) ∙ c.if-not-is_unknown.false)
    (ap is_unknown r.unknown) q c.may_stand.result c.append_left.new.left left
    (c.may_stand.ensures calls r.tree (left_cells (keeps calls rules r.tree) cells) h
    (record { tree_is = r.kept.tree_is; flags_are = c.as_slice-flags.ensures ∙ r.kept.flags_are }) (left.shown_are ∙ sym c.as_slice-left.ensures.value))
