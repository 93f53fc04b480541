-- By one byte or range more.
use Rattle.std.proofs.Common.{◌≡◌, ◌∙◌, List, ℕ, ◌≤◌, ◌||◌, ◌∷◌, length, false, ap, subst, arith}
use Rattle.std.proofs.lemmas.Grind.{common_steps}
use Rattle.ud_tree.specs.Patterns.{ends_set, within, item_high, set_within}
use Rattle.ud_tree.proofs.PatternSetLemmas.{within_next, within_end, within_none}
use Rattle.ud_tree.proofs.patterns.parts.set_from.Goals as goal

pub returns-then-not-first : goal.returns-then-not-first
returns-then-not-first c = grind (arith, within_end)

pub items-preserved : goal.items-preserved
items-preserved c =
    let rest : c.items.rest.now ≡ c.in-Some.low.now ∷ c.in-Some.after.now = grind (arith, common_steps) in
    let goes_on : ends_set c.items.first c.in-Some.low.now ≡ false = grind (arith, common_steps) in
    let found : c.if-found.found ≡ (c.items.found || within c.in-Some.low.now (item_high c.in-Some.low.now c.in-Some.after.now) c.args.byte) = grind (arith, common_steps) in
    let few = subst (λ (r : List ℕ). length r ≤ c.items.invariant.0) rest c.items.invariant.1 in
    grind (arith, (c.items.invariant.2 ∙ ap (λ (r : List ℕ). set_within c.items.invariant.0 c.items.first c.items.found r c.args.byte) rest), within_next c.items.invariant.0 c.items.first c.items.found c.in-Some.low.now c.in-Some.after.now c.args.byte few goes_on, found, c.set_item-item.ensures.after)

pub returns : goal.returns
returns c = grind (arith, common_steps, within_none)
