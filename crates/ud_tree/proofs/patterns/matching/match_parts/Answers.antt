-- By the parts that match, up to a place where none does.
use Rattle.std.proofs.Common.{◌≡◌, List, ℕ, ◌∷◌, sym, subst, arith}
use Rattle.std.proofs.lemmas.Grind.{common_steps}
use Rattle.ud_tree.specs.PatternPlaces.{Parts, no_part, then_part}
use Rattle.ud_tree.proofs.PatternPlaceLemmas.{reached, shorter}
use Rattle.ud_tree.proofs.patterns.matching.match_parts.Goals as goal

pub parts-init : goal.parts-init
parts-init c = no_part

pub parts-preserved : goal.parts-preserved
parts-preserved c =
    let bytes : c.parts.bytes.now ≡ c.in-Some.byte.now ∷ c.in-Some.rest.now = grind (arith, common_steps) in
    then_part c.in-Some.byte.now (subst (λ (m : List ℕ). Parts c.args.pattern.now c.args.name.now c.parts.parts.now m) bytes c.parts.invariant) (sym c.in-Some-after_part.ensures)

pub returns-in-None-clause-reaches : goal.returns-in-None-clause-reaches
returns-in-None-clause-reaches c = grind (arith, reached)

pub returns-in-None-clause-shorter : goal.returns-in-None-clause-shorter
returns-in-None-clause-shorter c = shorter c.parts.parts.now c.parts.bytes.now c.stop.result c.parts.invariant c.stop.ensures

pub returns-clause-reaches : goal.returns-clause-reaches
returns-clause-reaches c = grind (arith, reached)

pub returns-clause-shorter : goal.returns-clause-shorter
returns-clause-shorter c = shorter c.parts.parts.now c.parts.bytes.now c.stop-2.result c.parts.invariant c.stop-2.ensures
