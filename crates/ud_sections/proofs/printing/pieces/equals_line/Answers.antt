use Rattle.std.proofs.Common.{◌∙◌, ◌+◌, ◌++◌, ℕ, List, [], Bor, drop, get_or, bytes_eq, sym, arith}
use Rattle.std.specs.List.{flat_map}
use Rattle.std.proofs.lemmas.List.{at_drop_more}
use Rattle.ud_sections.proofs.lemmas.printing.PartLemmas.{split_part, other_body, other_ending, next_part}
use Rattle.ud_sections.proofs.printing.pieces.equals_line.Goals as goal
use Rattle.std.proofs.lemmas.Grind.{common_steps}

pub returns-in-None : goal.returns-in-None
returns-in-None c = grind (arith, common_steps, at_drop_more, other_body, split_part)

pub returns-in-None-strip_prefix : goal.returns-in-None-strip_prefix
returns-in-None-strip_prefix c = let parts = c.args.parts.now in
    let i = c.loop-part.part-index in
    let d : Bor (List ℕ) = record { ref_ptr = (0, 0); now = [] } in
    sym (c.loop-part.invariant.same
    ∙ at_drop_more (λ (ps : List (Bor (List ℕ))). bytes_eq (flat_map (λ p. p.now) ps) (c.loop-part.body.now ++ c.loop-part.ending.now)) parts i d c.loop-part-test.true
    ∙ other_ending (get_or parts i d).now (flat_map (λ p. p.now) (drop (i + 1) parts)) c.loop-part.body.now c.loop-part.ending.now c.split_at.result.0.now c.split_at.result.1.now
    (split_part (get_or parts i d).now c.loop-part.body.now c.split_at.result.0.now c.split_at.result.1.now c.min.result c.min.ensures c.split_at.ensures.front c.split_at.ensures.back)
    c.in-Some.rest.now c.in-Some.ensures.cases.0 c.in-Some.ensures.cases.1
    c.in-None-strip_prefix.ensures.cases)

pub loop-part-preserved : goal.loop-part-preserved
loop-part-preserved c = grind (arith, common_steps, at_drop_more, next_part, split_part)
