use Rattle.std.proofs.Common.{◌≡◌, ◌≤◌, ◌+◌, [], length}
use Rattle.ud_model.specs.conditions.Parsing.{ParseState, reads, needs}
use Rattle.ud_cond.specs.expressions.Stacks.{weight, operand_weight}
use Rattle.ud_cond.specs.expressions.Keepings.{count, Represents}
use Rattle.ud_cond.proofs.expressions.reader.read.Given as goal

abbrev pub invariant-tokens : goal.invariant-tokens
invariant-tokens g l =
    ((q : ParseState g.K.Keeper.Meant) × Represents g.K.Keeper.keeping l.operand l.stacks l.notes q ×
    (reads (g.K.Keeper.meaning l.keeper) (needs []) l.text ≡ reads (g.K.Keeper.meaning l.keeper) q l.rest))
    × (weight l.stacks + operand_weight l.operand + length l.rest ≤ length l.text)
    × (count g.K.Keeper.keeping l.notes + length l.rest ≤ length l.text)

abbrev pub decreases-tokens : goal.decreases-tokens
decreases-tokens g l = length l.rest
