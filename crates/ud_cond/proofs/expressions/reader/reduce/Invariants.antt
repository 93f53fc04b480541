use Rattle.std.proofs.Common.{◌≡◌, ◌≤◌, List}
use Rattle.ud_model.specs.conditions.Parsing.{Frame, reduce}
use Rattle.ud_cond.specs.expressions.Stacks.{weight}
use Rattle.ud_cond.specs.expressions.Keepings.{count, IsAt}
use Rattle.ud_cond.proofs.expressions.reader.reduce.Given as goal

abbrev pub invariant-waiting : goal.invariant-waiting
invariant-waiting g l =
    ((s : List (Frame g.K.Keeper.Meant)) (k : g.K.Keeper.Meant) → IsAt g.K.Keeper.keeping l.fn.stacks l.fn.last l.fn.notes (k, s) →
    (t : List (Frame g.K.Keeper.Meant)) × (j : g.K.Keeper.Meant) × IsAt g.K.Keeper.keeping l.stacks l.part l.notes
    (j, t) × (reduce (g.K.Keeper.meaning l.keeper) l.least k s ≡ reduce (g.K.Keeper.meaning l.keeper) l.least j t))
    × (weight l.stacks ≤ weight l.fn.stacks) × (count g.K.Keeper.keeping l.notes ≤ count g.K.Keeper.keeping l.fn.notes)

abbrev pub decreases-waiting : goal.decreases-waiting
decreases-waiting g l = weight l.stacks
