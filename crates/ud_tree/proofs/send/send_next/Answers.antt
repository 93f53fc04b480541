use Rattle.std.proofs.Common.{arith, true, false, ◌≡◌, [], ◌∷◌}
use Rattle.std.proofs.lemmas.Grind.{common_steps}
use Rattle.ud_tree.specs.Visible.{begins_upper}
use Rattle.ud_tree.proofs.VisibleLemmas.{shows_lone, shows_upper}
use Rattle.ud_tree.proofs.send.send_next.Goals as goal

pub returns-then-contains : goal.returns-then-contains
returns-then-contains g c =
    let is : begins_upper (c.args.byte ∷ []) ≡ true = grind (arith, common_steps) in
    rw c.if-not-held.false (shows_upper is c.send_shown.ensures c.send_shown-then-contains.ensures)

pub returns : goal.returns
returns g c =
    let other : begins_upper (c.args.byte ∷ []) ≡ false = grind (arith, common_steps) in
    rw c.if-not-held.false (shows_lone other c.send.ensures c.send_first-2.ensures)
