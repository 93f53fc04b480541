use Rattle.std.proofs.Common.{List, ℕ}
use Rattle.ud_tree.specs.Meeting.{At}
use Rattle.ud_tree.specs.Opening.{IsFound}
use Rattle.ud_tree.proofs.EvidenceLemmas.{some_kept}
use Rattle.ud_tree.proofs.disk.DiskDirectory.look.Goals as goal

pub add-requires : goal.add-requires
add-requires g c = some_kept
    (λ stat. At g.S.Looks.looking c.args.name.now (λ (place : List ℕ). IsFound g.S.Looks.looking place stat))
    c.found_at-found.result c.kept-answer.result c.kept-answer.ensures.value c.found_at-found.ensures.found
