use Rattle.std.proofs.Common.{List, ℕ}
use Rattle.ud_tree.specs.Meeting.{At}
use Rattle.ud_tree.specs.Opening.{HasRead}
use Rattle.ud_tree.proofs.EvidenceLemmas.{some_kept}
use Rattle.ud_tree.proofs.disk.DiskDirectory.read.Goals as goal

pub add-requires : goal.add-requires
add-requires g c = rw c.as_slice-text.ensures.value (some_kept
    (λ stat. At g.S.Looks.looking c.args.name.now (λ (place : List ℕ). HasRead g.S.Looks.looking g.S.Changes.changing g.S.File.Read.remaining g.S.Old.Read.remaining place c.read_at-read.new.text.items stat))
    c.read_at-read.result c.kept-answer.result c.kept-answer.ensures.value c.read_at-read.ensures.read)
