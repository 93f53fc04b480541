use Rattle.std.proofs.Common.{refl}
use Rattle.ud_tree.proofs.EvidenceLemmas.{at_place, on_map}
use Rattle.ud_tree.proofs.disk.naming.remove_file.Goals as goal

pub returns : goal.returns
returns g c = on_map c.remove.result (λ done removed. at_place g.S.Looks.looking g.S.Changes.changing.removes c.in_ok-path.ensures.place refl
    c.as_str-2.ensures.value removed) c.remove.ensures
