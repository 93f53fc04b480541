use Rattle.std.proofs.Common.{List, ℕ, subst, string_bytes}
use Rattle.ud_tree.proofs.EvidenceLemmas.{on_map}
use Rattle.ud_tree.proofs.disk.naming.rename_file.Goals as goal

pub returns : goal.returns
returns g c = on_map c.rename.result (λ done moved. record {
  source = string_bytes c.in_ok-from.from;
  target = string_bytes c.in_ok-to.to;
  from_place = c.in_ok-from.ensures.place;
  to_place = c.in_ok-to.ensures.place;
  moved = subst (λ (t : List ℕ). g.S.Changes.changing.renames (string_bytes c.in_ok-from.from) t) c.as_str-3.ensures.value
      (subst (λ (s : List ℕ). g.S.Changes.changing.renames s c.as_str-3.result.now) c.as_str-2.ensures.value moved);
}) c.rename.ensures
