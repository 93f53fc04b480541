use Rattle.std.proofs.Common.{◌∙◌, ap, not, take}
use Rattle.std.proofs.lemmas.List.{take_min}
use Rattle.std.specs.List.{list_any}
use Rattle.std.specs.Prelude.{nat_eq}
use Rattle.ud_tree.proofs.disk.sampling.is_text.Goals as goal

pub returns : goal.returns
returns c = ap not (c.contains.ensures.value ∙ ap (list_any (λ byte. nat_eq byte 0))
    (c.split_at.ensures.front ∙ ap (λ n. take n c.args.bytes.now) c.min.ensures ∙ take_min 8192 c.args.bytes.now))
