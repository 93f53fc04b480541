-- One token more.
use Rattle.std.proofs.Common.{◌+◌, List, drop, Bool, refl, sym, ap, arith, false}
use Rattle.std.proofs.lemmas.List.{drop_more}
use Rattle.ud_simplified.specs.ResidualTexts.{left_from}
use Rattle.ud_passes.proofs.CellLemmas.{same_on}
use Rattle.ud_passes.proofs.pruning.left_texts.append_left.Goals as goal

pub loop-flag-preserved : goal.loop-flag-preserved
loop-flag-preserved c = record {
  fewer_bytes = let k = c.in_ok-place.ensures.fewer_bytes in omega arith;
  fewer_shown = let k = c.in_ok-place.ensures.fewer_shown in omega arith;
  left = λ cells a.
      let i = c.loop-flag.invariant.left cells a in
      let later : List Bool = drop (c.loop-flag.flag-index + 1) c.args.flags.now in
      let j = c.in_ok-place.ensures.left i.0 later i.1 in
      let e = drop_more c.args.flags.now c.loop-flag.flag-index false c.loop-flag-test.true in
      (j.0, j.1, grind (arith, (same_on c.args.left.now.bytes.items c.args.left.now.shown.items refl (sym (ap (λ (l : List Bool). left_from c.loop-flag.place.stays c.loop-flag.place.operand l i.0) e)) i.2), j.2));
}
