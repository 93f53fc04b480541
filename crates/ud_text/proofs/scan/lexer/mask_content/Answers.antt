-- A run and one more byte are read.
use Rattle.std.proofs.lemmas.List.{take_more}
use Rattle.std.proofs.Common.{sym, ap, refl, append-nil, arith, take_all, length, append_assoc}
use Rattle.ud_model.proofs.text.ScanLemmas.{Masks-start}
use Rattle.ud_text.proofs.lemmas.scan.MaskLemmas.{Masks-same, run_read, no_newline-take, no_newline-drop}
use Rattle.ud_text.proofs.scan.lexer.mask_content.Goals as goal

pub loop-at-init : goal.loop-at-init
loop-at-init g c = record {
  within = omega arith;
  size = ap length c.requires.empty;
  masks = λ text r. Masks-same (sym (append-nil text)) refl refl (sym c.requires.empty) (Masks-start r);
}

pub mask_uniform-count-requires : goal.mask_uniform-count-requires
mask_uniform-count-requires g c = grind (arith, no_newline-take, no_newline-drop)

pub loop-at-preserved-then-at-content : goal.loop-at-preserved-then-at-content
loop-at-preserved-then-at-content g c = record {
  within = omega arith;
  size = omega (arith, c.mask_byte-inside.ensures.len, c.mask_uniform-count.ensures.len, c.loop-at.invariant.size);
  masks = λ text r.
      (grind (arith, Masks-same, append_assoc, take_more, c.if-at-content.true, c.mask_byte-inside.ensures.masks _ _ (run_read text c.args.content.now c.loop-at.at c.mask_uniform-count.result.1 (c.mask_uniform-count.ensures.masks _ _ (c.loop-at.invariant.masks text r)))));
}

pub loop-at-preserved : goal.loop-at-preserved
loop-at-preserved g c = record {
  within = omega (arith, c.mask_uniform-count.ensures.bound);
  size = omega (arith, c.mask_uniform-count.ensures.len, c.loop-at.invariant.size);
  masks = λ text r.
      run_read text c.args.content.now c.loop-at.at c.mask_uniform-count.result.1
      (c.mask_uniform-count.ensures.masks _ _ (c.loop-at.invariant.masks text r));
}

pub returns-clause-masks : goal.returns-clause-masks
returns-clause-masks g c = grind (arith, take_all)
