-- By the rest of the block, or by the bytes after it.
use Rattle.std.proofs.Common.{◌+◌, ◌/◌, ◌^◌, ◌∙◌, sym, ap, arith}
use Rattle.std.specs.Int.{w64, trailing_zeros}
use Rattle.ud_text.proofs.lemmas.bulk.BlockBitLemmas.{IsShift, shift_in_block, left_found, left_empty, row_bound}
use Rattle.ud_text.proofs.bulk.blocks.next_significant.Goals as goal

pub returns-then-shift-ge-BLOCK_BYTES-clause-bound : goal.returns-then-shift-ge-BLOCK_BYTES-clause-bound
returns-then-shift-ge-BLOCK_BYTES-clause-bound c = row_bound c.args.bytes.now c.args.at _ c.requires.within c.significant_from.ensures.value

pub returns-then-bits-eq0-clause-value : goal.returns-then-bits-eq0-clause-value
returns-then-bits-eq0-clause-value c =
    let s : IsShift c.args.at c.args.block.begin = shift_in_block c.args.at c.args.block.begin (omega arith) (omega arith) c.if-shift-ge-BLOCK_BYTES.false in
    c.significant_from-then-bits-eq0.ensures.value
    ∙ left_empty c.args.bytes.now c.args.block.begin c.args.at c.args.block.bits c.requires.block.bits_are s.low s.high c.requires.block.whole c.requires.within
    (ap (λ k. c.args.block.bits / 2 ^ k) (sym s.is) ∙ c.if-bits-eq0.true) c.min.result c.min.ensures

pub returns-then-bits-eq0-clause-bound : goal.returns-then-bits-eq0-clause-bound
returns-then-bits-eq0-clause-bound c = row_bound c.args.bytes.now c.args.at _ c.requires.within (returns-then-bits-eq0-clause-value c)

pub returns-clause-value : goal.returns-clause-value
returns-clause-value c =
    let s : IsShift c.args.at c.args.block.begin = shift_in_block c.args.at c.args.block.begin (omega arith) (omega arith) c.if-shift-ge-BLOCK_BYTES.false in
    ap (λ k. c.args.at + trailing_zeros w64 (c.args.block.bits / 2 ^ k)) s.is
    ∙ left_found c.args.bytes.now c.args.block.begin c.args.at c.args.block.bits c.requires.block.bits_are s.low s.high c.requires.block.whole c.requires.within
    (λ none. c.if-bits-eq0.false (ap (λ k. c.args.block.bits / 2 ^ k) s.is ∙ none))

pub returns-clause-bound : goal.returns-clause-bound
returns-clause-bound c = row_bound c.args.bytes.now c.args.at _ c.requires.within (returns-clause-value c)
