-- By the number of bytes that were read.
use Rattle.std.proofs.Common.{◌≡◌, inr, sym, ap, ◌∙◌, true, false, arith}
use Rattle.ud_tree.specs.Reading.{is_utf16}
use Rattle.ud_tree.specs.Sampling.{is_text}
use Rattle.ud_tree.proofs.SamplingLemmas.{more_sampled}
use Rattle.ud_tree.proofs.disk.sampling.read_sample.Goals as goal

pub returns-then-len-gt-SEARCH_BYTES : goal.returns-then-len-gt-SEARCH_BYTES
returns-then-len-gt-SEARCH_BYTES g c =
    let marked : is_utf16 c.read_most.new.text.items ≡ false = ap is_utf16 (sym c.as_slice.ensures.value) ∙ sym c.is_utf16.ensures ∙ c.if-is_utf16.false in
    let texts : is_text c.read_most.new.text.items ≡ true = ap is_text (sym c.as_slice-2.ensures.value) ∙ sym c.is_text.ensures ∙ c.if-not-is_text.false in
    let h = more_sampled _ c.read_most.new.text.items c.read_most-2.new.text.items c.requires.empty c.in_ok-read_most.ensures.reads c.in_ok-read_most-2.ensures.reads (omega arith) marked texts in
    record { consumed = h.0; bounded = c.in_ok-read_most-2.ensures.within; is_of = (h.1, h.2, inr (omega arith)) }

pub returns : goal.returns
returns g c =
    let marked : is_utf16 c.read_most.new.text.items ≡ false = ap is_utf16 (sym c.as_slice.ensures.value) ∙ sym c.is_utf16.ensures ∙ c.if-is_utf16.false in
    let texts : is_text c.read_most.new.text.items ≡ true = ap is_text (sym c.as_slice-2.ensures.value) ∙ sym c.is_text.ensures ∙ c.if-not-is_text.false in
    let h = more_sampled _ c.read_most.new.text.items c.read_most-2.new.text.items c.requires.empty c.in_ok-read_most.ensures.reads c.in_ok-read_most-2.ensures.reads (omega arith) marked texts in
    record {
      consumed = h.0;
      bounded = c.in_ok-read_most-2.ensures.within;
      is_of = record { no_mark = h.1; texts = h.2; small = omega arith; ended = c.in_ok-read_most-2.ensures.ended (omega arith) };
    }
