-- Word by word.
use Rattle.std.proofs.Common.{◌≡◌, ◌∷◌, sym, ◌∙◌, bytes_eq, arith, rules}
use Rattle.std.proofs.lemmas.List.{nil_from_length}
use Rattle.ud_passes.proofs.NameLemmas.{has_word-word}
use Rattle.ud_passes.proofs.remaining.names.unmark_words.Goals as goal

pub loop-first-preserved-then-is_word_byte : goal.loop-first-preserved-then-is_word_byte
loop-first-preserved-then-is_word_byte c = λ n.
    let r : c.loop-first.rest.now ≡ c.in-Some.first.now ∷ c.in-Some.others.now = search rules in
    let words = has_word-word (bytes_eq n) c.in-Some.first.now c.in-Some.others.now (sym c.is_word_byte.ensures ∙ c.if-is_word_byte.true) in
    grind (arith, r, words, c.split_at.ensures.front, c.word_len.ensures.word, c.split_at.ensures.back, c.word_len.ensures.rest, c.unmark.ensures n, c.loop-first.invariant n)

pub returns : goal.returns
returns c = λ n. grind (arith, nil_from_length c.loop-first.rest.now c.in_default.ensures.cases, c.loop-first.invariant n)
