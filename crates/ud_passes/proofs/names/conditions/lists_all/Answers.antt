-- Word by word.
use Rattle.std.proofs.Common.{◌≡◌, ◌∷◌, sym, ◌∙◌, arith, rules}
use Rattle.ud_passes.proofs.NameLemmas.{name_words-word}
use Rattle.ud_passes.proofs.names.conditions.lists_all.Goals as goal
use Rattle.ud_passes.proofs.names.conditions.lists_all.Goals.{else-is_name-via-then-is_name+else-is_none, else-is_name-via-else-is_name}

pub loop-first-preserved-then-is_word_byte : goal.loop-first-preserved-then-is_word_byte
loop-first-preserved-then-is_word_byte c =
    let r : c.loop-first.rest.now ≡ c.in-Some.first.now ∷ c.in-Some.others.now = search rules in
    let words = name_words-word c.in-Some.first.now c.in-Some.others.now (sym c.is_word_byte.ensures ∙ c.if-is_word_byte.true) in
    elim c.else-is_name.branch [
      | else-is_name-via-then-is_name+else-is_none w ↦ grind (arith, r, words, c.split_at.ensures.front, c.word_len.ensures.word, c.split_at.ensures.back, c.word_len.ensures.rest, c.is_name.ensures, w.if-is_name, w.next, w.is_none, w.if-is_none, w.listed-is, c.loop-first.invariant)
      | else-is_name-via-else-is_name w ↦ grind (arith, r, words, c.split_at.ensures.front, c.word_len.ensures.word, c.split_at.ensures.back, c.word_len.ensures.rest, c.is_name.ensures, w.if-is_name, w.listed-is, c.loop-first.invariant)
    ]
