-- A word that isn't listed is skipped.
use Rattle.std.proofs.Common.{◌≡◌, ◌∷◌, sym, ◌∙◌, rules}
use Rattle.ud_model.specs.conditions.Conditions.{is_listed}
use Rattle.ud_passes.proofs.NameLemmas.{has_word-skip}
use Rattle.ud_passes.proofs.remaining.names.has_listed.Goals as goal

pub loop-first-preserved-then-is_word_byte : goal.loop-first-preserved-then-is_word_byte
loop-first-preserved-then-is_word_byte c = λ calls h.
    let r : c.loop-first.rest.now ≡ c.in-Some.first.now ∷ c.in-Some.others.now = search rules in
    c.loop-first.invariant calls h
    ∙ has_word-skip (is_listed calls) c.loop-first.rest.now c.split_at.result.0.now c.split_at.result.1.now c.in-Some.first.now c.in-Some.others.now r
    (sym c.is_word_byte.ensures ∙ c.if-is_word_byte.true) (c.split_at.ensures.front ∙ c.word_len.ensures.word) (c.split_at.ensures.back ∙ c.word_len.ensures.rest)
    (sym (c.is_listed.ensures calls h) ∙ c.if-is_listed.false)
