use Rattle.std.proofs.Common.{ap, arith, List, ℕ, [], ◌∷◌, ◌≡◌, ◌≤◌, length, true, false, slice_index_or}
use Rattle.std.proofs.lemmas.List.{take_rest}
use Rattle.ud_model.specs.text.Bytes.{are_word_bytes, are_white, is_digit, is_identifier, leading_word}
use Rattle.ud_model.proofs.text.ByteLemmas.{leading_word-word}
use Rattle.ud_cond.proofs.conditions.sole_name.Goals as goal

-- Word bytes are an identifier if the first is no digit.
identifier : (w : List ℕ) → 1 ≤ length w → is_digit (slice_index_or w 0 0) ≡ false → are_word_bytes w ≡ true → is_identifier w ≡ true
identifier [] some = grind (arith, some)
identifier (b ∷ bs) some = λ letter words. grind (arith, letter, words)

pub returns-in-len1-up : goal.returns-in-len1-up
returns-in-len1-up c =
    let t = c.skip_white-text.result.now in
    let n = c.word_len-length.result in
    grind (
      arith,
      c.word_len-length.ensures.word,
      c.word_len-length.ensures.rest,
      leading_word-word t,
      c.skip_white-text.ensures,
      ap are_white (take_rest t n),
      c.if-are_white.ensures,
      identifier (leading_word t),
      c.in-len1-up.len_at_least,
      c.if-not-is_ascii_digit.ensures,
    )
