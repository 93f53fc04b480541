use Rattle.std.proofs.Common.{rules, tests, ◌∙◌, not, length, unwrap_or, ap}
use Rattle.std.proofs.lemmas.Iterator.{YieldsList-from_slice}
use Rattle.std.proofs.lemmas.Iterator.Search.{position_from_yields_List}
use Rattle.ud_model.specs.text.Bytes.{is_word_byte}
use Rattle.ud_model.proofs.text.ByteLemmas.{unwrap_or-position, front_len-word}
use Rattle.ud_model.proofs.bytes.word_len_one_by_one.Goals as goal

-- The result is the length of the leading word.
pub returns : goal.returns
returns c =
    let at = position_from_yields_List (λ b. not (is_word_byte b)) _ _ c.position.result c.position.ensures.ran
    (YieldsList-from_slice c.args.bytes.now cc) (λ x b q k. search (rules, tests)) in
    c.unwrap_or.ensures ∙ ap (λ p. unwrap_or p (length c.args.bytes.now)) at ∙ unwrap_or-position (λ b. not (is_word_byte b)) c.args.bytes.now ∙ front_len-word c.args.bytes.now
