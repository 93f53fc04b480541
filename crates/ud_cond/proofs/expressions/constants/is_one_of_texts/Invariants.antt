use Rattle.std.proofs.Common.{◌≡◌, length, map}
use Rattle.ud_model.specs.conditions.Constants.{is_one_of_texts}
use Rattle.ud_cond.proofs.expressions.constants.is_one_of_texts.Given as goal

abbrev pub invariant-words : goal.invariant-words
invariant-words l = is_one_of_texts (map (λ w. w.now) l.fn.words) l.text ≡ is_one_of_texts (map (λ w. w.now) l.words) l.text

abbrev pub decreases-words : goal.decreases-words
decreases-words l = length l.words
