-- The tokens so far are the same.
use Rattle.std.proofs.Common.{◌≡◌, List, Some, length, drop}
use Rattle.ud_model.specs.conditions.Tokens.{Token}
use Rattle.ud_model.specs.aids.Residuals.{chosen}
use Rattle.ud_simplified.specs.ResidualTexts.{are_tokens}
use Rattle.ud_model.specs.conditions.Parsing.{tokens_of}
use Rattle.ud_passes.proofs.pruning.tokens.has_tokens.Given as goal

abbrev pub invariant-loop-flag : goal.invariant-loop-flag
invariant-loop-flag l =
    (tokens : List Token) → tokens_of l.text ≡ Some tokens → length l.flags ≡ length tokens →
    (rest : List Token) × (tokens_of l.text_rest ≡ Some rest) × (length (drop l.flag-index l.flags) ≡ length rest)
    × (are_tokens (tokens_of l.left) (chosen l.flags tokens) ≡ are_tokens (tokens_of l.left_rest) (chosen (drop l.flag-index l.flags) rest))
