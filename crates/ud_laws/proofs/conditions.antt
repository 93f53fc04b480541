-- Lemmas on the values of conditions that are left. These matter; the others serve them:
--
--   ResidualTruth.tells                   the residual is true exactly if the condition is
--   OneValue.one_value                    an expression has one value at most by the same numbers
--   ResidualOperands.operands_undecided   each operand that is left is undecided
--   ResidualAgain.residual_stays          a second simplification removes nothing
--   StrictLess.cond_keeps                 what is decided under `-K` is decided alike without it
--   NeverTurns.cond_after                 further symbols never reverse a condition
--   LeastValues.condition_alike           each number from the least one on decides alike
--   ChoiceValues.choice_may               the value by allowed numbers is one that C may give
pub mod NamedAlike
pub mod Refining
pub mod StrictLess
pub mod StrictItems
pub mod NeverTurns
pub mod LeastValues
pub mod SpacedTexts
pub mod ChoiceValues
pub mod ResidualTruth
pub mod ResidualOperands
pub mod ResidualAgain
pub mod StayedChoices
pub mod OneValue
