-- Lemmas on expressions, symbols and conditions. These matter; the others serve them:
--
--   TokenLemmas.tokens_of_are           the computed tokens of a text are its tokens;
--                                       `tokens_of_only`: no others are
--   OneExpression.sound                 a tree is spelled by the tokens that were parsed as it
--   ParsingComplete.complete            and the tokens of a tree are parsed as it
--   OneExpression.one_expression        a text has one tree at most
--   OneExpression.expression_is         and it is the computed one
--   SymbolLemmas.end_is                 a name resolves to the computed text, and to no other
--                                       (`end_found`)
--   SymbolLemmas.end_same               tables with the same entries resolve alike
--   ConditionLemmas.condition_of_same   and decide alike
--   KnownStays.known_stays              a known value is the C value, whatever the open names are
--   DecidedConditions.yes_is_true       a condition that is true has only C values other than 0
--                                       (`no_is_false`)
--   KeptTokens.choose                   the flags choose the tokens of the residual
pub mod Readings
pub mod SymbolLemmas
pub mod ConditionLemmas
pub mod KnownStays
pub mod ParsingComplete
pub mod TokenLemmas
pub mod OneExpression
pub mod DecidedConditions
pub mod SpreadTexts
pub mod KeptTokens
pub mod ResidualSame
