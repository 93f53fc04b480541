-- Lemmas on arguments. These matter; the others serve them:
--
--   SameArguments.no_fault_same   arguments without a fault have none in other places
--   AddedOption.with_option       one more option for a symbol changes no entry but that of the
--                                 symbol
pub mod SameArguments
pub mod AddedOption
