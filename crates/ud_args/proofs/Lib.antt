-- Lemmas on arguments. These matter; the others serve them:
--
--   ProgramLemmas.parsed_words-unifdef   the words of unifdef(1) give what its definition says
--   ParsedArgLemmas.first_fault-append   the first fault of options with more after them
--   ParsedArgLemmas.settings_in-last     their settings
--   PlanLemmas.IsUsageOf-fault           each error of `plan` is the fault of the arguments, or
--                                        memory
pub mod LetterLemmas
pub mod ProgramLemmas
pub mod ParsedArgLemmas
pub mod OptionLemmas
pub mod PlanLemmas
pub mod LeastLemmas
pub mod TreeLemmas
pub mod OperandLemmas
