-- Answers without a fault, and arguments that add an option.
pub mod OptionArguments
pub mod Successes
