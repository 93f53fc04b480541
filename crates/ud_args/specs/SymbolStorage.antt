-- SymbolStorage: arguments take memory only when an option's symbol is added to the table.
use Rattle.std.specs.Prelude.{◌≡◌, List, [], ◌∷◌, ◌++◌, None, IsSome}
use Rattle.ud_model.specs.answer.CommandLine.{ParsedArg, first_fault, argument_in}

-- `StoresSymbol gs`: one of the options `gs` defines or undefines a symbol, without a fault up to
-- that option.
pub record StoresSymbol (gs : List ParsedArg) : Type 0 where
  pub before : List ParsedArg
  pub symbol : ParsedArg
  pub more : List ParsedArg
  pub is : gs ≡ before ++ symbol ∷ more
  pub right : first_fault (before ++ symbol ∷ []) ≡ None
  pub sets : IsSome (argument_in symbol)
