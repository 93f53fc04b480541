-- OptionArguments: arguments that give options alone, and an argument that names a symbol.
-- POSIX XBD 12.2, guidelines 4 to 10; unifdef(1), `-D` and `-U`.
--
-- Example: `-k`, `-D`, `A`, `-bUB` are options. `-k`, `-D` aren't, since `-D` lacks its argument;
-- nor are `-k`, `a.c`.
use Rattle.std.specs.Prelude.{◌≡◌, ℕ, List, [], ◌∷◌, ◌++◌, true, Some, None, codes, IsUtf8}
use Rattle.ud_model.specs.text.Bytes.{equals_sign}
use Rattle.ud_model.specs.answer.SymbolArguments.{is_name}
use Rattle.ud_model.specs.answer.CommandLine.{letters_give}
use Rattle.ud_model.specs.aids.LettersThen.{IsOptionWord}

-- `AreOptions args`: each of `args` is a word of options, or the option-argument of the one before.
pub data AreOptions : List (List ℕ) → Type 0 where
  no_options : AreOptions []
  -- a word whose options have their arguments.
  whole_word : {w : List ℕ} {c : ℕ} {cs : List ℕ} {args : List (List ℕ)} → IsOptionWord w c cs →
      (letters_give 0 (c ∷ cs)).waits ≡ None → AreOptions args → AreOptions (w ∷ args)
  -- a word whose last option has the next word as its argument.
  two_words : {w : List ℕ} {c : ℕ} {cs : List ℕ} {d : ℕ} {v : List ℕ} {args : List (List ℕ)} →
      IsOptionWord w c cs → (letters_give 0 (c ∷ cs)).waits ≡ Some d →
      AreOptions args → AreOptions (w ∷ v ∷ args)

-- `IsSymbolOption name w`: `w` is an option that names the symbol `name` in its own word.
pub data IsSymbolOption (name : List ℕ) : List ℕ → Type 0 where
  defines : IsSymbolOption name (codes "-D" ++ name)
  defines_as : (value : List ℕ) → IsUtf8 value →
      IsSymbolOption name (codes "-D" ++ (name ++ equals_sign ∷ value))
  undefines : IsSymbolOption name (codes "-U" ++ name)

-- `AddsSymbol before name w`: `w` names the symbol `name`, and is read as an option after `before`.
pub record AddsSymbol (before : List (List ℕ)) (name w : List ℕ) : Type 0 where
  pub options : AreOptions before
  pub is_symbol : is_name name ≡ true
  pub option : IsSymbolOption name w

-- `AddsOption name args more`: `more` are `args` with one more option, which names the symbol.
pub data AddsOption (name : List ℕ) : List (List ℕ) → List (List ℕ) → Type 0 where
  added : (before after : List (List ℕ)) (w : List ℕ) → AddsSymbol before name w →
      AddsOption name (before ++ after) (before ++ w ∷ after)
