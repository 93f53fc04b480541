-- Letters, and then: the options of an argument's letters, followed by what comes after them. Code
-- reads them in this form, letter by letter. It agrees with `letters_give` and `given_next`.
use Rattle.std.specs.Prelude.{ℕ, List, [], ◌∷◌, encode_utf8_all, if◌then◌else◌, ◌≡◌, false}
use Rattle.std.specs.Prelude.{bytes_eq, codes}
use Rattle.ud_model.specs.answer.CommandLine.{ParsedArg, flag, option, unknown, is_flag}
use Rattle.ud_model.specs.answer.CommandLine.{takes_argument, option_letters}

-- `parsed_option c number letters next rest`: the option `c`, and what follows it. Its
-- option-argument is `letters`, the rest of the argument with this number; then comes `rest`. If
-- there are no letters, `next` has the option with the next argument.
abbrev pub parsed_option : ℕ → ℕ → List ℕ → List ParsedArg → List ParsedArg → List ParsedArg
parsed_option c number [] next rest = next
parsed_option c number (l ∷ ls) next rest = option c number (encode_utf8_all (l ∷ ls)) ∷ rest

-- `parsed_letters number letters next rest`: the options of these letters in the argument with this
-- number, and what follows. That is `next c` if the option `c` takes the next argument, else
-- `rest`.
abbrev pub parsed_letters : ℕ → List ℕ → (ℕ → List ParsedArg) → List ParsedArg → List ParsedArg
parsed_letters number [] next rest = rest
parsed_letters number (c ∷ cs) next rest =
    if is_flag c then flag c ∷ parsed_letters number cs next rest
    else if takes_argument c then parsed_option c number cs (next c) rest
    else unknown c ∷ parsed_letters number cs next rest

-- `IsOptionWord w c cs`: `w` is a word of options, with the letters `c` and `cs`, and not `--`.
pub record IsOptionWord (w : List ℕ) (c : ℕ) (cs : List ℕ) : Type 0 where
  pub no_end : bytes_eq w (codes "--") ≡ false
  pub letters : option_letters w ≡ c ∷ cs
