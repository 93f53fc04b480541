-- Definitions: the lines of the source that define or undefine a symbol of the options.
-- C11 6.10.3 and 6.10.3.5.
--
-- White space may precede each of them, but no comment. So the words are in the line itself and in
-- the masked line: a definition in a comment doesn't count.
--
-- Example: if the table lists A, ` # define A(x) x` is a definition of it, and `#define AB` isn't.
use Rattle.std.specs.Prelude.{◌≡◌, ℕ, zero, suc, ◌==◌, List, [], ◌∷◌, Bool, false, ◌&&◌, ◌||◌}
use Rattle.std.specs.Prelude.{Option, Some, None, bytes_eq, codes}
use Rattle.ud_model.specs.text.Bytes.{number_sign, skip_white, leading_word, skip_word}
use Rattle.ud_model.specs.text.Scans.{Reading}
use Rattle.ud_model.specs.sections.Directives.{skip_white_and_hash}
use Rattle.ud_model.specs.conditions.Table.{Argument}
use Rattle.ud_model.specs.conditions.Conditions.{is_listed}

-- `is_definer word`: the word is `define` or `undef`.
abbrev pub is_definer : List ℕ → Bool
is_definer word = bytes_eq word (codes "define") || bytes_eq word (codes "undef")

module _ (table : List Argument) where
  -- `defines_by t`: the text `t` begins with `define` or `undef`, and then a name that the table
  -- lists.
  abbrev pub defines_by : List ℕ → Bool
  defines_by t =
      is_definer (leading_word t) && is_listed table (leading_word (skip_white (skip_word t)))

  -- `defines_after t`: the text `t` begins so, after white space.
  abbrev pub defines_after : List ℕ → Bool
  defines_after t = defines_by (skip_white t)

  -- `defines_if rest`: there is a text `rest`, and it begins so.
  abbrev pub defines_if : Option (List ℕ) → Bool
  defines_if None = false
  defines_if (Some rest) = defines_after rest

  -- `defines t`: the text `t` begins with `#`, after white space, and what follows begins so.
  abbrev pub defines : List ℕ → Bool
  defines t = defines_if (skip_white_and_hash t)

  -- `is_definition r`: only white space precedes the line `r` on its logical line, and the line
  -- begins so, unmasked and masked.
  abbrev pub is_definition : Reading → Bool
  is_definition r = r.scan.fresh && (defines r.scan.masked && defines r.line.body)

  -- `IsClear n t`: no `#` among the first `n` bytes of the text `t` has a definition after it.
  abbrev pub IsClear : ℕ → List ℕ → Type 0
  IsClear zero t = Unit {0}
  IsClear (suc n) [] = Unit {0}
  IsClear (suc n) (b ∷ bs) = (((b == number_sign) && defines_after bs) ≡ false) × IsClear n bs
