-- Keywords: the keyword that a text begins with.
--
-- Example: `if x` begins with `if`, two bytes, followed by the space and `x`.
use Rattle.std.specs.Prelude.{◌≡◌, ◌≤◌, ℕ, List, length, drop, Some}
use Rattle.ud_model.specs.text.Bytes.{leading_word, skip_word}
use Rattle.ud_model.specs.sections.Directives.{kind_of}
use Rattle.ud_sections.specs.declared.directives.keywords.Keyword.{Keyword}

-- `IsLeadingKeyword keyword rest`: the first word of `rest` is `keyword`.
pub record IsLeadingKeyword (keyword : Keyword) (rest : List ℕ) : Type 0 where
  pub bound : keyword.len ≤ length rest
  pub len_is : keyword.len ≡ length (leading_word rest)
  pub after_is : drop keyword.len rest ≡ skip_word rest
  pub kind_is : kind_of (leading_word rest) ≡ Some keyword.kind
