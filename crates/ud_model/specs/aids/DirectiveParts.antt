-- Directive parts: a masked line split once, as white space, `#`, white space, a word and the rest.
-- C11 6.10.
--
-- A masked line has no split unless `#` is its first byte that isn't white space. These parts give
-- the directive of a line (`content_of`), by the lemma `directive_is`.
--
-- Example: the parts of `  # ifdef A` are two spaces, one space, `ifdef` and ` A`.
use Rattle.std.specs.Prelude.{◌≡◌, ◌≢◌, ℕ, suc, ◌+◌, List, [], ◌∷◌, ◌++◌, length, Bool, true, false}
use Rattle.std.specs.Prelude.{Some}
use Rattle.ud_model.specs.text.Bytes.{number_sign, slash, is_white, is_word_byte, are_white}
use Rattle.ud_model.specs.text.Bytes.{are_word_bytes}
use Rattle.ud_model.specs.text.Scans.{Scan}
use Rattle.ud_model.specs.sections.Directives.{Directive, kind_of, is_in_line}
use Rattle.ud_model.specs.sections.Directives.{is_continued_outside_comment, is_prefix_of_keyword}

-- The parts of a masked line: white space, then `#`, white space, a word and the rest.
pub record DirectiveParts : Type 0 where
  -- The white space before the `#`.
  pub white : List ℕ
  -- The white space after the `#`.
  pub gap : List ℕ
  -- The word after that, perhaps empty.
  pub word : List ℕ
  pub rest : List ℕ

-- `first_is p text`: `p` accepts the first byte of `text`.
abbrev pub first_is : (ℕ → Bool) → List ℕ → Bool
first_is p [] = false
first_is p (b ∷ bs) = p b

-- `AreParts p masked`: `p` are the parts of `masked`. White space and the word are as long as they
-- can be.
pub record AreParts (p : DirectiveParts) (masked : List ℕ) : Type 0 where
  pub joined : masked ≡ p.white ++ number_sign ∷ (p.gap ++ (p.word ++ p.rest))
  pub white : are_white p.white ≡ true
  pub gap : are_white p.gap ≡ true
  pub word : are_word_bytes p.word ≡ true
  pub gap_ends : first_is is_white (p.word ++ p.rest) ≡ false
  pub word_ends : first_is is_word_byte p.rest ≡ false

-- `EndsInKeyword scan p`: the masked line ends where the keyword may continue.
pub data EndsInKeyword (scan : Scan) (p : DirectiveParts) : Type 0 where
  -- Nothing follows the `#` and the white space.
  nothing_follows : p.word ≡ [] → p.rest ≡ [] → EndsInKeyword scan p
  -- A `/` alone follows, which may begin a comment, and the line is cut outside comments.
  slash_follows : p.word ≡ [] → p.rest ≡ slash ∷ [] →
      is_continued_outside_comment scan ≡ true → EndsInKeyword scan p
  -- A word alone follows, which may become a keyword, and the line is cut outside comments.
  word_follows : p.word ≢ [] → p.rest ≡ [] → is_prefix_of_keyword p.word ≡ true →
      is_continued_outside_comment scan ≡ true → EndsInKeyword scan p

-- `IsSplitKeyword scan p`: the keyword of a line with these parts may continue on the next line, so
-- it can't be known.
pub record IsSplitKeyword (scan : Scan) (p : DirectiveParts) : Type 0 where
  pub fresh : scan.fresh ≡ true
  pub joins : scan.joins_after ≡ true
  -- No line comment continues on the next line.
  pub no_line_comment : is_in_line scan.comment ≡ false
  pub ends : EndsInKeyword scan p

-- `HasDirective scan d`: a line with this scan has the directive `d`. The line is fresh, its word
-- is a keyword and isn't split, and the rest follows the keyword.
pub record HasDirective (scan : Scan) (d : Directive) : Type 0 where
  pub parts : DirectiveParts
  pub are : AreParts parts scan.masked
  pub fresh : scan.fresh ≡ true
  pub whole : ¬ IsSplitKeyword scan parts
  pub kind : kind_of parts.word ≡ Some d.kind
  pub at : d.keyword.at ≡ suc (length parts.white + length parts.gap)
  pub len : d.keyword.len ≡ length parts.word
  pub after : d.after ≡ parts.rest
  pub broken : d.broken ≡ is_continued_outside_comment scan
