-- ListedNames: whether a text has a word, and the name of a symbol of the options.
-- C11 6.4.2.1.
--
-- A word is a longest run of word bytes. So neither `VMS2` nor `0VMS` is the word `VMS`.
--
-- Example: if the table lists A, ` defined(A)` has its name, and ` AB || x.a` doesn't.
use Rattle.std.specs.Prelude.{ℕ, ◌==◌, List, [], ◌∷◌, Bool, true, false, ◌&&◌, ◌||◌}
use Rattle.ud_model.specs.text.Bytes.{newline, carriage_return, backslash, is_word_byte}
use Rattle.ud_model.specs.text.Bytes.{leading_word, starts_with_byte}
use Rattle.ud_model.specs.conditions.Table.{Argument}
use Rattle.ud_model.specs.conditions.Conditions.{is_listed}
use Rattle.ud_passes.specs.remaining.Mentions.{Mention}
use Rattle.ud_passes.specs.declared.remaining.mentions.Class.{Class}
use Rattle.ud_passes.specs.declared.remaining.mentions.Class.TheVariants.{Definition}

-- `has_word test in_word t`: a word of `t` passes the test. `in_word`: a word byte comes before
-- `t`, so that no word begins there.
abbrev pub has_word : (List ℕ → Bool) → Bool → List ℕ → Bool
has_word test in_word [] = false
has_word test true (b ∷ bs) = has_word test (is_word_byte b) bs
has_word test false (b ∷ bs) =
    (is_word_byte b && test (leading_word (b ∷ bs))) || has_word test (is_word_byte b) bs

-- `ends_in_word in_word t`: the text `t` ends in a word byte. `in_word`: as above.
abbrev pub ends_in_word : Bool → List ℕ → Bool
ends_in_word in_word [] = in_word
ends_in_word in_word (b ∷ bs) = ends_in_word (is_word_byte b) bs

-- `begins_ending t`: the text `t` begins with a byte that the ending of a line begins with.
abbrev pub begins_ending : List ℕ → Bool
begins_ending t = starts_with_byte newline t || starts_with_byte carriage_return t

-- `splits_word in_word t`: a backslash before such a byte follows a word byte in `t`, so a word may
-- go on in the next line. `in_word`: as above.
abbrev pub splits_word : Bool → List ℕ → Bool
splits_word in_word [] = false
splits_word in_word (b ∷ bs) =
    (in_word && (b == backslash) && begins_ending bs) || splits_word (is_word_byte b) bs

module _ (table : List Argument) where
  -- `has_listed in_word t`: a word of `t` is a name that the table lists. `in_word`: as above.
  abbrev pub has_listed : Bool → List ℕ → Bool
  has_listed in_word t = has_word (is_listed table) in_word t

  -- `names_by class after`: a mention of this class, with the text `after`, has such a name. Every
  -- definition does.
  abbrev pub names_by : Class → List ℕ → Bool
  names_by Definition after = true
  names_by class after = has_listed false after

  -- `names_listed m`: the mention `m` has such a name.
  abbrev pub names_listed : Mention → Bool
  names_listed m = names_by m.class m.after
