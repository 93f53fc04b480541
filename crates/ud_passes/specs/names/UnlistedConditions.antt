-- UnlistedConditions: the conditions of a text whose names can't all be listed.
-- unifdef(1), `-s`.
--
-- A condition can't be listed in full if a continuation cuts its directive, if its text isn't
-- understood, or if a name stands among the arguments of a call. An expression of only constants
-- is understood, and has no names. All lines of the text are read in one mode. A line over the
-- limit is a fault of its text, and doesn't count.
--
-- The text may be a folded one, in which a vertical tab represents a newline. Its conditions are
-- listed by the lines of the text that was folded: by the number and the body of the first one.
--
-- Example: for `#if A`, `#elif B \` and `#endif` in the file `f.c`, the list is the line
-- `f.c:2: #elif B \`. For the folded text of `#if A \`, `|| B`, `#elif C \`, `D` and `#endif` it is
-- the line `f.c:3: #elif C \`. The line `#if F(A)` is listed too, and `#if F(1)` isn't.
use Rattle.std.specs.Prelude.{ℕ, suc, ◌+◌, ◌==◌, List, [], ◌∷◌, ◌++◌, length}
use Rattle.std.specs.Prelude.{Bool, true, false, not, ◌&&◌, ◌||◌, if◌then◌else◌, count_by}
use Rattle.std.specs.Prelude.{is_some}
use Rattle.std.specs.List.{filter}
use Rattle.ud_model.specs.text.Bytes.{newline, is_word_byte, leading_word}
use Rattle.ud_model.specs.answer.SymbolArguments.{is_name}
use Rattle.ud_model.specs.text.Lines.{Line, text_of, lines_of}
use Rattle.ud_model.specs.text.Scans.{Reading}
use Rattle.ud_model.specs.sections.Directives.{Directive, Content, cut_keyword, directive, text}
use Rattle.ud_model.specs.sections.Directives.{content_of, test_of}
use Rattle.ud_model.specs.conditions.Conditions.{sole_name}
use Rattle.ud_model.specs.conditions.Names.{names_in_tree}
use Rattle.ud_model.specs.conditions.Parsing.{expression_of}
use Rattle.ud_model.specs.aids.ReadAs.{read_as}
use Rattle.ud_model.specs.declared.kind.Mode.{Mode}
use Rattle.ud_model.specs.declared.kind.Test.{Test}
use Rattle.ud_model.specs.declared.kind.Test.TheVariants.{Nonzero, Defined, Undefined, Nothing}
use Rattle.ud_simplified.specs.FoldedTexts.{vertical_tab, restored_line}
use Rattle.ud_passes.specs.Passes.{fits, numbered_line}

-- `has_condition test`: a directive with this test has a condition.
abbrev pub has_condition : Test → Bool
has_condition Nonzero = true
has_condition Defined = true
has_condition Undefined = true
has_condition Nothing = false

-- `name_words in_word t`: how many words of `t` may name a symbol. `in_word`: a word byte comes
-- before `t`, so that no word begins there.
abbrev pub name_words : Bool → List ℕ → ℕ
name_words in_word [] = 0
name_words true (b ∷ bs) = name_words (is_word_byte b) bs
name_words false (b ∷ bs) = if is_word_byte b && is_name (leading_word (b ∷ bs))
    then suc (name_words (is_word_byte b) bs) else name_words (is_word_byte b) bs

-- `lists_all after`: the text `after` has no more names than are listed of an `#if` with it: none
-- stands among the arguments of a call.
abbrev pub lists_all : List ℕ → Bool
lists_all after = name_words false after == length (names_in_tree (expression_of after))

-- `is_listed_whole test after`: the text `after` is understood by this test, and its names are
-- listed: it is one name, or one expression.
abbrev pub is_listed_whole : Test → List ℕ → Bool
is_listed_whole Nonzero after = lists_all after && is_some (expression_of after)
is_listed_whole Defined after = is_some (sole_name after)
is_listed_whole Undefined after = is_some (sole_name after)
is_listed_whole Nothing after = true

-- `is_unlisted d`: the directive `d` has a condition whose names can't all be listed.
abbrev pub is_unlisted : Directive → Bool
is_unlisted d = has_condition (test_of d.kind) &&
    (d.broken || not (is_listed_whole (test_of d.kind) d.after))

-- `has_unlisted content`: a line with this content has such a condition.
abbrev pub has_unlisted : Content → Bool
has_unlisted cut_keyword = false
has_unlisted (directive d) = is_unlisted d
has_unlisted text = false

-- `is_unlisted_line r`: the line `r` is within the limit, and has such a condition.
abbrev pub is_unlisted_line : Reading → Bool
is_unlisted_line r = fits r.line && has_unlisted (content_of r.scan)

-- `unlisted_in mode bytes`: the lines of a text with such a condition, each read in this mode.
abbrev pub unlisted_in : Mode → List ℕ → List Reading
unlisted_in mode bytes = filter is_unlisted_line (read_as mode bytes)

-- `is_break folded b`: the byte `b` is a newline or, in a folded text, represents one.
abbrev pub is_break : Bool → ℕ → Bool
is_break folded b = b == newline || (folded && b == vertical_tab)

-- `breaks folded bytes`: how many newlines the bytes have and represent.
abbrev pub breaks : Bool → List ℕ → ℕ
breaks folded bytes = count_by (is_break folded) bytes

-- `first_body ls`: the body of the first of the lines `ls`.
abbrev pub first_body : List Line → List ℕ
first_body [] = []
first_body (l ∷ ls) = l.body

-- `shown_body folded l`: the body of the line `l` or, in a folded text, of the first of the lines
-- that it represents.
abbrev pub shown_body : Bool → Line → List ℕ
shown_body folded l = if folded then first_body (lines_of (restored_line l)) else l.body

-- `listed_line file folded n r`: the line `r` of this file with the number `n`, if it has such a
-- condition.
abbrev pub listed_line : List ℕ → Bool → ℕ → Reading → List ℕ
listed_line file folded n r =
    if is_unlisted_line r then numbered_line file n (shown_body folded r.line) else []

-- `listed_from file folded n rs`: the list of those of the lines `rs`, of which the first one has
-- the number `n`.
abbrev pub listed_from : List ℕ → Bool → ℕ → List Reading → List ℕ
listed_from file folded n [] = []
listed_from file folded n (r ∷ rs) = listed_line file folded n r ++
    listed_from file folded (n + breaks folded (text_of r.line)) rs

-- `unlisted_text file mode folded bytes`: the list of the lines of a text with such a condition.
abbrev pub unlisted_text : List ℕ → Mode → Bool → List ℕ → List ℕ
unlisted_text file mode folded bytes = listed_from file folded 1 (read_as mode bytes)
