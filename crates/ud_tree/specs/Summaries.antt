-- Summaries: the lines that end a run.
--
--   line_of text              a line of the program with this text
--   plural count one many     what follows a number
--   files_text count          what follows the number of files whose names were listed
--   hint listed count         the option that lists what was counted
--   changes_line word changed unchanged faults   how many files changed, or would
--   summary task listed changed unchanged faults hidden   how many files there were of each kind
--   remaining_line listed count   how many conditions still name a symbol
--   defined_line listed count   how many lines define a symbol
--   removed_line count        how many lines were removed
--   edited_line prunes count   how many conditions were edited
--   still_unnamed args marks  the names whose rows are marked
--   unnamed_line name         no condition names this symbol
--   none_named_line count     no condition names any of several symbols
--   unnamed_text args names   no condition names these
--   unnamed_lines args faults names   the same, if every file was read
--   others_line names         how many files of other names name a symbol
--   unsearched_line count     how many files of other names couldn't be searched
--   last_lines args changed unchanged faults hidden edits remaining defined unnamed others
--       unsearched            these lines, unless quiet
--   EndsWith s bytes          the last bytes that were written to `s`
use Rattle.std.specs.Prelude.{ℕ, List, [], ◌∷◌, ◌++◌, Bool, not, ◌&&◌, ◌||◌, ◌==◌}
use Rattle.std.specs.Prelude.{if◌then◌else◌, codes, decimal, length, map, filter, nat_lt}
use Rattle.std.specs.List.{flat_map}
use Rattle.ud_cond.specs.symbols.Marks.{is_marked}
use Rattle.ud_tree.specs.declared.arguments.Task.{Task}
use Rattle.ud_tree.specs.declared.arguments.Task.TheVariants.{Replace, Diff, Names}
use Rattle.ud_tree.specs.declared.arguments.Arguments.{Arguments}
use Rattle.ud_tree.specs.declared.counts.Edits.{Edits}
use Rattle.ud_io.specs.Streams.{Stream, Sends}
use Rattle.ud_tree.specs.Visible.{visible}

-- `line_of text`: the program's name, `text` with its control characters shown, and a newline.
abbrev pub line_of : List ℕ → List ℕ
line_of text = codes "unifdef-tree: " ++ visible text ++ codes "\n"

-- `changes_line word changed unchanged faults`: the line with the numbers of files that changed, or
-- would (`word` says which), of files that didn't, and of faults.
abbrev pub changes_line : List ℕ → ℕ → ℕ → ℕ → List ℕ
changes_line word changed unchanged faults = line_of (decimal changed ++ word ++
    decimal unchanged ++ codes " unchanged, " ++ decimal faults ++ codes " faulty")

-- `plural count one many`: what follows a number: `one` if it is 1, else `many`.
abbrev pub plural : ℕ → List ℕ → List ℕ → List ℕ
plural count one many = if count == 1 then one else many

-- `files_text count`: what follows the number of files whose names were listed.
abbrev pub files_text : ℕ → List ℕ
files_text count = plural count (codes " file listed, ") (codes " files listed, ")

-- `hidden_text count`: what follows the number of conditions whose names can't all be listed.
abbrev pub hidden_text : ℕ → List ℕ
hidden_text count = plural count (codes " condition could not be listed in full")
    (codes " conditions could not be listed in full")

-- `hint listed count`: the option that lists what was counted, unless there is none or it is
-- `listed`.
abbrev pub hint : Bool → ℕ → List ℕ
hint listed count = if count == 0 || listed then []
    else plural count (codes "; -r lists it") (codes "; -r lists them")

-- `summary task listed changed unchanged faults hidden`: the line with the numbers of files that
-- changed, or would, of files that didn't, and of faults. If names are listed: of files without a
-- fault, of faults, and of conditions that couldn't be listed in full; `listed`: these are.
abbrev pub summary : Task → Bool → ℕ → ℕ → ℕ → ℕ → List ℕ
summary Replace listed changed unchanged faults hidden =
    changes_line (codes " changed, ") changed unchanged faults
summary Diff listed changed unchanged faults hidden =
    changes_line (codes " would change, ") changed unchanged faults
summary Names listed changed unchanged faults hidden = line_of (decimal unchanged ++
    files_text unchanged ++ decimal faults ++ codes " faulty; " ++ decimal hidden ++
    hidden_text hidden ++ hint listed hidden)

-- `remaining_text count`: what follows the number of conditions.
abbrev pub remaining_text : ℕ → List ℕ
remaining_text count =
    plural count (codes " condition still names a symbol") (codes " conditions still name a symbol")

-- `remaining_line listed count`: the line with the number of conditions that still name a symbol,
-- left out if there are none and they aren't `listed`.
abbrev pub remaining_line : Bool → ℕ → List ℕ
remaining_line listed count = if count == 0 && not listed then [] else line_of (decimal count ++
    remaining_text count ++ hint listed count)

-- `defined_text count`: what follows the number of lines that define a symbol.
abbrev pub defined_text : ℕ → List ℕ
defined_text count = plural count (codes " line of the source defines a symbol")
    (codes " lines of the source define a symbol")

-- `defined_line listed count`: the line with the number of lines that define a symbol, left out if
-- there are none.
abbrev pub defined_line : Bool → ℕ → List ℕ
defined_line listed count =
    if count == 0 then []
    else line_of (decimal count ++ defined_text count ++ hint listed count)

-- `removed_text count`: what follows the number of removed lines.
abbrev pub removed_text : ℕ → List ℕ
removed_text count = plural count (codes " line removed") (codes " lines removed")

-- `removed_line count`: the line with the number of removed lines, left out if there are none.
abbrev pub removed_line : ℕ → List ℕ
removed_line count = if count == 0 then [] else line_of (decimal count ++ removed_text count)

-- `edited_text count`: what follows the number of edited conditions.
abbrev pub edited_text : ℕ → List ℕ
edited_text count = plural count (codes " condition edited") (codes " conditions edited")

-- `edited_line prunes count`: the line with the number of edited conditions, left out unless
-- `prunes`.
abbrev pub edited_line : Bool → ℕ → List ℕ
edited_line prunes count = if prunes then line_of (decimal count ++ edited_text count) else []

-- `still_unnamed args marks`: the names of the symbols whose rows are marked.
abbrev pub still_unnamed : Arguments → List Bool → List (List ℕ)
still_unnamed args marks =
    filter (is_marked args.plan.run.symbols marks) (map (λ n. n.items) args.names.items)

-- `unnamed_line name`: the line of a symbol that no condition names.
abbrev pub unnamed_line : List ℕ → List ℕ
unnamed_line name = line_of (codes "no condition names " ++ name)

-- `none_named_line count`: the line of several symbols, none of which a condition names.
abbrev pub none_named_line : ℕ → List ℕ
none_named_line count =
    line_of (codes "no condition names any of the " ++ decimal count ++ codes " symbols")

-- `unnamed_text args names`: the lines of the symbols that no condition names: one line, if these
-- are all symbols of the arguments, and several.
abbrev pub unnamed_text : Arguments → List (List ℕ) → List ℕ
unnamed_text args names =
    if nat_lt 1 (length names) && length names == length args.names.items
    then none_named_line (length names) else flat_map unnamed_line names

-- `unnamed_lines args faults names`: the same, left out if there are faults: a file that wasn't
-- read may name them.
abbrev pub unnamed_lines : Arguments → ℕ → List (List ℕ) → List ℕ
unnamed_lines args faults names = if faults == 0 then unnamed_text args names else []

-- `others_text count`: what follows the number of files of other names that name a symbol.
abbrev pub others_text : ℕ → List ℕ
others_text count = plural count (codes " file of other names names a symbol, as ")
    (codes " files of other names name a symbol, as ")

-- `others_line names`: the line with the number of these files of other names, and the first of
-- them, left out if there are none.
abbrev pub others_line : List (List ℕ) → List ℕ
others_line [] = []
others_line (name ∷ names) = line_of (decimal (length (name ∷ names)) ++
    others_text (length (name ∷ names)) ++ name)

-- `unsearched_text count`: what follows the number of files of other names that couldn't be
-- searched.
abbrev pub unsearched_text : ℕ → List ℕ
unsearched_text count = plural count (codes " file of other names could not be searched")
    (codes " files of other names could not be searched")

-- `unsearched_line count`: the line with this number, left out if there are none.
abbrev pub unsearched_line : ℕ → List ℕ
unsearched_line count =
    if count == 0 then [] else line_of (decimal count ++ unsearched_text count)

-- `EndsWith s bytes`: the last bytes written to `s` are `bytes`, up to its first failure.
abbrev pub EndsWith : Stream → List ℕ → Type 0
EndsWith s bytes = (mid : Stream) × Sends mid s bytes

-- `last_lines args changed unchanged faults hidden edits remaining defined unnamed others
-- unsearched`: the summary, the lines with the numbers of removed lines, of edited conditions, of
-- those that still name a symbol, and of lines that define one, the lines of the symbols that no
-- condition names if there is no fault, and the lines of the files of other names: of those that
-- name a symbol, and of those that couldn't be searched. Nothing if the run is quiet.
abbrev pub last_lines : Arguments → ℕ → ℕ → ℕ → ℕ → Edits → ℕ → ℕ → List (List ℕ) →
    List (List ℕ) → ℕ → List ℕ
last_lines args changed unchanged faults hidden edits remaining defined unnamed others unsearched =
    if args.quiet then []
    else summary args.task args.list_hidden changed unchanged faults hidden ++
    removed_line edits.lines ++ edited_line args.plan.prunes edits.conditions ++
    remaining_line args.list_remaining remaining ++ defined_line args.list_remaining defined ++
    unnamed_lines args faults unnamed ++ others_line others ++ unsearched_line unsearched
