-- Screens: what a run may show on a terminal.
--
--   allows_counter args          the number of files that are done
--   is_dumb term                 neither that number nor a colour, by `TERM`
--   is_unwanted value            no colour, by `NO_COLOR`
--   allows_colours task dumb value   the colours of a diff
use Rattle.std.specs.Prelude.{[], Bool, true, false, not, ◌&&◌, Result, Ok, Err, bytes_eq, codes}
use Rattle.std.specs.Prelude.{string_bytes, String}
use Rattle.std.specs.Global.{Global}
use Rattle.std.specs.declared.env.VarError.{VarError}
use Rattle.std.specs.declared.env.VarError.TheVariants.{NotPresent, NotUnicode, OutOfMemory}
use Rattle.ud_tree.specs.declared.arguments.Task.{Task}
use Rattle.ud_tree.specs.declared.arguments.Task.TheVariants.{Replace, Diff, Names}
use Rattle.ud_tree.specs.declared.arguments.Arguments.{Arguments}

-- `replaces task`: the run replaces files.
abbrev pub replaces : Task → Bool
replaces Replace = true
replaces Diff = false
replaces Names = false

-- `allows_counter args`: the number of files may be shown, since the run replaces files and its
-- last lines follow, and since the output has no list and no diff.
abbrev pub allows_counter : Arguments → Bool
allows_counter args = replaces args.task && not args.quiet && not args.list_remaining &&
    not args.show_changes

-- `is_dumb term`: `TERM` is `dumb`.
abbrev pub is_dumb : Result (String Global) VarError → Bool
is_dumb (Ok kind) = bytes_eq (string_bytes kind) (codes "dumb")
is_dumb (Err e) = false

-- `is_unwanted value`: `NO_COLOR` is set, and not empty.
abbrev pub is_unwanted : Result (String Global) VarError → Bool
is_unwanted (Ok value) = not (bytes_eq (string_bytes value) [])
is_unwanted (Err NotPresent) = false
is_unwanted (Err NotUnicode) = true
is_unwanted (Err OutOfMemory) = true

-- `allows_colours task dumb value`: changes are shown, on a terminal that isn't `dumb`, and by
-- `NO_COLOR` colours aren't unwanted.
abbrev pub allows_colours : Task → Bool → Result (String Global) VarError → Bool
allows_colours Diff dumb value = not dumb && not (is_unwanted value)
allows_colours Replace dumb value = false
allows_colours Names dumb value = false
