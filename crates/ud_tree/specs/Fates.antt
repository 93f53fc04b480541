-- Fates: what happened to a file, and the edits of its text.
--
--   fate_of r                the fate of a file, by the result of replacing it
--   is_changed f, is_same f, is_faulty f   the file was changed, or wasn't, or has a fault
--   no_edits                 there are no edits
--   unedited update          a file without edits
--   removed_by update text output   how many lines were removed
use Rattle.std.specs.Prelude.{ℕ, List, ◌-◌, length, Bool, true, false, if◌then◌else◌}
use Rattle.std.specs.Prelude.{Result, Ok, Err}
use Rattle.ud_model.specs.text.Lines.{whole_lines}
use Rattle.ud_replace.specs.declared.error.Update.{Update}
use Rattle.ud_replace.specs.declared.error.Update.TheVariants.{Unchanged, Replaced, WrittenInto}
use Rattle.ud_replace.specs.declared.error.ReplaceError.{ReplaceError}
use Rattle.ud_tree.specs.declared.counts.Edits.{Edits}
use Rattle.ud_tree.specs.declared.counts.Fate.{Fate}
use Rattle.ud_tree.specs.declared.counts.Fate.TheVariants.{Changed, Same, Faulty}
use Rattle.ud_tree.specs.declared.file_result.Done.{Done}

-- `fate_of r`: the fate of a file.
abbrev pub fate_of : Result Update ReplaceError → Fate
fate_of (Ok Unchanged) = Same
fate_of (Ok Replaced) = Changed
fate_of (Ok WrittenInto) = Changed
fate_of (Err e) = Faulty

-- `is_changed f`: the file was changed.
abbrev pub is_changed : Fate → Bool
is_changed Changed = true
is_changed Same = false
is_changed Faulty = false

-- `is_same f`: the output is the file's text.
abbrev pub is_same : Fate → Bool
is_same Changed = false
is_same Same = true
is_same Faulty = false

-- `is_faulty f`: the file has a fault.
abbrev pub is_faulty : Fate → Bool
is_faulty Changed = false
is_faulty Same = false
is_faulty Faulty = true

-- `no_edits`: no condition was edited, and no line removed.
abbrev pub no_edits : Edits
no_edits = record { conditions = 0; lines = 0 }

-- `unedited update`: a file with this result, and without edits.
abbrev pub unedited : Result Update ReplaceError → Done
unedited update = record { update = update; edits = no_edits }

-- `removed_by update text output`: how many lines fewer `output` has than `text`, counted by
-- newlines, if the file was changed.
abbrev pub removed_by : Update → List ℕ → List ℕ → ℕ
removed_by update text output = if is_changed (fate_of (Ok update))
    then length (whole_lines text) - length (whole_lines output) else 0
