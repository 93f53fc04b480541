-- ReadAs: a text whose lines are all read in one mode.
use Rattle.std.specs.Prelude.{ℕ, List, map}
use Rattle.ud_model.specs.text.Lines.{Line, lines_of}
use Rattle.ud_model.specs.text.Scans.{Reading}
use Rattle.ud_model.specs.text.Scanning.{readings_of}
use Rattle.ud_model.specs.declared.kind.Mode.{Mode}

-- `in_mode m l`: the line `l` with the mode `m`.
abbrev pub in_mode : Mode → Line → Mode × Line
in_mode m l = (m, l)

-- `read_in m ls`: the readings of the lines `ls`, each read in the mode `m`.
abbrev pub read_in : Mode → List Line → List Reading
read_in m ls = readings_of (map (in_mode m) ls)

-- `read_as m t`: the readings of the lines of the text `t`, each read in the mode `m`.
abbrev pub read_as : Mode → List ℕ → List Reading
read_as m t = read_in m (lines_of t)
