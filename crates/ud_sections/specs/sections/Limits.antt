-- Limits: lines within the limits of a text.
use Rattle.std.specs.Prelude.{◌≤◌, length}
use Rattle.ud_model.specs.text.Lines.{Line, text_of}
use Rattle.ud_model.specs.declared.limits.TheConstants.{MAX_LINE_BYTES, MAX_LINES}

-- `IsWithinLimits l`: the number and the length of the line `l` are within the limits.
pub record IsWithinLimits (l : Line) : Type 0 where
  pub number_fits : l.number ≤ MAX_LINES
  pub bytes_fit : length (text_of l) ≤ MAX_LINE_BYTES
