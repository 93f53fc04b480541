-- LineViews: the program's lines and scans in the form of the definitions.
--
-- Example: the scan of a line in plain mode, as `as_scan` gives it, is `plain_scan` of the line.
use Rattle.ud_model.specs.text.Lines.{Line as TextLine}
use Rattle.ud_model.specs.text.Scans.{Scan as LineScan}
use Rattle.ud_model.specs.declared.line.Line.{Line}
use Rattle.ud_model.specs.declared.scan.Scan.{Scan}

-- `as_line line`: the line with its body, its ending and its number.
abbrev pub as_line : Line → TextLine
as_line line = record { body = line.body.now; ending = line.ending.now; number = line.number }

-- `as_scan scan`: the scan with the values of its fields.
abbrev pub as_scan : Scan → LineScan
as_scan scan = record {
  masked = scan.masked.now;
  fresh = scan.fresh;
  joins_before = scan.joins_before;
  joins_after = scan.joins_after;
  spliced = scan.spliced;
  comment = scan.comment;
}
