-- By the fault.
use Rattle.std.proofs.Common.{◌++◌, codes, encode_utf8, sym, ap, ◌∙◌, append-nil}
use Rattle.ud_io.proofs.StreamLemmas.{sends_same, sends_then}
use Rattle.ud_tree.specs.ArgumentMessages.{argument_message, mode_of}
use Rattle.ud_tree.specs.Summaries.{line_of}
use Rattle.ud_tree.proofs.report.report_argument_fault.Goals as goal

pub returns-in-UnknownOption : goal.returns-in-UnknownOption
returns-in-UnknownOption g c =
    sends_same (ap argument_message (sym c.in-UnknownOption.is)) (sends_then
    (sends_same (ap (λ x. line_of (codes "Unknown option -" ++ encode_utf8 c.in-UnknownOption.letter ++ x)) c.in_its_place.ensures) c.report_letter.ensures)
    c.send_parts.ensures)

pub returns-in-BadMode : goal.returns-in-BadMode
returns-in-BadMode g c =
    sends_same (ap (λ x. line_of (codes "Bad exit mode: " ++ x)) (append-nil c.mode_of.result.now ∙ c.mode_of.ensures ∙ ap mode_of c.as_bytes-in-BadMode.ensures.value)
    ∙ ap argument_message (sym c.in-BadMode.is)) c.report_line-in-BadMode.ensures

pub returns-in-PathsAndInput : goal.returns-in-PathsAndInput
returns-in-PathsAndInput g c = sends_same (ap argument_message (sym c.in-PathsAndInput.is)) c.report_line-in-PathsAndInput.ensures

pub returns-in-NoPath : goal.returns-in-NoPath
returns-in-NoPath g c =
    sends_same (ap argument_message (sym c.in-NoPath.is)) (sends_then c.report_line-in-NoPath.ensures c.send_parts-in-NoPath.ensures)

pub returns-in-NoSymbol : goal.returns-in-NoSymbol
returns-in-NoSymbol g c =
    sends_same (ap argument_message (sym c.in-NoSymbol.is)) (sends_then c.report_line-in-NoSymbol.ensures c.send_parts-in-NoSymbol.ensures)
