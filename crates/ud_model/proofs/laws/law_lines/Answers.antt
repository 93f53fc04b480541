-- From the parts of a text, byte by byte.
use Rattle.std.proofs.Common.{ap}
use Rattle.ud_model.specs.text.Lines.{SplitLines}
use Rattle.ud_model.proofs.text.LinesLemmas.{lines_exist, lines_are, map-lines_of, number_is, split_lines-are, parts_are}
use Rattle.ud_model.proofs.laws.law_lines.Goals as goal

pub returns-clause-exists : goal.returns-clause-exists
returns-clause-exists c = lines_exist

pub returns-clause-only : goal.returns-clause-only
returns-clause-only c = lines_are

pub returns-clause-bytes : goal.returns-clause-bytes
returns-clause-bytes c = map-lines_of

pub returns-clause-number : goal.returns-clause-number
returns-clause-number c = number_is

pub returns-clause-whole : goal.returns-clause-whole
returns-clause-whole c = split_lines-are

pub returns-clause-only_whole : goal.returns-clause-only_whole
returns-clause-only_whole c = λ text ls rest h.
    let same = parts_are text (record { whole = ls; rest = rest }) h in
    (ap (λ (p : SplitLines). p.whole) same, ap (λ (p : SplitLines). p.rest) same)
