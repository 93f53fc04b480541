-- By the bytes of the line.
use Rattle.std.proofs.Common.{sym, subst}
use Rattle.ud_model.specs.text.Lines.{NoNewline}
use Rattle.ud_simplified.specs.SimplifiedTexts.{keyword_end}
use Rattle.ud_sections.specs.directives.ParsedDirectives.{as_directive}
use Rattle.ud_text.proofs.lemmas.scan.MaskLemmas.{no_newline-drop}
use Rattle.ud_passes.proofs.pruning.lines.bytes_after.Goals as goal

pub returns-clause-one_line : goal.returns-clause-one_line
returns-clause-one_line c = subst NoNewline (sym c.split_bytes.ensures.back) (no_newline-drop (keyword_end (as_directive c.args.found.now)) c.args.line.now.body.now c.requires.one_line)
