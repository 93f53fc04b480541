use Rattle.std.proofs.Common.{refl}
use Rattle.ud_text.proofs.lemmas.lines.LinesLemmas.{represent_nothing}
use Rattle.ud_text.proofs.lines.Lines.with_buffer.Goals as goal

pub returns-clause-represents : goal.returns-clause-represents
returns-clause-represents g c = represent_nothing _ c.requires.empty refl refl
