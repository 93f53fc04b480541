use Rattle.std.proofs.Common.{refl}
use Rattle.ud_text.proofs.lemmas.lines.NewlineLemmas.{up_to_newline-none}
use Rattle.test_sections.proofs.stepping.is_one_line.Goals as goal

pub returns-in-None : goal.returns-in-None
returns-in-None c = λ e. ((up_to_newline-none c.args.body.now c.in-None.ensures).all refl).1
