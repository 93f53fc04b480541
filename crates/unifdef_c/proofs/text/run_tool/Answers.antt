use Rattle.std.proofs.Common.{refl, inr}
use Rattle.ud_model.specs.answer.Answer.{memory_answer}
use Rattle.unifdef_c.proofs.text.run_tool.Goals as goal

pub returns-then-failed : goal.returns-then-failed
returns-then-failed c = (memory_answer, inr refl, c.refuse_memory.ensures)
