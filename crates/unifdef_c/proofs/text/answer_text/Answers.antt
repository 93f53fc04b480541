use Rattle.std.proofs.Common.{arith}
use Rattle.ud_model.specs.answer.Answer.{memory_answer}
use Rattle.unifdef_c.specs.TextCalls.{words_answer, not_words, no_memory}
use Rattle.unifdef_c.proofs.TextCallLemmas.{text_answered}
use Rattle.unifdef_c.proofs.text.answer_text.Goals as goal

pub returns-in-Ok : goal.returns-in-Ok
returns-in-Ok c = grind (arith, text_answered)

pub returns-in-Err-BadWords : goal.returns-in-Err-BadWords
returns-in-Err-BadWords c = (words_answer, not_words (rw c.in-Err-BadWords.field-0-is at c.in-Err-BadWords.ensures.err), c.refuse_words.ensures)

pub returns-in-Err-OutOfMemory : goal.returns-in-Err-OutOfMemory
returns-in-Err-OutOfMemory c = (memory_answer, no_memory, c.refuse_memory.ensures)
