-- Parts: the parts of an answer, in the code's form.
use Rattle.ud_model.specs.answer.Answer.{Answer}
use Rattle.unifdef_c.specs.declared.hand_out.Parts.{Parts}

-- `answer_of parts`: the answer with these parts.
abbrev pub answer_of : Parts → Answer
answer_of parts = record {
  output = parts.output.now;
  message = parts.message.now;
  status = parts.status;
}
