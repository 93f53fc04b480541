-- TextCalls: what a call from C returns for a text.
use Rattle.std.specs.Prelude.{◌≡◌, ◌⊎◌, ◌&&◌, ℕ, List, [], ◌++◌, length, take, drop, nat_le, codes}
use Rattle.std.specs.Prelude.{if◌then◌else◌}
use Rattle.ud_model.specs.answer.Answer.{Answer, IsAnswer, memory_answer}
use Rattle.unifdef_c.specs.Words.{words_of, AreUtf8}
use Rattle.unifdef_c.specs.declared.hand_out.Sizes.{Sizes}

-- The answer to words that aren't UTF-8.
abbrev pub words_answer : Answer
words_answer =
    record { output = []; message = codes "unifdef: Cannot take arguments\n"; status = 2 }

-- `IsTextAnswer block text a`: `a` is the definitions' one answer to the words of `block` and this
-- text, or the answer to words that aren't UTF-8. Or memory was refused.
pub data IsTextAnswer (block text : List ℕ) : Answer → Type 0 where
  answered : (a : Answer) → AreUtf8 (words_of block) → IsAnswer (words_of block) text a →
      IsTextAnswer block text a
  not_words : ¬ (AreUtf8 (words_of block)) → IsTextAnswer block text words_answer
  no_memory : IsTextAnswer block text memory_answer

-- `overwritten buffer bytes`: `buffer` with as many of `bytes` as fit at its beginning.
abbrev pub overwritten : List ℕ → List ℕ → List ℕ
overwritten buffer bytes = take (length buffer) bytes ++ drop (length bytes) buffer

-- `status_if_fits a output message`: the status of `a`, or 3 if its output or its message is longer
-- than its buffer.
abbrev pub status_if_fits : Answer → List ℕ → List ℕ → ℕ
status_if_fits a output message =
    if nat_le (length a.output) (length output) && nat_le (length a.message) (length message)
    then a.status
    else 3

-- `HandsOut a output output' message message' sizes status`: the answer `a` was handed out. Its
-- output and message were written, as far as they fit, `sizes` has their lengths, and the status is
-- that of `a`, or 3 if they don't fit.
pub record HandsOut (a : Answer) (output output' message message' : List ℕ) (sizes : Sizes)
    (status : ℕ) : Type 0 where
  pub written : output' ≡ overwritten output a.output
  pub told : message' ≡ overwritten message a.message
  pub measured : sizes ≡ record { output = length a.output; message = length a.message }
  pub returned : status ≡ status_if_fits a output message

-- `AnswersText block text output output' message message' sizes status`: the answer to the words of
-- `block` and this text was handed out.
abbrev pub AnswersText : List ℕ → List ℕ → List ℕ → List ℕ → List ℕ → List ℕ → Sizes → ℕ → Type 0
AnswersText block text output output' message message' sizes status =
    (a : Answer) × IsTextAnswer block text a ×
    HandsOut a output output' message message' sizes status

-- `AnswersArgs args text output output' message message' sizes status`: the definitions' answer to
-- these arguments and this text was handed out, or that memory was refused.
abbrev pub AnswersArgs : List (List ℕ) → List ℕ → List ℕ → List ℕ → List ℕ → List ℕ → Sizes → ℕ →
    Type 0
AnswersArgs args text output output' message message' sizes status =
    (a : Answer) × (IsAnswer args text a ⊎ (a ≡ memory_answer)) ×
    HandsOut a output output' message message' sizes status
