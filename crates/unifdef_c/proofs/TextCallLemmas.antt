-- TextCallLemmas: from the answer of the tool to the answer of a call.
use Rattle.std.proofs.Common.{◌≡◌, ◌⊎◌, inl, inr, sym, subst, ℕ, List}
use Rattle.ud_model.specs.answer.Answer.{Answer, IsAnswer, memory_answer}
use Rattle.unifdef_c.specs.Words.{words_of, AreUtf8}
use Rattle.unifdef_c.specs.TextCalls.{IsTextAnswer, answered, no_memory}

-- the answer to the arguments is the answer to the block of their words
pub text_answered : (block text : List ℕ) (args : List (List ℕ)) (a : Answer) → args ≡ words_of block → AreUtf8 (words_of block) →
    IsAnswer args text a ⊎ (a ≡ memory_answer) → IsTextAnswer block text a
text_answered block text args a e utf8 (inl is) = answered a utf8 (subst (λ (ws : List (List ℕ)). IsAnswer ws text a) e is)
text_answered block text args a e utf8 (inr is) = subst (λ (x : Answer). IsTextAnswer block text x) (sym is) no_memory

-- the answer whose parts are these
pub parts_are : (a : Answer) (output message : List ℕ) (status : ℕ) → output ≡ a.output → message ≡ a.message → status ≡ a.status →
    a ≡ record { output = output; message = message; status = status }
parts_are a output message status o m s = λ i. record { output = sym o i; message = sym m i; status = sym s i }
