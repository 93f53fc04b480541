-- The leading word ends among four bytes, or among the last ones.
use Rattle.std.proofs.Common.{◌≡◌, ◌∙◌, ◌+◌, length, ap, sym, arith, take_all, rules}
use Rattle.std.proofs.lemmas.List.{length-drop}
use Rattle.ud_model.specs.text.Bytes.{leading_word}
use Rattle.ud_model.proofs.text.ByteLemmas.{word_and_rest, word_of_four}
use Rattle.ud_model.proofs.bytes.word_len.Goals.{Then-count-lt4, After-word_len_one_by_one}
use Rattle.ud_model.proofs.bytes.word_len.Goals as goal

ended : (c : Then-count-lt4) → length (leading_word c.args.bytes.now) ≡ c.fours.at + c.word_len_of_four-count.result
ended c = grind (arith, word_of_four)

pub returns-then-count-lt4-clause-word : goal.returns-then-count-lt4-clause-word
returns-then-count-lt4-clause-word c = (word_and_rest c.args.bytes.now _ (ended c)).1

pub returns-then-count-lt4-clause-rest : goal.returns-then-count-lt4-clause-rest
returns-then-count-lt4-clause-rest c = (word_and_rest c.args.bytes.now _ (ended c)).2

pub fours-preserved : goal.fours-preserved
fours-preserved c = search (rules, word_of_four, take_all, length-drop)

total : (c : After-word_len_one_by_one) → length (leading_word c.args.bytes.now) ≡ c.fours.at + c.word_len_one_by_one.result
total c = c.fours.invariant.0 ∙ ap (λ n. c.fours.at + n) (sym c.word_len_one_by_one.ensures)

pub overflow_add-result-2 : goal.overflow_add-result-2
overflow_add-result-2 c =
    let within = (word_and_rest c.args.bytes.now _ (total c)).0 in omega (arith, within)

pub returns-clause-bound : goal.returns-clause-bound
returns-clause-bound c = (word_and_rest c.args.bytes.now _ (total c)).0

pub returns-clause-word : goal.returns-clause-word
returns-clause-word c = (word_and_rest c.args.bytes.now _ (total c)).1

pub returns-clause-rest : goal.returns-clause-rest
returns-clause-rest c = (word_and_rest c.args.bytes.now _ (total c)).2
