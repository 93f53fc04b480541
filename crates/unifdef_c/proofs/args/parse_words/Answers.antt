use Rattle.std.proofs.Common.{arith}
use Rattle.std.proofs.lemmas.Result.{err_from_is_err_and}
use Rattle.std.proofs.lemmas.Grind.{common_steps}
use Rattle.unifdef_c.proofs.WordLemmas.{word_refused, word_taken, word_pushed, AreUtf8-append}
use Rattle.unifdef_c.proofs.args.parse_words.Goals as goal

pub returns-in_err-parse_word-clause-err : goal.returns-in_err-parse_word-clause-err
returns-in_err-parse_word-clause-err c = grind (arith, err_from_is_err_and, word_refused)

pub words-preserved : goal.words-preserved
words-preserved c = grind (arith, common_steps, word_pushed, word_taken, AreUtf8-append)
