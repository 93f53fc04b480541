use Rattle.unifdef_c.proofs.WordLemmas.{first_word, only_word}
use Rattle.unifdef_c.proofs.args.split_word.Goals as goal

pub returns-in-Some-clause-words : goal.returns-in-Some-clause-words
returns-in-Some-clause-words c = first_word c.args.block.now c.in-Some.end c.in-Some.ensures

pub returns-in-None-clause-words : goal.returns-in-None-clause-words
returns-in-None-clause-words c = only_word c.args.block.now c.in-None.ensures c.requires.some
