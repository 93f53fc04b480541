-- A splice on a logical line that isn't white.
use Rattle.std.proofs.Common.{refl}
use Rattle.ud_text.proofs.lemmas.bulk.ReachLemmas.{reach_splice, reach_searched}
use Rattle.ud_text.proofs.bulk.fast_path.splice_step.Goals as goal

pub returns-clause-read : goal.returns-clause-read
returns-clause-read c = λ start r.
    reach_searched
    (reach_splice r (c.if-may_be_white.ensures.black start r refl) c.args.count c.requires.some.1
    c.requires.splice) _
