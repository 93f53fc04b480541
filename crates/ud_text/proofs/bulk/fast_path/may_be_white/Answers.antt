-- By looking back as far as the base.
use Rattle.std.proofs.Common.{◌∙◌, true}
use Rattle.ud_text.proofs.lemmas.bulk.ReachLemmas.{reach_black}
use Rattle.ud_text.proofs.bulk.fast_path.may_be_white.Goals as goal

pub returns-then-p : goal.returns-then-p
returns-then-p c = record { black = λ start r e. reach_black r c.args.p.begins c.is_line_white_after.result c.is_line_white_after.ensures e (λ f. (r.at_line_start c.if-p.true).1 ∙ f) }

pub returns : goal.returns
returns c = record { black = λ start r e. reach_black r true c.is_line_white_after-2.result c.is_line_white_after-2.ensures e (λ f. cc) }
