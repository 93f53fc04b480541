-- There are several parts, or the first one has all lines.
use Rattle.std.proofs.Common.{arith}
use Rattle.std.proofs.lemmas.List.{length-map}
use Rattle.ud_passes.specs.squeezing.Squeezing.{gaps_of}
use Rattle.ud_passes.proofs.SqueezeLemmas.{only_all}
use Rattle.ud_passes.proofs.squeezing.stretches.only_part.Goals as goal

pub returns-then-count-stretch : goal.returns-then-count-stretch
returns-then-count-stretch c = grind (arith, only_all 0 (gaps_of c.args.stretch.now) c.args.below, c.first_part-count.ensures c.args.below, length-map, c.if-count-stretch.either)

pub returns-else-count-stretch : goal.returns-else-count-stretch
returns-else-count-stretch c = grind (arith, only_all 0 (gaps_of c.args.stretch.now) c.args.below, c.first_part-count.ensures c.args.below, length-map, c.if-count-stretch.false)
