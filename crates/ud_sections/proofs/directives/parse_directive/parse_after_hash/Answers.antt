use Rattle.std.proofs.lemmas.List.{length-drop, length-take-le}
use Rattle.std.proofs.Common.{arith}
use Rattle.ud_sections.proofs.lemmas.ParseLemmas.{length-skip_white_and_hash}
use Rattle.ud_sections.proofs.directives.parse_directive.parse_after_hash.Goals as goal

pub overflow_sub-result : goal.overflow_sub-result
overflow_sub-result c = grind (arith, length-skip_white_and_hash)

pub returns-clause-keyword_within : goal.returns-clause-keyword_within
returns-clause-keyword_within c =
    grind (arith, length-drop, length-take-le, length-skip_white_and_hash c.args.scan.now.masked.now c.args.after.now c.skip_rare_white-rest.result.now c.requires.hash c.skip_rare_white-rest.ensures, c.in_ok-keyword.ensures.some.bound)
