use Rattle.std.proofs.Common.{◌≡◌, length, map}
use Rattle.ud_model.specs.sections.Directives.{kind_among}
use Rattle.ud_model.proofs.keywords.kind_among.Given as goal

abbrev pub invariant-rows : goal.invariant-rows
invariant-rows l = kind_among (map (λ row. (row.0.now, row.1)) l.fn.rows) l.word ≡ kind_among (map (λ row. (row.0.now, row.1)) l.rows) l.word

abbrev pub decreases-rows : goal.decreases-rows
decreases-rows l = length l.rows
