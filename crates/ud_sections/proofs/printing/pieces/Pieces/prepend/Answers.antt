use Rattle.std.proofs.Common.{◌∙◌}
use Rattle.ud_sections.proofs.lemmas.printing.PartLemmas.{one_before}
use Rattle.ud_sections.proofs.printing.pieces.Pieces.prepend.Goals as goal

pub returns-clause-parts : goal.returns-clause-parts
returns-clause-parts c = c.new.ensures.parts ∙ one_before c.args.first c.args.self.slices c.args.self.count c.requires.has_space
