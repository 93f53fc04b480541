use Rattle.std.proofs.Common.{arith}
use Rattle.ud_model.proofs.answer.PrintingLemmas.{last_removed-more}
use Rattle.ud_sections.proofs.lemmas.printing.RenumberLemmas.{removed_piece, following_piece, numbered_piece}
use Rattle.ud_sections.proofs.printing.renumber.RenumberShow.pieces.Goals as goal
use Rattle.std.proofs.lemmas.Grind.{common_steps}

pub returns-then-removed : goal.returns-then-removed
returns-then-removed c = grind (arith, common_steps, last_removed-more, removed_piece)

pub returns-then-not-follows_removed : goal.returns-then-not-follows_removed
returns-then-not-follows_removed c = grind (arith, common_steps, last_removed-more, following_piece)

pub returns : goal.returns
returns c = grind (arith, common_steps, last_removed-more, numbered_piece)
