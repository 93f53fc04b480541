-- Each line has a newline.
use Rattle.std.proofs.Common.{◌∙◌, sym, subst, ◌≤◌, ℕ, length}
use Rattle.std.proofs.lemmas.List.Sums.{count_by-le-length}
use Rattle.ud_text.specs.lines.Consuming.{is_newline}
use Rattle.ud_text.proofs.lemmas.lines.ConsumeLemmas.{lines_counted}
use Rattle.ud_passes.proofs.remaining.listing.Listing.lines_in.Goals as goal

pub returns-in-Listed-clause-few : goal.returns-in-Listed-clause-few
returns-in-Listed-clause-few c = subst (λ (n : ℕ). n ≤ length c.args.bytes.now) (sym (c.count_lines.ensures ∙ lines_counted c.args.bytes.now)) (count_by-le-length is_newline c.args.bytes.now)
