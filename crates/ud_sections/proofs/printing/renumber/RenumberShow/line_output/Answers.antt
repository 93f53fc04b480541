use Rattle.std.proofs.Common.{rules}
use Rattle.ud_sections.proofs.lemmas.printing.PrintedRuns.{kept_one, removed_one}
use Rattle.ud_sections.proofs.printing.renumber.RenumberShow.line_output.Goals as goal

pub returns-in-Keep : goal.returns-in-Keep
returns-in-Keep c = rw c.in-Keep.is (record { line_output = kept_one c.args.self.now.unpadded c.args.self.now.removed (search rules) })

pub returns-in-Remove : goal.returns-in-Remove
returns-in-Remove c = rw c.in-Remove.is (record { line_output = removed_one c.args.self.now.unpadded c.args.self.now.removed (search rules) })
