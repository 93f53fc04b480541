-- The folded text has a fault.
use Rattle.std.proofs.Common.{subst}
use Rattle.ud_replace.specs.MadeOutcomes.{FoldsInto}
use Rattle.ud_tree.specs.Remainders.{mode_of}
use Rattle.ud_tree.proofs.ShownLemmas.{read_faulty}
use Rattle.ud_tree.proofs.list_file.list_folded.Goals as goal

pub returns-in-Err-Text : goal.returns-in-Err-Text
returns-in-Err-Text c = λ o p.
    let f = subst (FoldsInto c.args.text.now) c.in-Some.is c.in_ok-lines.ensures in
    read_faulty o (mode_of c.args.job.now.arguments.now) f.0 c.as_slice.ensures.value c.in-Err-Text.field-0-is (c.in-Err-Text.ensures o.run p.settings p.table)
