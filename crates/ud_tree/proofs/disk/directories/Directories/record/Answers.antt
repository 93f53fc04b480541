use Rattle.std.proofs.Common.{Some, string_bytes}
use Rattle.ud_tree.proofs.MeetingLemmas.{keeps_first}
use Rattle.ud_tree.proofs.disk.directories.Directories.record.Goals as goal

pub returns-clause-kept : goal.returns-clause-kept
returns-clause-kept g c = keeps_first (string_bytes c.in_ok-key.key) c.args.self.now.met c.insert.new.self
    (Some c.args.id) (rw c.in_ok-key.ensures.ok c.requires) c.in_ok-insert.ensures.updates
