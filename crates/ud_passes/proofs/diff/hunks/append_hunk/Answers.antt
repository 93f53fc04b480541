-- By the ranges and the lines.
use Rattle.ud_passes.proofs.HunkLemmas.{hunk_appended}
use Rattle.ud_passes.proofs.diff.hunks.append_hunk.Goals as goal

pub returns : goal.returns
returns c =
    hunk_appended c.args.out.now.items c.append_ranges.new.out.items c.append_lines.new.out.items c.args.old_before c.args.new_before c.count_old.result
    c.count_new.result c.args.lines.now c.in_ok-append_ranges.ensures c.in_ok-append_lines.ensures c.count_old.ensures c.count_new.ensures
