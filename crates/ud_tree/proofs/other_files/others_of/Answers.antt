-- The walk, and the files that it found.
use Rattle.std.proofs.Common.{ap}
use Rattle.ud_replace.specs.Moments.{no_call}
use Rattle.ud_tree.specs.Others.{were_read}
use Rattle.ud_tree.specs.Reports.{ReportState}
use Rattle.ud_tree.proofs.OtherLemmas.{walked_touches, walked_over, none_walked}
use Rattle.ud_tree.proofs.TreeLaws.{each_then}
use Rattle.ud_tree.proofs.other_files.others_of.Goals as goal

pub returns-in_err-patterns-clause-touches : goal.returns-in_err-patterns-clause-touches
returns-in_err-patterns-clause-touches g c = no_call

pub returns-in_err-walk-clause-touches : goal.returns-in_err-walk-clause-touches
returns-in_err-walk-clause-touches g c = no_call

pub returns-in_err-all-clause-touches : goal.returns-in_err-all-clause-touches
returns-in_err-all-clause-touches g c = walked_touches c.walk_paths.ensures.told

pub returns-then-not-all-clause-touches : goal.returns-then-not-all-clause-touches
returns-then-not-all-clause-touches g c = walked_touches c.walk_paths.ensures.told

pub returns-then-not-all-clause-others : goal.returns-then-not-all-clause-others
returns-then-not-all-clause-others g c =
    none_walked (ap (λ (s : ReportState). s.faulty) c.new-silent.ensures) c.walk_paths.ensures.told (c.in_ok-all.ensures.refused c.if-not-all.true) c.none.ensures

pub returns-in_err-found-clause-touches : goal.returns-in_err-found-clause-touches
returns-in_err-found-clause-touches g c = walked_touches c.walk_paths.ensures.told

pub returns-in_err-others-clause-touches : goal.returns-in_err-others-clause-touches
returns-in_err-others-clause-touches g c = each_then (walked_touches c.walk_paths.ensures.told) c.read_others.ensures.touches

pub returns-clause-touches : goal.returns-clause-touches
returns-clause-touches g c = each_then (walked_touches c.walk_paths.ensures.told) c.read_others.ensures.touches

pub returns-clause-others : goal.returns-clause-others
returns-clause-others g c =
    were_read _ c.in_ok-found.found.items
    (walked_over c.in_ok-found.found.items c.in_ok-walk.ensures.found (ap (λ (s : ReportState). s.faulty) c.new-silent.ensures) c.walk_paths.ensures.told c.in_ok-all.ensures.finds
    (rw (c.in_ok-walk.ensures.paths, c.as_slice-paths.ensures.value, c.in_ok-walk.ensures.patterns, c.as_slice-2.ensures.value, c.in_ok-patterns.ensures, c.as_slice.ensures.value) at (c.in_ok-all.ensures.covers c.if-not-all.false))
    c.in_ok-found.ensures)
    c.in_ok-others.ensures.read
