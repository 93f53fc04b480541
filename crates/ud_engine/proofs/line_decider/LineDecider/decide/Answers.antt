-- A line is decided by one step, whether its scan is known at once or not.
use Rattle.std.proofs.Common.{map, refl}
use Rattle.std.proofs.lemmas.Result.{MatchResult-from_both}
use Rattle.ud_model.specs.sections.Items.{reading_of, mode_after}
use Rattle.ud_model.specs.aids.LineViews.{as_line}
use Rattle.ud_engine.proofs.DeciderLemmas.{scans_one, reads_one, second}
use Rattle.ud_engine.proofs.line_decider.LineDecider.decide.Goals as goal

pub returns-in-Some-clause-decides : goal.returns-in-Some-clause-decides
returns-in-Some-clause-decides g c = λ o xs t represents h.
    let mode = mode_after o t in
    let line = as_line c.args.line.now in
    let before = map reading_of xs in
    let s = scans_one o _ xs t line _ mode refl h.read h.no_fault
    (c.in-Some.ensures.value mode before h.carries)
    (c.in-Some.ensures.represents mode before h.carries) in
    MatchResult-from_both c.step.result _ _
    (reads_one o _ xs t line c.step.result
    (c.step.ensures.represents o xs t s.read
    (record { scanned = s.scanned; represents = represents }))
    (second _ _ c.step.result c.step.ensures.no_fault) s.carries)
    (c.step.ensures.finds_fault o xs t s.read
    (record { scanned = s.scanned; represents = represents }) s.no_fault)

pub returns-clause-decides : goal.returns-clause-decides
returns-clause-decides g c = λ o xs t represents h.
    let line = as_line c.args.line.now in
    let before = map reading_of xs in
    let s = scans_one o _ xs t line _ c.mode-mode.result (c.mode-mode.ensures o xs t h.read)
    h.read h.no_fault (c.read_into-scan.ensures.value before h.carries)
    (c.read_into-scan.ensures.represents before h.carries) in
    MatchResult-from_both c.step-2.result _ _
    (reads_one o _ xs t line c.step-2.result
    (c.step-2.ensures.represents o xs t s.read
    (record { scanned = s.scanned; represents = represents }))
    (second _ _ c.step-2.result c.step-2.ensures.no_fault) s.carries)
    (c.step-2.ensures.finds_fault o xs t s.read
    (record { scanned = s.scanned; represents = represents }) s.no_fault)
