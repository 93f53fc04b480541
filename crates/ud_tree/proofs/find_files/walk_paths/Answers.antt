use Rattle.std.proofs.Common.{arith, subst, sym}
use Rattle.std.proofs.lemmas.List.Elements.{All-nil}
use Rattle.std.specs.List.{All, Contains}
use Rattle.std.specs.Prelude.{string_bytes}
use Rattle.ud_tree.specs.Scopes.{Scope}
use Rattle.ud_tree.specs.WalkSteps.{named, no_step, scope_of}
use Rattle.ud_tree.proofs.StepLemmas.{all_looked, next_look, none_named, RootedIn, rooted_made}
use Rattle.ud_tree.proofs.StepLemmas.{same_scope, steps_cover, steps_find, steps_mark}
use Rattle.ud_tree.proofs.StepLemmas.{steps_report, steps_then, stops_report, then_stops}
use Rattle.ud_tree.proofs.WalkTellLemmas.{name_listed}
use Rattle.ud_tree.proofs.find_files.walk_paths.Goals as goal

pub loop-path-init : goal.loop-path-init
loop-path-init g c = no_step

pub start-requires : goal.start-requires
start-requires g c = subst (λ (s : Scope). Contains s.paths c.as_str.result.now)
    (sym (same_scope c.loop-path.invariant)) (rw c.paths-path-items.ensures at
    (name_listed (λ p. string_bytes p) c.paths-path-items.result.now c.loop-path.path-index
    c.path-item.result c.as_str.result.now c.loop-path-test.true c.path-item.is
    c.as_str.ensures.value))

pub loop-path-preserved : goal.loop-path-preserved
loop-path-preserved g c = next_look named (λ p. string_bytes p) c.paths-path-items.result.now
    c.loop-path.path-index c.path-item.result c.as_str.result.now c.loop-path-test.true
    c.path-item.is c.as_str.ensures.value c.loop-path.invariant c.in_ok-start.ensures.look

pub go-requires : goal.go-requires
go-requires g c = subst (λ (s : Scope). All (RootedIn s) c.loop-path.walk.directories.items)
    (sym (same_scope c.loop-path.invariant)) (rooted_made c.loop-path.invariant
    (subst (All (RootedIn (scope_of c.args.walk.now))) (sym c.requires.directories)
    (All-nil (RootedIn (scope_of c.args.walk.now)))))

pub returns-in_err-start-clause-told : goal.returns-in_err-start-clause-told
returns-in_err-start-clause-told g c = stops_report (none_named _) (record {
  rest = _;
  last = _;
  steps = c.loop-path.invariant;
  loses = c.in_err-start.ensures.loses;
})

pub returns-in_err-go-clause-told : goal.returns-in_err-go-clause-told
returns-in_err-go-clause-told g c = stops_report (none_named _) (then_stops
    (all_looked named (λ p. string_bytes p) c.paths-path-items.result.now
    c.loop-path.path-index (omega arith) c.loop-path.invariant) c.in_err-go.ensures.stops)

pub returns-then-faulty-gt0-clause-told : goal.returns-then-faulty-gt0-clause-told
returns-then-faulty-gt0-clause-told g c = steps_report (none_named _) c.loop-path.invariant

pub returns-then-faulty-gt0-clause-finds : goal.returns-then-faulty-gt0-clause-finds
returns-then-faulty-gt0-clause-finds g c = steps_find c.loop-path.invariant c.requires.found

pub returns-clause-told : goal.returns-clause-told
returns-clause-told g c = steps_report (none_named _) (steps_then
    (all_looked named (λ p. string_bytes p) c.paths-path-items.result.now
    c.loop-path.path-index (omega arith) c.loop-path.invariant) c.in_ok-go.ensures.steps)

pub returns-clause-finds : goal.returns-clause-finds
returns-clause-finds g c = steps_find (steps_then
    (all_looked named (λ p. string_bytes p) c.paths-path-items.result.now
    c.loop-path.path-index (omega arith) c.loop-path.invariant) c.in_ok-go.ensures.steps)
    c.requires.found

pub returns-clause-covers : goal.returns-clause-covers
returns-clause-covers g c = λ all. steps_cover (rw c.paths-path-items.ensures at
    (all_looked named (λ p. string_bytes p) c.paths-path-items.result.now
    c.loop-path.path-index (omega arith) c.loop-path.invariant)) c.in_ok-go.ensures.steps
    c.requires.found (λ some. omega (arith, some, c.faulty.ensures, c.if-faulty-gt0.false))
    c.in_ok-go.ensures.all

pub returns-clause-marks : goal.returns-clause-marks
returns-clause-marks g c = λ all. steps_mark (rw c.paths-path-items.ensures at (steps_then
    (all_looked named (λ p. string_bytes p) c.paths-path-items.result.now
    c.loop-path.path-index (omega arith) c.loop-path.invariant) c.in_ok-go.ensures.steps))
