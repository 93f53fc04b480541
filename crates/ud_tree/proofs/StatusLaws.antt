-- A run whose status isn't 2: nothing failed.
use Rattle.std.proofs.Common.{◌≡◌, ℕ, ◌+◌, ◌<◌, ◌≤◌, ◌^◌, List, [], length, Bool, true, false, inl, inr, refl, arith}
use Rattle.std.proofs.lemmas.Grind.{common_steps}
use Rattle.ud_tree.specs.Messages.{output_messages}
use Rattle.ud_tree.proofs.DoneLemmas.{all_unfailed}
use Rattle.ud_tree.specs.TreeRuns.{Run, IsRun, IsClean}

-- There is a message if the output failed.
unfailed : (lost failed : Bool) → length (output_messages lost failed) ≡ 0 → failed ≡ false
unfailed lost false is = refl
unfailed true true is = absurd (omega (arith, is))
unfailed false true is = absurd (omega (arith, is))

at_most_two : (lost failed : Bool) → length (output_messages lost failed) ≤ 2
at_most_two true true = omega arith
at_most_two true false = omega arith
at_most_two false true = omega arith
at_most_two false false = omega arith

none_of : (messages : List (List ℕ)) → length messages ≡ 0 → messages ≡ []
none_of messages is = grind (arith, common_steps)

-- A run whose status isn't 2 found files, and nothing failed.
pub run_clean : (run : Run) → ¬ (run.ending.status ≡ 2) → length run.messages + 2 < 2 ^ 64 →
    IsRun run → IsClean run
run_clean run other few (inl h) = absurd (other h.status_is)
run_clean run other few (inr h) = let e = h.ends in
    let s = e.has_status in
    let failed = run.ending.streams.failed in
    let none : (e.tally.faults ≡ 0) × (run.ending.streams.unheard ≡ false) =
    (grind (arith, s.status_is, other)) in
    let most : length (output_messages e.is_lost failed) ≤ 2 = at_most_two e.is_lost failed in
    let sum = s.faults_are (omega (arith, few, most, s.reported, none.0)) in
    let works : failed ≡ false = unfailed e.is_lost failed (omega (arith, sum, none.0)) in
    record {
      processes = h;
      no_message = none_of run.messages (omega (arith, sum, none.0));
      all_done = all_unfailed e.does.is_done works;
      faultless = omega (arith, s.reported, none.0);
      unfailed = works;
      flushed = s.flushed works;
      heard = none.1;
    }
