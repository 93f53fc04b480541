-- Which files of a run are processed before it ends.
use Rattle.std.proofs.Common.{◌≡◌, ℕ, List, Bool, true, false, refl, ap, ◌∙◌, arith}
use Rattle.std.proofs.lemmas.List.{get_or-take, length-take}
use Rattle.std.specs.List.{AllPairs}
use Rattle.ud_io.specs.Streams.{Stream, Sends}
use Rattle.ud_tree.specs.declared.arguments.Arguments.{Arguments}
use Rattle.ud_tree.specs.declared.walk.Found.{Found}
use Rattle.ud_tree.specs.TreeRuns.{IsDone, all_done, stopped}
use Rattle.ud_tree.specs.Walks.{IsBefore}
use Rattle.std.proofs.lemmas.Grind.{common_steps}

-- A stream that has failed still has after more was sent.
pub still_failed : {a b : Stream} {bytes : List ℕ} → Sends a b bytes → a.failed ≡ true →
    b.failed ≡ true
still_failed h is = ap (λ (s : Stream). s.failed) (h.fused is) ∙ is

-- The files are those that were processed, also once more was written.
pub done_later : {args : Arguments} {a b : Bool} {files done : List Found} →
    (a ≡ true → b ≡ true) → IsDone args a files done → IsDone args b files done
done_later later all_done = all_done
done_later later (stopped n shows is) = stopped n shows (later is)

-- If the output hasn't failed, all files were processed.
pub all_unfailed : {args : Arguments} {failed : Bool} {files done : List Found} →
    IsDone args failed files done → failed ≡ false → done ≡ files
all_unfailed all_done off = refl
all_unfailed (stopped n shows is) off = absurd cc

-- The files that were processed are in their order.
pub done_before : {args : Arguments} {failed : Bool} {files done : List Found} →
    IsDone args failed files done → AllPairs IsBefore files → AllPairs IsBefore done
done_before all_done h = h
done_before {files = files} (stopped n shows is) h = grind (arith, common_steps, length-take, get_or-take, h)
