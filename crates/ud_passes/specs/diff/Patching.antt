-- Patching: how hunks change the lines of a text (POSIX XCU, patch).
--
-- Contexts defines contexts, and when a hunk is before another.
--
-- Example: the hunk after one line that removes the line `b` and adds `c` turns the lines `a`, `b`
-- into `a`, `c`. It doesn't fit `a`, `d`.
use Rattle.std.specs.Prelude.{◌≡◌, ℕ, ◌+◌, ◌-◌, List, [], ◌∷◌, ◌++◌, length, take, drop, map, ◌&&◌}
use Rattle.std.specs.Prelude.{Option, Some, None, option_and_then, option_map, nat_le, bytes_eq}
use Rattle.std.specs.Prelude.{if◌then◌else◌, Bool, All, AllPairs}
use Rattle.ud_model.specs.text.Lines.{texts_of}
use Rattle.ud_passes.specs.diff.Hunks.{Hunk, old_lines, new_lines, turned}
use Rattle.ud_passes.specs.diff.DiffTexts.{diff_text}
use Rattle.ud_passes.specs.diff.Contexts.{HasContext, IsBefore}

-- `rest_after wanted lines`: the lines after `wanted`; none if the lines don't begin with them.
abbrev pub rest_after : List (List ℕ) → List (List ℕ) → Option (List (List ℕ))
rest_after [] lines = Some lines
rest_after (w ∷ ws) [] = None
rest_after (w ∷ ws) (l ∷ ls) = if bytes_eq w l then rest_after ws ls else None

-- `is_within done h lines`: the hunk `h` begins at one of these old lines, which come after `done`
-- others, or at their end.
abbrev pub is_within : ℕ → Hunk → List (List ℕ) → Bool
is_within done h lines = nat_le done h.old_before && nat_le (h.old_before - done) (length lines)

-- `patched_from done hunks lines`: the result of the hunks for the old lines `lines`, which come
-- after `done` others. Each hunk must begin among them, and its old lines must be there.
abbrev pub patched_from : ℕ → List Hunk → List (List ℕ) → Option (List (List ℕ))
patched_from done [] lines = Some lines
patched_from done (h ∷ hunks) lines =
    if is_within done h lines then option_and_then
    (λ rest. option_map (λ news. take (h.old_before - done) lines ++ (new_lines h.lines ++ news))
    (patched_from (h.old_before + length (old_lines h.lines)) hunks rest))
    (rest_after (old_lines h.lines) (drop (h.old_before - done) lines))
    else None

-- `patched hunks lines`: the result of the hunks for the lines of a text; None if they don't fit.
abbrev pub patched : List Hunk → List (List ℕ) → Option (List (List ℕ))
patched hunks lines = patched_from 0 hunks lines

-- `Turns hunks old new`: the hunks turn the lines `old` into `new`. Lines outside hunks stay.
pub data Turns : List Hunk → List (List ℕ) → List (List ℕ) → Type 0 where
  nothing : Turns [] [] []
  stay : (hunks : List Hunk) (old new : List (List ℕ)) (ls : List (List ℕ)) → Turns hunks old new →
      Turns hunks (old ++ ls) (new ++ ls)
  change : (hunks : List Hunk) (old new : List (List ℕ)) (h : Hunk) → Turns hunks old new →
      h.old_before ≡ length old → h.new_before ≡ length new →
      Turns (hunks ++ h ∷ []) (old ++ old_lines h.lines) (new ++ new_lines h.lines)

-- `IsDiff path old new bytes`: `bytes` are the printed form of hunks for the file `path`. Applied
-- to the text `old` they give `new`, and turned round and applied to `new` they give `old`. Each
-- hunk has changes and their contexts, and ends before later ones begin.
pub record IsDiff (path old new bytes : List ℕ) : Type 0 where
  pub hunks : List Hunk
  pub printed : bytes ≡ diff_text path hunks
  pub applied : patched hunks (texts_of old) ≡ Some (texts_of new)
  pub reversed : patched (map turned hunks) (texts_of new) ≡ Some (texts_of old)
  pub in_context : All (HasContext (texts_of old) (texts_of new)) hunks
  pub apart : AllPairs IsBefore hunks
