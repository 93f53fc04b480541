-- FoldedMarks: the marks of the lines of a text, from those of the same text folded.
--
--   represented line               how many lines a folded line represents
--   first_stay n stay              the marks of `n` lines of which the first ones stay
--   unfolded ms folded printed     the marks of the lines that folded lines represent
--
-- Example: a directive of three lines stays, and is printed in two. It is one folded line with the
-- mark `~`, and its lines have the marks `=`, `=` and 0.
use Rattle.std.specs.Prelude.{ℕ, ◌+◌, ◌-◌, ◌==◌, List, [], ◌∷◌, ◌++◌, min}
use Rattle.std.specs.Prelude.{replicate}
use Rattle.std.specs.Prelude.{if◌then◌else◌}
use Rattle.std.specs.List.{count_by}
use Rattle.ud_simplified.specs.FoldedTexts.{vertical_tab}
use Rattle.ud_passes.specs.declared.diff.script.TheConstants.{SAME}
use Rattle.ud_passes.specs.squeezing.SqueezedTexts.{stays}
use Rattle.ud_replace.specs.declared.marked.TheConstants.{REMOVED}
use Rattle.ud_replace.specs.Marks.{first_text, later_texts}

-- `represented line`: how many lines a folded line represents: one more than it has vertical tabs.
abbrev pub represented : List ℕ → ℕ
represented line = count_by (λ b. b == vertical_tab) line + 1

-- `first_stay n stay`: the marks of `n` lines, of which the first `stay` stay and the others go.
unfoldable pub first_stay : ℕ → ℕ → List ℕ
first_stay n stay = replicate (min stay n) SAME ++ replicate (n - stay) REMOVED

-- `marks_for m folded shown`: the marks of the lines that `folded` represents. If its mark `m` says
-- that it stays, as many first ones stay as `shown` represents, the line that is printed for it.
abbrev pub marks_for : ℕ → List ℕ → List ℕ → List ℕ
marks_for m folded shown =
    first_stay (represented folded) (if stays m then represented shown else 0)

-- `unfolded ms folded printed`: the marks of the lines that the lines `folded` represent, which
-- have the marks `ms`. For each line that stays, the next one of the lines `printed` is printed.
abbrev pub unfolded : List ℕ → List (List ℕ) → List (List ℕ) → List ℕ
unfolded [] folded printed = []
unfolded (m ∷ ms) folded printed = marks_for m (first_text folded) (first_text printed) ++
    unfolded ms (later_texts folded) (if stays m then later_texts printed else printed)
