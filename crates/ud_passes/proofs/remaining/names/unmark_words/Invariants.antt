-- The words before `rest` have taken away their rows' marks.
use Rattle.std.proofs.Common.{◌≡◌, ◌&&◌, List, ℕ, not, false, length, bytes_eq}
use Rattle.ud_cond.specs.symbols.Marks.{is_marked}
use Rattle.ud_passes.specs.remaining.ListedNames.{has_word}
use Rattle.ud_passes.proofs.remaining.names.unmark_words.Given as goal

abbrev pub invariant-loop-first : goal.invariant-loop-first
invariant-loop-first l = (n : List ℕ) → (is_marked l.symbols l.marks.items n && not (has_word (bytes_eq n) false l.rest)) ≡ (is_marked l.symbols l.fn.marks.items n && not (has_word (bytes_eq n) false l.text))

abbrev pub decreases-loop-first : goal.decreases-loop-first
decreases-loop-first l = length l.rest
