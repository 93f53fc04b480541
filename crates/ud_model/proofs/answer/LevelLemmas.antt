-- Levels: each line of a text has one level, and it is the same in every longer text.
use Rattle.std.proofs.Common.{◌≡◌, ℕ, suc, List, [], ◌∷◌, ◌++◌, length, refl, append_assoc, append-nil, arith}
use Rattle.ud_model.specs.sections.Tree.{Item, Nodes, Head, Tree, lines}
use Rattle.ud_model.specs.answer.Listing.{levels_of_nodes, levels_of_groups, levels_of_head, levels_from, levels}
use Rattle.ud_model.proofs.text.Pushes.{by_push}
use Rattle.ud_model.proofs.sections.Growth.{Adds, adds_text, adds_if, adds_endif, adds_under, complete}
use Rattle.ud_model.proofs.sections.Unique.{length_by, stay_by}

module _ {L : Type 0} where
  -- The levels of a section are those up to the opener of its last group, and then those of that
  -- group.
  levels-complete : (n : ℕ) (h : Head L) (b : Nodes L) → levels_of_groups n (complete h b) ≡ levels_of_head n h ++ levels_of_nodes (suc n) b
  levels-complete n h b = grind arith

  -- One more line has one more level.
  levels_add : (n : ℕ) {t u : Tree L} {x : Item L} → Adds t x u → (k : ℕ) × (levels_from n u ≡ levels_from n t ++ k ∷ [])
  levels_add n adds_text = (n, refl)
  levels_add n adds_if = (n, simp append-nil)
  levels_add n (adds_endif {b = b} {h = h}) = (n, rw (levels-complete n h b) simp append_assoc)
  levels_add n (adds_under {h = h} {t = t} {u = u} a) = grind (arith, append_assoc, levels_add (suc n) a)
  levels_add n _ = (n, simp (append-nil, append_assoc))

  -- Each line has one level.
  pub length_levels : (t : Tree L) → length (levels t) ≡ length (lines t)
  length_levels t = length_by (levels_from 0) (λ t u x a. levels_add 0 a) (by_push (lines t)) refl t refl

  -- The levels of a longer text begin with those of the text.
  pub levels_stay : (t u : Tree L) (more : List (Item L)) → lines u ≡ lines t ++ more → (rest : List ℕ) × (levels u ≡ levels t ++ rest)
  levels_stay t u more e = stay_by (levels_from 0) (λ t u x a. levels_add 0 a) (by_push more) t u e
