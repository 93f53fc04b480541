-- ListingLemmas: the depth of a line's names, by the number of sections that are open after the
-- line.
use Rattle.std.proofs.Common.{◌≡◌, ℕ, suc, ◌+◌, [], ◌∷◌, ◌++◌, Bool, true, false, refl, append_assoc, append-nil, arith}
use Rattle.ud_model.specs.text.Scans.{Reading}
use Rattle.ud_model.specs.sections.Tree.{Item, Nodes, Head, Tree, text_line, if_line, elif_line, else_line, endif_line, depth}
use Rattle.ud_model.specs.answer.Listing.{levels_of_nodes, levels_of_groups, levels_of_head, levels_from}
use Rattle.ud_model.proofs.sections.Growth.{Adds, adds_text, adds_if, elif_after_if, elif_after_elif, else_after_if, else_after_elif, adds_endif, adds_under, complete}
use Rattle.std.proofs.lemmas.Grind.{common_steps}

-- a directive with a condition: other lines have no names
abbrev pub has_condition : Item Reading → Bool
has_condition (text_line r) = false
has_condition (if_line o) = true
has_condition (elif_line o) = true
has_condition (else_line r) = false
has_condition (endif_line r) = false

groups_complete : (n : ℕ) (h : Head Reading) (b : Nodes Reading) →
    levels_of_groups n (complete h b) ≡ levels_of_head n h ++ levels_of_nodes (suc n) b
groups_complete n h b = grind arith

-- One more line has one more level. That of a directive with a condition is one less than the
-- number of sections that are open then.
pub record LevelsGrow (n : ℕ) (t u : Tree Reading) (x : Item Reading) : Type 0 where
  pub level : ℕ
  pub levels_are : levels_from n u ≡ levels_from n t ++ level ∷ []
  pub within : has_condition x ≡ true → suc level ≡ n + depth u

pub levels_grow : (n : ℕ) {t u : Tree Reading} {x : Item Reading} → Adds t x u → LevelsGrow n t u x
levels_grow n adds_text = record { level = n; levels_are = refl; within = λ e. cc }
levels_grow n adds_if = record { level = n; levels_are = simp append-nil; within = λ e. omega arith }
levels_grow n elif_after_if = record { level = n; levels_are = simp (append-nil, append_assoc); within = λ e. omega arith }
levels_grow n elif_after_elif = record { level = n; levels_are = simp (append-nil, append_assoc); within = λ e. omega arith }
levels_grow n else_after_if = record { level = n; levels_are = simp (append-nil, append_assoc); within = λ e. cc }
levels_grow n else_after_elif = record { level = n; levels_are = simp (append-nil, append_assoc); within = λ e. cc }
levels_grow n (adds_endif {ns = ns} {b = b} {h = h}) = record {
  level = n;
  levels_are = rw (groups_complete n h b) simp append_assoc;
  within = λ e. cc;
}
levels_grow n (adds_under {ns = ns} {h = h} {t = t} {u = u} {x = x} a) = grind (arith, common_steps, levels_grow (suc n) a)
