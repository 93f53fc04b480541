-- Examples: what a preprocessor does with two files, computed by the checker.
use Rattle.std.proofs.Common.{◌≡◌, refl, ℕ, ◌==◌, ◌||◌, List, [], ◌∷◌, Bool, true, false}
use Rattle.ud_model.specs.sections.Tree.{Nodes, nothing, text, section, conditional, first}
use Rattle.ud_laws.specs.output.Processing.{Preprocessor, Processes, no_nodes, takes_line, includes_file, selects_group, no_group, true_group, first_true, first_false}
use Rattle.ud_model.specs.declared.cond.Cond.TheVariants.{Unknown}

-- `has n s`: the line `n` was taken.
abbrev has : ℕ → List ℕ → Bool
has n [] = false
has n (l ∷ s) = (n == l) || has n s

-- A preprocessor whose state has the lines that it took, last first. Line 9 includes a file. The
-- conditions are true once line 1 was taken, which defines a macro.
abbrev defining : Preprocessor (List ℕ) ℕ ℕ
defining = record {
  takes = λ s l t. ((l == 9) ≡ false) × (t ≡ l ∷ s);
  enters = λ s l f t. ((l == 9) ≡ true) × (t ≡ s);
  leaves = λ s t. t ≡ s;
  decides = λ s o b t. (b ≡ has 1 s) × (s ≡ t);
}

-- A header with line 1.
abbrev header : ℕ → Nodes ℕ
header f = text nothing 1

-- An `#if` on line 2, text on line 3, `#endif` on line 4, after the nodes `ns`.
abbrev with_if : Nodes ℕ → Nodes ℕ
with_if ns = section ns (conditional (first (record { line = 2; cond = Unknown; ignoring = false }) (text nothing 3))) 4

-- If the header is included before, the condition is true, and the text is taken.
pub after_include : Processes defining header (with_if (text nothing 9)) [] (3 ∷ 1 ∷ [])
after_include =
    selects_group (includes_file {f = 0} no_nodes (refl, refl) (takes_line no_nodes (refl, refl)) refl)
    (true_group (first_true (refl, refl) (takes_line no_nodes (refl, refl))))

-- Without it the condition is false, and nothing is taken.
pub without_include : Processes defining header (with_if nothing) [] []
without_include = selects_group no_nodes (no_group (first_false (refl, refl)))
