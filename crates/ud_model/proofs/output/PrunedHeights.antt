-- Heights: one more line makes a text no higher than it is deep then, and pruning makes none
-- higher.
use Rattle.std.proofs.Common.{◌≡◌, ℕ, suc, ◌≤◌, max, refl, ap₂, arith}
use Rattle.ud_model.specs.declared.cond.Cond.{Cond}
use Rattle.ud_model.specs.sections.Tree.{Item, Opener, Nodes, Groups, Elifs, Tree, nothing, text, section, conditional, otherwise, first, elif, depth, with_lines, groups_with_lines, elifs_with_lines}
use Rattle.ud_model.specs.sections.Pruning.{Part, an_if, an_elif}
use Rattle.ud_model.specs.aids.Height.{height, height_of_nodes, height_of_groups, height_of_elifs}
use Rattle.ud_model.specs.laws.Pruned.{Edited, then_nodes}
use Rattle.ud_model.proofs.output.Folded.{KeptGroups, none_kept, replaced, kept_groups, ended, with_group, with_else, then_kept, folded, kept_groups_of, kept_elifs_of}
use Rattle.ud_model.proofs.sections.Growth.{Adds, adds_under}

module _ {L : Type 0} where
  -- One more line makes a text no higher than it is deep then.
  pub grows_most : {t u : Tree L} {x : Item L} → Adds t x u → height u ≤ max (height t) (depth u)
  grows_most (adds_under {t = t} {u = u} a) = let c : height u ≤ max (height t) (depth u) = grows_most a in omega arith
  grows_most h = grind arith

  abbrev height_left : KeptGroups L → ℕ
  height_left none_kept = 0
  height_left (replaced ms) = height_of_nodes ms
  height_left (kept_groups es) = suc (height_of_elifs es)
  height_left (ended es l ms k) = suc (max (height_of_elifs es) (height_of_nodes ms))

  with_most : (left : KeptGroups L) (part : Part) (o : Opener L) (c : Cond) (ps : Nodes (Edited L)) →
      height_left (with_group left part o c ps) ≤ max (height_left left) (suc (height_of_nodes ps))
  with_most left part o c ps = grind arith

  else_most : (left : KeptGroups L) (l : L) (ps : Nodes (Edited L)) → height_left (with_else left l ps) ≤ max (height_left left) (suc (height_of_nodes ps))
  else_most left l ps = grind arith

  then_most : (ms ns : Nodes (Edited L)) → height_of_nodes (then_nodes ms ns) ≤ max (height_of_nodes ms) (height_of_nodes ns)
  then_most ms nothing = omega arith
  then_most ms (text ns l) = let c : height_of_nodes (then_nodes ms ns) ≤ max (height_of_nodes ms) (height_of_nodes ns) = then_most ms ns in omega arith
  then_most ms (section ns gs e) = let c : height_of_nodes (then_nodes ms ns) ≤ max (height_of_nodes ms) (height_of_nodes ns) = then_most ms ns in omega arith

  left_most : (ps : Nodes (Edited L)) (left : KeptGroups L) (e : L) → height_of_nodes (then_kept ps left e) ≤ max (height_of_nodes ps) (height_left left)
  left_most ps left e = grind (arith, then_most)

  mutual
    -- Pruned nodes are no higher.
    pub pruned_height : (ns : Nodes L) → height_of_nodes (folded ns) ≤ height_of_nodes ns
    pruned_height nothing = omega arith
    pruned_height (text ns l) = pruned_height ns
    pruned_height (section ns gs e) =
        let a : height_of_nodes (folded ns) ≤ height_of_nodes ns = pruned_height ns in
        let b : height_left (kept_groups_of gs) ≤ suc (height_of_groups gs) = groups_height gs in
        let c = left_most (folded ns) (kept_groups_of gs) e in
        omega arith

    groups_height : (gs : Groups L) → height_left (kept_groups_of gs) ≤ suc (height_of_groups gs)
    groups_height (conditional es) = elifs_height es
    groups_height (otherwise es l ns) =
        let a : height_of_nodes (folded ns) ≤ height_of_nodes ns = pruned_height ns in
        let b : height_left (kept_elifs_of es) ≤ suc (height_of_elifs es) = elifs_height es in
        let c = else_most (kept_elifs_of es) l (folded ns) in
        omega arith

    elifs_height : (es : Elifs L) → height_left (kept_elifs_of es) ≤ suc (height_of_elifs es)
    elifs_height (first o ns) =
        let a : height_of_nodes (folded ns) ≤ height_of_nodes ns = pruned_height ns in
        let c = with_most none_kept an_if o o.cond (folded ns) in
        omega arith
    elifs_height (elif es o ns) =
        let a : height_of_nodes (folded ns) ≤ height_of_nodes ns = pruned_height ns in
        let b : height_left (kept_elifs_of es) ≤ suc (height_of_elifs es) = elifs_height es in
        let c = with_most (kept_elifs_of es) an_elif o o.cond (folded ns) in
        omega arith

module _ {L M : Type 0} (f : L → M) where
  mutual
    -- Nodes with other lines are as high.
    pub height-with : (ns : Nodes L) → height_of_nodes (with_lines f ns) ≡ height_of_nodes ns
    height-with nothing = refl
    height-with (text ns l) = height-with ns
    height-with (section ns gs e) = ap₂ (λ (a b : ℕ). max a (suc b)) (height-with ns) (groups_with gs)

    groups_with : (gs : Groups L) → height_of_groups (groups_with_lines f gs) ≡ height_of_groups gs
    groups_with (conditional es) = elifs_with es
    groups_with (otherwise es l ns) = ap₂ (λ (a b : ℕ). max a b) (elifs_with es) (height-with ns)

    elifs_with : (es : Elifs L) → height_of_elifs (elifs_with_lines f es) ≡ height_of_elifs es
    elifs_with (first o ns) = height-with ns
    elifs_with (elif es o ns) = ap₂ (λ (a b : ℕ). max a b) (elifs_with es) (height-with ns)
