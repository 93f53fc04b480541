-- An opener of the pruned nodes is reached only if the opener from which it comes is.
use Rattle.std.proofs.Common.{◌≡◌, List, true, Option, None, refl, arith}
use Rattle.ud_model.specs.declared.cond.Cond.{Cond}
use Rattle.ud_model.specs.declared.cond.Cond.TheVariants.{Yes, Unknown}
use Rattle.ud_model.specs.sections.Tree.{Opener, Nodes, Groups, Elifs, nothing, text, section, conditional, otherwise, first, elif}
use Rattle.ud_model.specs.sections.Pruning.{Part, an_if, an_elif, first_kept_verdict}
use Rattle.ud_model.specs.laws.Worlds.{World, selected_elifs, EachReached, GroupsReached, ElifsReached, AgreesWith}
use Rattle.ud_model.specs.laws.Pruned.{Edited, edited, then_nodes}
use Rattle.ud_model.proofs.output.Folded.{KeptGroups, none_kept, replaced, kept_groups, ended, with_group, with_else, then_kept, folded, kept_groups_of, kept_elifs_of}
use Rattle.ud_model.proofs.output.SelectedPruned.{out_world, Fits, Chosen, chosen}

module _ {L : Type 0} (w : World L) (P : L → Type 0) (Q : Edited L → Type 0) (stays : (part : Part) (l : L) → P l → Q (edited (first_kept_verdict part) l)) where
  abbrev pub Is : Opener L → Type 0
  Is o = P o.line

  abbrev pub Still : Opener (Edited L) → Type 0
  Still o = Q o.line

  abbrev Reached : Nodes (Edited L) → Type 0
  Reached ps = EachReached (out_world w) Still ps

  abbrev LeftReached : KeptGroups L → Type 0
  LeftReached none_kept = Unit {0}
  LeftReached (replaced ms) = Reached ms
  LeftReached (kept_groups es) = ElifsReached (out_world w) Still es
  LeftReached (ended es l ms k) = ElifsReached (out_world w) Still es × (selected_elifs (out_world w) es ≡ None → Reached ms)

  -- If no group of the rest is processed, none before it was.
  none_before : (s : Option (List L)) (es : Elifs (Edited L)) → Chosen w s (kept_groups es) → selected_elifs (out_world w) es ≡ None → s ≡ None
  none_before s es h e = grind arith

  -- The case of one more group.
  group_reached : (s : Option (List L)) (left : KeptGroups L) (part : Part) (o : Opener L) (c : Cond) (ps : Nodes (Edited L)) → Chosen w s left → LeftReached left →
      (s ≡ None → AgreesWith w c o.line) → (s ≡ None → Is o × (w o.line ≡ true → Reached ps)) → LeftReached (with_group left part o c ps)
  group_reached s none_kept part o Yes ps h r a n = (n h).1 (a h)
  group_reached s none_kept part o Unknown ps h r a n = (stays part o.line (n h).0, (n h).1)
  group_reached s (kept_groups es) part o Yes ps h r a n = (r, λ e. (n (none_before s es h e)).1 (a (none_before s es h e)))
  group_reached s (kept_groups es) part o Unknown ps h r a n = (r, λ e. (stays an_if o.line (n (none_before s es h e)).0, (n (none_before s es h e)).1))
  group_reached s (ended es l ms None) part o c ps h r a n = r
  group_reached s left part o c ps h r a n = r

  else_reached : (s : Option (List L)) (left : KeptGroups L) (l : L) (ps : Nodes (Edited L)) → Chosen w s left →
      LeftReached left → (s ≡ None → Reached ps) → LeftReached (with_else left l ps)
  else_reached s left l ps h r n = grind arith

  then_reached : (ms ns : Nodes (Edited L)) → Reached ms → Reached ns → Reached (then_nodes ms ns)
  then_reached ms nothing a b = a
  then_reached ms (text ns l) a b = then_reached ms ns a b
  then_reached ms (section ns gs e) a b = (then_reached ms ns a b.0, b.1)

  left_reached : (ps : Nodes (Edited L)) (left : KeptGroups L) (e : L) → Reached ps → LeftReached left → Reached (then_kept ps left e)
  left_reached ps left e a r = grind (arith, then_reached)

  mutual
    -- In a world that agrees, pruning keeps a property of each opener that is reached.
    pub pruned_reached : (ns : Nodes L) → EachReached w (Fits w) ns → EachReached w Is ns → EachReached (out_world w) Still (folded ns)
    pruned_reached nothing a h = tt
    pruned_reached (text ns l) a h = pruned_reached ns a h
    pruned_reached (section ns gs e) a h = left_reached (folded ns) (kept_groups_of gs) e (pruned_reached ns a.0 h.0) (groups_reached gs a.1 h.1)

    groups_reached : (gs : Groups L) → GroupsReached w (Fits w) gs → GroupsReached w Is gs → LeftReached (kept_groups_of gs)
    groups_reached (conditional es) a h = elifs_reached es a h
    groups_reached (otherwise es l ns) a h =
        else_reached (selected_elifs w es) (kept_elifs_of es) l (folded ns) (chosen w es a.0) (elifs_reached es a.0 h.0) (λ e. pruned_reached ns (a.1 e) (h.1 e))

    elifs_reached : (es : Elifs L) → ElifsReached w (Fits w) es → ElifsReached w Is es → LeftReached (kept_elifs_of es)
    elifs_reached (first o ns) a h =
        group_reached None none_kept an_if o o.cond (folded ns) refl tt (λ e. a.0) (λ e. (h.0, λ t. pruned_reached ns (a.1 t) (h.1 t)))
    elifs_reached (elif es o ns) a h =
        group_reached (selected_elifs w es) (kept_elifs_of es) an_elif o o.cond (folded ns) (chosen w es a.0) (elifs_reached es a.0 h.0) (λ e. (a.1 e).0)
        (λ e. ((h.1 e).0, λ t. pruned_reached ns ((a.1 e).1 t) ((h.1 e).1 t)))
