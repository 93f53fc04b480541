-- A world selects of the pruned nodes the lines that it selects of the nodes, if it agrees with the
-- decided conditions.
use Rattle.std.proofs.Common.{◌≡◌, List, [], ◌∷◌, ◌++◌, map, true, Option, Some, None, option_map, refl, sym, ◌∙◌, ap, append-nil, append_assoc, arith}
use Rattle.std.proofs.lemmas.List.{map-append}
use Rattle.ud_model.specs.declared.cond.Cond.{Cond}
use Rattle.ud_model.specs.declared.verdict.Verdict.TheVariants.{Keep}
use Rattle.ud_model.specs.sections.Tree.{Opener, Nodes, Groups, Elifs, nothing, text, section, conditional, otherwise, first, elif}
use Rattle.ud_model.specs.sections.Pruning.{Part, an_if, an_elif}
use Rattle.ud_model.specs.laws.Worlds.{World, or_else, lines_or, where_true, selected, selected_groups, selected_elifs, EachReached, GroupsReached, ElifsReached, AgreesWith}
use Rattle.ud_model.specs.laws.Pruned.{Edited, edited, then_nodes}
use Rattle.ud_model.proofs.output.Folded.{KeptGroups, none_kept, replaced, kept_groups, ended, with_group, with_else, then_kept, folded, kept_groups_of, kept_elifs_of}

module _ {L : Type 0} (w : World L) where
  -- A line of the output has the truth of the line that it comes from.
  abbrev pub out_world : World (Edited L)
  out_world e = w e.line

  abbrev kept : L → Edited L
  kept l = edited Keep l

  -- The lines selected of the groups so far, by the rest of the groups.
  abbrev pub Chosen : Option (List L) → KeptGroups L → Type 0
  Chosen s none_kept = s ≡ None
  Chosen s (replaced ms) = (ls : List L) × (s ≡ Some ls) × (map kept ls ≡ selected out_world ms)
  Chosen s (kept_groups es) = option_map (map kept) s ≡ selected_elifs out_world es
  Chosen s (ended es l ms k) = (ls : List L) × (s ≡ Some ls) × (map kept ls ≡ lines_or (selected_elifs out_world es) (selected out_world ms))

  -- The case of one more group.
  group_step : (s : Option (List L)) (left : KeptGroups L) (part : Part) (o : Opener L) (c : Cond) (ns : Nodes L) (ps : Nodes (Edited L)) →
      Chosen s left → (s ≡ None → AgreesWith w c o.line) → (s ≡ None → w o.line ≡ true → map kept (selected w ns) ≡ selected out_world ps) →
      Chosen (or_else s (where_true (w o.line) (selected w ns))) (with_group left part o c ps)
  group_step s left part o c ns ps h a n = grind arith

  -- The lines selected of a whole section, by the rest of it.
  abbrev Final : List L → KeptGroups L → Type 0
  Final ls none_kept = ls ≡ []
  Final ls (replaced ms) = map kept ls ≡ selected out_world ms
  Final ls (kept_groups es) = map kept ls ≡ lines_or (selected_elifs out_world es) []
  Final ls (ended es l ms k) = map kept ls ≡ lines_or (selected_elifs out_world es) (selected out_world ms)

  without_else : (s : Option (List L)) (left : KeptGroups L) → Chosen s left → Final (lines_or s []) left
  without_else s left h = grind arith

  else_step : (s : Option (List L)) (left : KeptGroups L) (l : L) (ns : Nodes L) (ps : Nodes (Edited L)) →
      Chosen s left → (s ≡ None → map kept (selected w ns) ≡ selected out_world ps) → Final (lines_or s (selected w ns)) (with_else left l ps)
  else_step s left l ns ps h n = grind arith

  selected_then : (ms ns : Nodes (Edited L)) → selected out_world (then_nodes ms ns) ≡ selected out_world ms ++ selected out_world ns
  selected_then ms nothing = sym (append-nil (selected out_world ms))
  selected_then ms (text ns l) = grind (arith, append_assoc, selected_then ms ns)
  selected_then ms (section ns gs e) = grind (arith, append_assoc, selected_then ms ns)

  section_step : (before ls : List L) (ps : Nodes (Edited L)) (left : KeptGroups L) (e : L) → map kept before ≡ selected out_world ps → Final ls left →
      map kept (before ++ ls) ≡ selected out_world (then_kept ps left e)
  section_step before ls ps left e a h = grind (arith, append-nil, map-append, selected_then)

  -- The truth that the world gives an opener fits its condition.
  abbrev pub Fits : Opener L → Type 0
  Fits o = AgreesWith w o.cond o.line

  mutual
    -- In a world that agrees, pruning changes nothing of the selected lines.
    pub selected-pruned : (ns : Nodes L) → EachReached w Fits ns → map kept (selected w ns) ≡ selected out_world (folded ns)
    selected-pruned nothing a = refl
    selected-pruned (text ns l) a = map-append kept (selected w ns) (l ∷ []) ∙ ap (λ (ls : List (Edited L)). ls ++ kept l ∷ []) (selected-pruned ns a)
    selected-pruned (section ns gs e) a =
        section_step (selected w ns) (selected_groups w gs) (folded ns) (kept_groups_of gs) e (selected-pruned ns a.0) (final gs a.1)

    final : (gs : Groups L) → GroupsReached w Fits gs → Final (selected_groups w gs) (kept_groups_of gs)
    final (conditional es) a = without_else (selected_elifs w es) (kept_elifs_of es) (chosen es a)
    final (otherwise es l ns) a = else_step (selected_elifs w es) (kept_elifs_of es) l ns (folded ns) (chosen es a.0) (λ e. selected-pruned ns (a.1 e))

    pub chosen : (es : Elifs L) → ElifsReached w Fits es → Chosen (selected_elifs w es) (kept_elifs_of es)
    chosen (first o ns) a = group_step None none_kept an_if o o.cond ns (folded ns) refl (λ e. a.0) (λ e t. selected-pruned ns (a.1 t))
    chosen (elif es o ns) a =
        group_step (selected_elifs w es) (kept_elifs_of es) an_elif o o.cond ns (folded ns) (chosen es a.0) (λ e. (a.1 e).0) (λ e t. selected-pruned ns ((a.1 e).1 t))
