-- Growth: how the tree of a text grows by a line.
--
-- `Adds t x u`: `u` is the tree of the lines of `t` and then the line `x`. Each tree but the empty
-- one has grown so from one other, and a tree and a line give one tree at most.
use Rattle.std.proofs.Common.{◌≡◌, [], ◌∷◌, ◌++◌, refl, ap, append_assoc, append-nil, ◌⊎◌, inl, inr, arith}
use Rattle.ud_model.specs.sections.Tree.{Opener, Item, text_line, if_line, elif_line, else_line, endif_line, Nodes, Groups, Elifs, Head, Tree, nothing, text, section, conditional, otherwise, first, elif, if_head, elif_head, else_head, closed, open_section, lines, lines_of_nodes, lines_of_groups, lines_of_head}

module _ {L : Type 0} where
  -- The groups of a section whose last group has these nodes.
  abbrev pub complete : Head L → Nodes L → Groups L
  complete (if_head o) b = conditional (first o b)
  complete (elif_head es o) b = conditional (elif es o b)
  complete (else_head es l) b = otherwise es l b

-- The second tree is the first one with this line after it.
pub data Adds {L : Type 0} : Tree L → Item L → Tree L → Type 0 where
  adds_text : {b : Nodes L} {l : L} → Adds (closed b) (text_line l) (closed (text b l))
  adds_if : {b : Nodes L} {o : Opener L} → Adds (closed b) (if_line o) (open_section b (if_head o) (closed nothing))
  elif_after_if : {ns b : Nodes L} {o p : Opener L} →
      Adds (open_section ns (if_head o) (closed b)) (elif_line p) (open_section ns (elif_head (first o b) p) (closed nothing))
  elif_after_elif : {ns b : Nodes L} {es : Elifs L} {o p : Opener L} →
      Adds (open_section ns (elif_head es o) (closed b)) (elif_line p) (open_section ns (elif_head (elif es o b) p) (closed nothing))
  else_after_if : {ns b : Nodes L} {o : Opener L} {l : L} →
      Adds (open_section ns (if_head o) (closed b)) (else_line l) (open_section ns (else_head (first o b) l) (closed nothing))
  else_after_elif : {ns b : Nodes L} {es : Elifs L} {o : Opener L} {l : L} →
      Adds (open_section ns (elif_head es o) (closed b)) (else_line l) (open_section ns (else_head (elif es o b) l) (closed nothing))
  adds_endif : {ns b : Nodes L} {h : Head L} {l : L} →
      Adds (open_section ns h (closed b)) (endif_line l) (closed (section ns (complete h b) l))
  adds_under : {ns : Nodes L} {h : Head L} {t u : Tree L} {x : Item L} → Adds t x u →
      Adds (open_section ns h t) x (open_section ns h u)

module _ {L : Type 0} where
  -- The lines of a section are those up to the opener of its last group, and then those of that
  -- group.
  pub lines-complete : (h : Head L) (b : Nodes L) → lines_of_head h ++ lines_of_nodes b ≡ lines_of_groups (complete h b)
  lines-complete h b = grind arith

  -- The lines of the longer tree are those of the shorter one, and then the line.
  pub lines-add : {t u : Tree L} {x : Item L} → Adds t x u → lines u ≡ lines t ++ x ∷ []
  lines-add (adds_under {ns = ns} {h = h} a) = rw (lines-add a) simp append_assoc
  lines-add h = grind (arith, append-nil, lines-complete, append_assoc)

  -- A tree and a line give one tree at most.
  pub adds-once : {t u v : Tree L} {x : Item L} → Adds t x u → Adds t x v → u ≡ v
  adds-once adds_text adds_text = refl
  adds-once adds_if adds_if = refl
  adds-once elif_after_if elif_after_if = refl
  adds-once elif_after_elif elif_after_elif = refl
  adds-once else_after_if else_after_if = refl
  adds-once else_after_elif else_after_elif = refl
  adds-once adds_endif adds_endif = refl
  adds-once (adds_under {ns = ns} {h = h} a) (adds_under b) = ap (open_section ns h) (adds-once a b)
  adds-once elif_after_if (adds_under b) = elim b [ ]
  adds-once elif_after_elif (adds_under b) = elim b [ ]
  adds-once else_after_if (adds_under b) = elim b [ ]
  adds-once else_after_elif (adds_under b) = elim b [ ]
  adds-once adds_endif (adds_under b) = elim b [ ]
  adds-once (adds_under a) elif_after_if = elim a [ ]
  adds-once (adds_under a) elif_after_elif = elim a [ ]
  adds-once (adds_under a) else_after_if = elim a [ ]
  adds-once (adds_under a) else_after_elif = elim a [ ]
  adds-once (adds_under a) adds_endif = elim a [ ]

  undo_head : (ns : Nodes L) (h : Head L) → (u : Tree L) × (x : Item L) × Adds u x (open_section ns h (closed nothing))
  undo_head ns (if_head o) = (closed ns, if_line o, adds_if)
  undo_head ns (elif_head (first o b) p) = (open_section ns (if_head o) (closed b), elif_line p, elif_after_if)
  undo_head ns (elif_head (elif es o b) p) = (open_section ns (elif_head es o) (closed b), elif_line p, elif_after_elif)
  undo_head ns (else_head (first o b) l) = (open_section ns (if_head o) (closed b), else_line l, else_after_if)
  undo_head ns (else_head (elif es o b) l) = (open_section ns (elif_head es o) (closed b), else_line l, else_after_elif)

  undo_under : (ns : Nodes L) (h : Head L) (t : Tree L) → (t ≡ closed nothing) ⊎ ((u : Tree L) × (x : Item L) × Adds u x t) →
      (u : Tree L) × (x : Item L) × Adds u x (open_section ns h t)
  undo_under ns h t (inl e) = rw e (undo_head ns h)
  undo_under ns h t (inr (u, x, a)) = (open_section ns h u, x, adds_under a)

  -- Each tree but the empty one has grown by a line.
  pub undo : (t : Tree L) → (t ≡ closed nothing) ⊎ ((u : Tree L) × (x : Item L) × Adds u x t)
  undo (closed nothing) = inl refl
  undo (closed (text ns l)) = inr (closed ns, text_line l, adds_text)
  undo (closed (section ns (conditional (first o b)) e)) = inr (open_section ns (if_head o) (closed b), endif_line e, adds_endif)
  undo (closed (section ns (conditional (elif es o b)) e)) = inr (open_section ns (elif_head es o) (closed b), endif_line e, adds_endif)
  undo (closed (section ns (otherwise es l b) e)) = inr (open_section ns (else_head es l) (closed b), endif_line e, adds_endif)
  undo (open_section ns h t) = inr (undo_under ns h t (undo t))
