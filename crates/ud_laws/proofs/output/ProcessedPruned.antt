-- A preprocessor processes the pruned nodes as it processes the nodes, if it agrees with the decided
-- conditions.
use Rattle.std.proofs.Common.{◌≡◌, Bool, true, false, refl, sym, ◌∙◌, subst, ◌⊎◌, inl, inr, arith}
use Rattle.ud_model.specs.declared.cond.Cond.{Cond}
use Rattle.ud_model.specs.declared.cond.Cond.TheVariants.{Yes, No, Unknown}
use Rattle.ud_model.specs.sections.Tree.{Opener, Nodes, Groups, Elifs, nothing, text, section}
use Rattle.ud_model.specs.sections.Tree.{conditional, otherwise, first, elif, opener_with_line}
use Rattle.ud_model.specs.sections.Tree.{with_lines, groups_with_lines, elifs_with_lines}
use Rattle.ud_model.specs.sections.Pruning.{Part, an_if, an_elif}
use Rattle.ud_model.specs.declared.verdict.Verdict.TheVariants.{Keep}
use Rattle.ud_model.specs.laws.Pruned.{Edited, edited, then_nodes}
use Rattle.ud_laws.specs.output.Processing.{Preprocessor, Processes, no_nodes, takes_line}
use Rattle.ud_laws.specs.output.Processing.{includes_file, selects_group, ProcessesOne, no_group}
use Rattle.ud_laws.specs.output.Processing.{true_group, true_before_else, else_group, ProcessesTrue}
use Rattle.ud_laws.specs.output.Processing.{first_true, true_before, elif_true, NoneTrue}
use Rattle.ud_laws.specs.output.Processing.{first_false, elif_false}
use Rattle.ud_model.proofs.output.Folded.{KeptGroups, none_kept, replaced, kept_groups, ended, with_group, with_else, then_kept, folded, kept_groups_of, kept_elifs_of}

-- A condition that is decided has the truth, and leaves the state as it is. Any other condition may
-- have either, and change the state.
abbrev pub AgreesAs : {S : Type 0} → Cond → Bool → S → S → Type 0
AgreesAs Yes b s t = (b ≡ true) × (s ≡ t)
AgreesAs No b s t = (b ≡ false) × (s ≡ t)
AgreesAs Unknown b s t = Unit {0}

-- A preprocessor over the lines of an output, each taken as the line that it comes from.
abbrev pub of_origin : {S F L : Type 0} → Preprocessor S F L → Preprocessor S F (Edited L)
of_origin p = record {
  takes = λ s e t. p.takes s e.line t;
  enters = λ s e f t. p.enters s e.line f t;
  leaves = p.leaves;
  decides = λ s o b t. p.decides s (opener_with_line (λ e. e.line) o) b t;
}

module _ {S F L : Type 0} (p : Preprocessor S F L) where
  -- Each decision on the opener agrees with its condition.
  abbrev pub IsRight : Opener L → Type 0
  IsRight o = (s : S) (b : Bool) (t : S) → p.decides s o b t → AgreesAs o.cond b s t

  abbrev mutual
    -- Each decision on an opener that may be reached in the nodes agrees with its condition.
    pub NodesRight : Nodes L → Type 0
    NodesRight nothing = Unit {0}
    NodesRight (text ns l) = NodesRight ns
    NodesRight (section ns gs e) = NodesRight ns × GroupsRight gs

    pub GroupsRight : Groups L → Type 0
    GroupsRight (conditional es) = ElifsRight es
    GroupsRight (otherwise es l ns) = ElifsRight es × ((s t : S) → NoneTrue p es s t → NodesRight ns)

    pub ElifsRight : Elifs L → Type 0
    ElifsRight (first o ns) = IsRight o × ((s t : S) → p.decides s o true t → NodesRight ns)
    ElifsRight (elif es o ns) = ElifsRight es × ((s t : S) → NoneTrue p es s t → IsRight o × ((u v : S) → p.decides u o true v → NodesRight ns))

  -- A file is pruned, and each decision in it is right; or it stays as it is.
  pub data HasOutput : Nodes L → Nodes (Edited L) → Type 0 where
    is_pruned : {ns : Nodes L} → NodesRight ns → HasOutput ns (folded ns)
    is_kept : {ns : Nodes L} → HasOutput ns (with_lines (edited Keep) ns)

module _ {S F L : Type 0} (p : Preprocessor S F L) (files : F → Nodes L) (outputs : F → Nodes (Edited L)) (output : (f : F) → HasOutput p (files f) (outputs f)) where
  abbrev out : Preprocessor S F (Edited L)
  out = of_origin p

  -- A group of those so far is processed: the rest of them leads from one state to another.
  abbrev LeftTrue : KeptGroups L → S → S → Type 0
  LeftTrue none_kept s t = ⊥
  LeftTrue (replaced ms) s t = Processes out outputs ms s t
  LeftTrue (kept_groups es) s t = ProcessesTrue out outputs es s t
  LeftTrue (ended es l ms k) s t = ProcessesTrue out outputs es s t ⊎ ((u : S) × NoneTrue out es s u × Processes out outputs ms u t)

  -- No group of them is processed.
  abbrev LeftNone : KeptGroups L → S → S → Type 0
  LeftNone none_kept s t = s ≡ t
  LeftNone (replaced ms) s t = ⊥
  LeftNone (kept_groups es) s t = NoneTrue out es s t
  LeftNone (ended es l ms k) s t = ⊥

  -- All groups of a section come to this.
  abbrev LeftOne : KeptGroups L → S → S → Type 0
  LeftOne none_kept s t = s ≡ t
  LeftOne (replaced ms) s t = Processes out outputs ms s t
  LeftOne (kept_groups es) s t = ProcessesOne out outputs (conditional es) s t
  LeftOne (ended es l ms k) s t = ProcessesOne out outputs (otherwise es l ms) s t

  -- A group after a true one.
  still_true : (left : KeptGroups L) (part : Part) (o : Opener L) (c : Cond) (ps : Nodes (Edited L)) (s t : S) → LeftTrue left s t → LeftTrue (with_group left part o c ps) s t
  still_true left part o c ps s t h = grind (arith, absurd, inl, true_before)

  -- Nodes are processed from an equal state.
  from_state : (ps : Nodes (Edited L)) (s t u : S) → s ≡ t → Processes out outputs ps t u → Processes out outputs ps s u
  from_state ps s t u e g = subst (λ (x : S). Processes out outputs ps x u) (sym e) g

  -- A true group after none.
  now_true : (left : KeptGroups L) (part : Part) (o : Opener L) (c : Cond) (ps : Nodes (Edited L)) (s t u v : S) → LeftNone left s t → AgreesAs c true t u → p.decides t o true u →
      Processes out outputs ps u v → LeftTrue (with_group left part o c ps) s v
  now_true none_kept part o Yes ps s t u v h a d g = from_state ps s u v (h ∙ a.1) g
  now_true none_kept part o Unknown ps s t u v h a d g = first_true (subst (λ (x : S). p.decides x o true u) (sym h) d) g
  now_true (replaced ms) part o c ps s t u v h a d g = absurd h
  now_true (kept_groups es) part o Yes ps s t u v h a d g = inr (t, h, from_state ps t u v a.1 g)
  now_true (kept_groups es) part o Unknown ps s t u v h a d g = elif_true h d g
  now_true (ended es l ms k) part o c ps s t u v h a d g = absurd h
  now_true _ part o No ps s t u v h a d g = let e : true ≡ false = a.0 in cc

  true_alone : (left : KeptGroups L) (s t : S) → LeftTrue left s t → LeftOne left s t
  true_alone left s t h = grind (arith, absurd, true_group, true_before_else, else_group)

  none_alone : (left : KeptGroups L) (s t : S) → LeftNone left s t → LeftOne left s t
  none_alone left s t h = grind (arith, absurd, no_group)

  true_else : (left : KeptGroups L) (l : L) (ps : Nodes (Edited L)) (s t : S) → LeftTrue left s t → LeftOne (with_else left l ps) s t
  true_else left l ps s t h = grind (arith, absurd, true_before_else, true_alone)

  none_else : (left : KeptGroups L) (l : L) (ps : Nodes (Edited L)) (s t u : S) → LeftNone left s t → Processes out outputs ps t u → LeftOne (with_else left l ps) s u
  none_else left l ps s t u h g = grind (arith, from_state, absurd, else_group)

  -- Nodes and then others.
  then_processes : {ms ns : Nodes (Edited L)} {s t u : S} → Processes out outputs ms s t → Processes out outputs ns t u → Processes out outputs (then_nodes ms ns) s u
  then_processes g no_nodes = g
  then_processes g (takes_line h k) = takes_line (then_processes g h) k
  then_processes g (includes_file h k i j) = includes_file (then_processes g h) k i j
  then_processes g (selects_group h k) = selects_group (then_processes g h) k

  section_processes : (ps : Nodes (Edited L)) (left : KeptGroups L) (e : L) (s t u : S) → Processes out outputs ps s t → LeftOne left t u → Processes out outputs (then_kept ps left e) s u
  section_processes ps left e s t u h g = grind (arith, then_processes, selects_group)

  -- No group is processed.
  none_processed : {es : Elifs L} {s t : S} → ElifsRight p es → NoneTrue p es s t → LeftNone (kept_elifs_of es) s t
  none_processed r (first_false {o = o} {ns = ns} {s = s} {t = t} d) =
      grind (arith, first_false, absurd, elif_false)
  none_processed r (elif_false h d) =
      grind (arith, first_false, absurd, elif_false, none_processed r.0 h)

  none_same : {es : Elifs L} {s t : S} → NoneTrue p es s t → NoneTrue out (elifs_with_lines (edited Keep) es) s t
  none_same (first_false d) = first_false d
  none_same (elif_false h d) = elif_false (none_same h) d

  -- Nodes as they are processed: pruned, if each decision in them is right, and as they are.
  pub record Both (ns : Nodes L) (s t : S) : Type 0 where
    pub pruned : NodesRight p ns → Processes out outputs (folded ns) s t
    pub whole : Processes out outputs (with_lines (edited Keep) ns) s t

  record BothOne (gs : Groups L) (s t : S) : Type 0 where
    pub pruned : GroupsRight p gs → LeftOne (kept_groups_of gs) s t
    pub whole : ProcessesOne out outputs (groups_with_lines (edited Keep) gs) s t

  record BothTrue (es : Elifs L) (s t : S) : Type 0 where
    pub pruned : ElifsRight p es → LeftTrue (kept_elifs_of es) s t
    pub whole : ProcessesTrue out outputs (elifs_with_lines (edited Keep) es) s t

  by_output : {ns : Nodes L} {ms : Nodes (Edited L)} {s t : S} → HasOutput p ns ms → Both ns s t → Processes out outputs ms s t
  by_output h g = grind arith

  mutual
    both : {ns : Nodes L} {s t : S} → Processes p files ns s t → Both ns s t
    both no_nodes = record { pruned = λ r. no_nodes; whole = no_nodes }
    both (takes_line {ns = ns} {s = s} {t = t} g h) =
        let b : Both ns s t = both g in record { pruned = λ r. takes_line (b.pruned r) h; whole = takes_line b.whole h }
    both (includes_file {ns = ns} {f = f} {s = s} {t = t} {u = u} {v = v} g h i j) =
        let b : Both ns s t = both g in
        let c : Processes out outputs (outputs f) u v = by_output (output f) (both i) in
        record { pruned = λ r. includes_file (b.pruned r) h c j; whole = includes_file b.whole h c j }
    both (selects_group {ns = ns} {gs = gs} {e = e} {s = s} {t = t} {u = u} g h) =
        let b : Both ns s t = both g in
        let c : BothOne gs t u = both_one h in
        record { pruned = λ r. section_processes (folded ns) (kept_groups_of gs) e s t u (b.pruned r.0) (c.pruned r.1); whole = selects_group b.whole c.whole }

    both_one : {gs : Groups L} {s t : S} → ProcessesOne p files gs s t → BothOne gs s t
    both_one (no_group {es = es} {s = s} {t = t} h) = record { pruned = λ r. none_alone (kept_elifs_of es) s t (none_processed r h); whole = no_group (none_same h) }
    both_one (true_group {es = es} {s = s} {t = t} h) =
        let b = both_true h in record { pruned = λ r. true_alone (kept_elifs_of es) s t (b.pruned r); whole = true_group b.whole }
    both_one (true_before_else {es = es} {l = l} {ns = ns} {s = s} {t = t} h) =
        let b = both_true h in record { pruned = λ r. true_else (kept_elifs_of es) l (folded ns) s t (b.pruned r.0); whole = true_before_else b.whole }
    both_one (else_group {es = es} {l = l} {ns = ns} {s = s} {t = t} {u = u} h g) =
        let b : Both ns t u = both g in
        record { pruned = λ r. none_else (kept_elifs_of es) l (folded ns) s t u (none_processed r.0 h) (b.pruned (r.1 s t h)); whole = else_group (none_same h) b.whole }

    both_true : {es : Elifs L} {s t : S} → ProcessesTrue p files es s t → BothTrue es s t
    both_true (first_true {o = o} {ns = ns} {s = s} {t = t} {u = u} d g) =
        let b : Both ns t u = both g in
        record { pruned = λ r. now_true none_kept an_if o o.cond (folded ns) s s t u refl (r.0 s true t d) d (b.pruned (r.1 s t d)); whole = first_true d b.whole }
    both_true (true_before {es = es} {o = o} {ns = ns} {s = s} {t = t} h) =
        let b = both_true h in record { pruned = λ r. still_true (kept_elifs_of es) an_elif o o.cond (folded ns) s t (b.pruned r.0); whole = true_before b.whole }
    both_true (elif_true {es = es} {o = o} {ns = ns} {s = s} {t = t} {u = u} {v = v} h d g) =
        let b : Both ns u v = both g in record {
          pruned = λ r. now_true (kept_elifs_of es) an_elif o o.cond (folded ns) s t u v (none_processed r.0 h) ((r.1 s t h).0 t true u d) d (b.pruned ((r.1 s t h).1 t u d));
          whole = elif_true (none_same h) d b.whole;
        }

  -- The output of a file is processed as the file.
  pub processed : (f : F) (s t : S) → Processes p files (files f) s t → Processes out outputs (outputs f) s t
  processed f s t g = by_output (output f) (both g)
