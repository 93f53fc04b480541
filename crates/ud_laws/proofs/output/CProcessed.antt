-- A preprocessor that decides as C may agrees with the decision on each opener that it reaches in a
-- text without a fault.
use Rattle.std.proofs.Common.{◌≡◌, ℕ, List, [], ◌∷◌, ◌++◌, Bool, true, false, not, Option, refl, ap, subst, arith, rules}
use Rattle.ud_model.specs.text.Scans.{Scan, Reading}
use Rattle.ud_model.specs.sections.Directives.{Content}
use Rattle.ud_model.specs.conditions.Expressions.{Expression}
use Rattle.ud_model.specs.declared.cond.Cond.{Cond}
use Rattle.ud_model.specs.declared.cond.Cond.TheVariants.{Yes}
use Rattle.ud_model.specs.declared.verdict.Verdict.{Verdict}
use Rattle.ud_model.specs.declared.verdict.Verdict.TheVariants.{Keep}
use Rattle.ud_model.specs.sections.Tree.{Opener, Nodes, Groups, Elifs, text_line, if_line, elif_line, else_line, endif_line, nothing, section, conditional, otherwise, first, elif, lines_of_nodes, lines_of_groups, lines_of_elifs}
use Rattle.ud_model.specs.sections.Tree as tree
use Rattle.ud_model.specs.sections.Pruning.{marked, any_true, is_kept, an_if, an_elif, an_else, conds_of_elifs, conds_of_groups, endif_verdict}
use Rattle.ud_model.specs.aids.SoFar.{verdict_so_far, nodes_so_far, groups_so_far, elifs_so_far}
use Rattle.ud_model.specs.sections.Items.{Options}
use Rattle.ud_laws.specs.output.CSelection.{MayBe}
use Rattle.ud_model.specs.laws.WrittenConditions.{condition_in, Condition, condition_with, condition_on}
use Rattle.ud_laws.specs.output.Processing.{Preprocessor, over_readings, DecidesAsC, NoneTrue}
use Rattle.ud_laws.specs.output.Processing.{first_false, elif_false}
use Rattle.ud_laws.proofs.conditions.SpacedTexts.{condition_spaced}
use Rattle.ud_model.proofs.output.Each.{Pairwise, pairwise_parts}
use Rattle.ud_laws.proofs.output.CConditions.{item_fits}
use Rattle.ud_model.proofs.output.Changed.{as_many_nodes, as_many_groups, as_many_elifs}
use Rattle.ud_laws.proofs.output.CSelected.{Clear, at_kept, elif_moves, elif_parts, many_both}
use Rattle.ud_laws.proofs.output.CSelected.{not_any}
use Rattle.ud_laws.proofs.output.ProcessedPruned.{IsRight, NodesRight, GroupsRight, ElifsRight}
use Rattle.ud_laws.proofs.output.ProcessedPruned.{AgreesAs}

-- Down the tree.

ends_with : (scan : Scan) (c : Content) → scan.joins_after ≡ false → (condition_with scan c).goes_on ≡ false
ends_with scan c h = grind arith

module _ {S : Type 0} where
  kept_by : (cs : List Cond) (c : Cond) (s t : S) → any_true cs ≡ false → AgreesAs c true s t → is_kept cs c ≡ true
  kept_by cs c s t h g = grind arith

  not_yes : (c : Cond) (s t : S) → AgreesAs c false s t → c ≡ Yes → ⊥
  not_yes c s t h g = grind arith

module _ (o : Options) {S F : Type 0} (takes : S → List ℕ → Scan → S → Type 0) (enters : S → List ℕ → Scan → F → S → Type 0)
    (leaves : S → S → Type 0) (decides : S → Condition → Bool → S → Type 0)
    (as_c : DecidesAsC o.table decides) where
  abbrev p : Preprocessor S F Reading
  p = over_readings takes enters leaves decides

  may_be : (r : Reading) (s t : S) (b : Bool) → decides s (condition_on r) b t → MayBe o.table (condition_in r) b
  may_be r s t b d = subst (λ (x : Option Expression). MayBe o.table x b) (grind (arith, condition_spaced)) (as_c s (condition_on r) b t d).0

  -- The case of an `#if` that is reached.
  if_right : (q : Opener Reading) → Clear o (if_line q) (marked true (verdict_so_far [] an_if q.cond)) → IsRight p q
  if_right q k s b t d = search (rules, item_fits, may_be, ends_with)

  -- The case of an `#elif` that is reached.
  elif_right : (cs : List Cond) (q : Opener Reading) → Clear o (elif_line q) (marked true (verdict_so_far cs an_elif q.cond)) → IsRight p q
  elif_right cs q k s b t d = search (rules, elif_moves, item_fits, may_be, ends_with)

  first_is_false : {q : Opener Reading} {ns : Nodes Reading} {s t : S} → NoneTrue p (first q ns) s t → decides s (condition_on q.line) false t
  first_is_false (first_false d) = d

  elif_is_false : {es : Elifs Reading} {q : Opener Reading} {ns : Nodes Reading} {s u : S} → NoneTrue p (elif es q ns) s u →
      (t : S) × NoneTrue p es s t × decides t (condition_on q.line) false u
  elif_is_false (elif_false {t = t} h d) = (t, h, d)

  mutual
    -- Each decision that is reached in these nodes is right.
    pub nodes_right : (ns : Nodes Reading) → Pairwise (Clear o) (lines_of_nodes ns) (nodes_so_far true ns) → NodesRight p ns
    nodes_right nothing k = tt
    nodes_right (tree.text ns l) k =
        nodes_right ns (pairwise_parts (Clear o) (lines_of_nodes ns) (nodes_so_far true ns) (text_line l ∷ []) (marked true Keep ∷ []) (as_many_nodes true ns) k).0
    nodes_right (section ns gs e) k =
        let h : Pairwise (Clear o) (lines_of_nodes ns ++ lines_of_groups gs) (nodes_so_far true ns ++ groups_so_far true gs) =
        (pairwise_parts (Clear o) (lines_of_nodes ns ++ lines_of_groups gs) (nodes_so_far true ns ++ groups_so_far true gs) (endif_line e ∷ [])
        (marked true (endif_verdict (conds_of_groups gs)) ∷ [])
        (many_both (lines_of_nodes ns) (lines_of_groups gs) (nodes_so_far true ns) (groups_so_far true gs)
        (as_many_nodes true ns) (as_many_groups true gs)) k).0 in
        let q : Pairwise (Clear o) (lines_of_nodes ns) (nodes_so_far true ns) × Pairwise (Clear o) (lines_of_groups gs) (groups_so_far true gs) =
        pairwise_parts (Clear o) (lines_of_nodes ns) (nodes_so_far true ns) (lines_of_groups gs) (groups_so_far true gs) (as_many_nodes true ns) h in
        (nodes_right ns q.0, groups_right gs q.1)

    groups_right : (gs : Groups Reading) → Pairwise (Clear o) (lines_of_groups gs) (groups_so_far true gs) → GroupsRight p gs
    groups_right (conditional es) k = (elifs_right es k).0
    groups_right (otherwise es l ns) k =
        let v : Verdict = verdict_so_far (conds_of_elifs es) an_else Yes in
        let h : Pairwise (Clear o) (lines_of_elifs es ++ else_line l ∷ []) (elifs_so_far true es ++ marked true v ∷ [])
        × Pairwise (Clear o) (lines_of_nodes ns) (nodes_so_far (is_kept (conds_of_elifs es) Yes) ns) =
        pairwise_parts (Clear o) (lines_of_elifs es ++ else_line l ∷ []) (elifs_so_far true es ++ marked true v ∷ []) (lines_of_nodes ns)
        (nodes_so_far (is_kept (conds_of_elifs es) Yes) ns) (many_both (lines_of_elifs es) (else_line l ∷ []) (elifs_so_far true es) (marked true v ∷ []) (as_many_elifs true es) refl) k in
        let q : Pairwise (Clear o) (lines_of_elifs es) (elifs_so_far true es) × Pairwise (Clear o) (else_line l ∷ []) (marked true v ∷ []) =
        pairwise_parts (Clear o) (lines_of_elifs es) (elifs_so_far true es) (else_line l ∷ []) (marked true v ∷ []) (as_many_elifs true es) h.0 in
        let r : ElifsRight p es × ((s t : S) → NoneTrue p es s t → any_true (conds_of_elifs es) ≡ false) = elifs_right es q.0 in
        (r.0, λ s t g. nodes_right ns (at_kept o (is_kept (conds_of_elifs es) Yes) ns (ap not (r.1 s t g)) h.1))

    -- If none of the groups is processed, none is decided to be true.
    elifs_right : (es : Elifs Reading) → Pairwise (Clear o) (lines_of_elifs es) (elifs_so_far true es) →
        ElifsRight p es × ((s t : S) → NoneTrue p es s t → any_true (conds_of_elifs es) ≡ false)
    elifs_right (first q ns) k =
        let a : IsRight p q = if_right q k.0 in (
          (a, λ s t d. nodes_right ns (at_kept o (is_kept [] q.cond) ns (kept_by [] q.cond s t refl (a s true t d)) k.1)),
          λ s t h. not_any [] q.cond refl (not_yes q.cond s t (a s false t (first_is_false h))),
        )
    elifs_right (elif es q ns) k =
        let parts = elif_parts o es q ns k in
        let r : ElifsRight p es × ((s t : S) → NoneTrue p es s t → any_true (conds_of_elifs es) ≡ false) = elifs_right es parts.0 in
        let a : IsRight p q = elif_right (conds_of_elifs es) q parts.1 in (
          (r.0, λ s t g. (a, λ u v d. nodes_right ns (at_kept o (is_kept (conds_of_elifs es) q.cond) ns (kept_by (conds_of_elifs es) q.cond u v (r.1 s t g) (a u true v d)) parts.2))),
          λ s u g. let f : (t : S) × NoneTrue p es s t × decides t (condition_on q.line) false u = elif_is_false g in
              not_any (conds_of_elifs es) q.cond (r.1 s f.0 f.1) (not_yes q.cond f.0 u (a f.0 false u f.2)),
        )
