-- A property of each line that pruning keeps is one of each line of the pruned nodes.
use Rattle.std.proofs.Common.{◌≡◌, refl, arith}
use Rattle.ud_model.specs.declared.cond.Cond.{Cond}
use Rattle.ud_model.specs.declared.cond.Cond.TheVariants.{Unknown}
use Rattle.ud_model.specs.declared.verdict.Verdict.TheVariants.{Keep}
use Rattle.ud_model.specs.sections.Tree.{Opener, Nodes, Groups, Elifs, nothing, text, section, conditional, otherwise, first, elif}
use Rattle.ud_model.specs.sections.Pruning.{Part, an_if, an_elif, first_kept_verdict}
use Rattle.ud_model.specs.laws.Pruned.{Edited, edited, edited_opener, then_nodes, EachLine, GroupLines, ElifLines, IsUnknown}
use Rattle.ud_model.proofs.output.Folded.{KeptGroups, none_kept, replaced, kept_groups, ended, with_group, with_else, then_kept, folded, kept_groups_of, kept_elifs_of}

module _ {L : Type 0} (T : L → Type 0) (P : Opener L → Type 0) (U : Edited L → Type 0) (Q : Opener (Edited L) → Type 0) (texts : (l : L) → T l → U (edited Keep l))
    (openers : (part : Part) (o : Opener L) → IsUnknown o → P o → Q (edited_opener (first_kept_verdict part) o)) where
  abbrev LeftLines : KeptGroups L → Type 0
  LeftLines none_kept = Unit {0}
  LeftLines (replaced ms) = EachLine U Q ms
  LeftLines (kept_groups es) = ElifLines U Q es
  LeftLines (ended es l ms k) = ElifLines U Q es × EachLine U Q ms

  group_lines : (left : KeptGroups L) (part : Part) (o : Opener L) (c : Cond) (ps : Nodes (Edited L)) → o.cond ≡ c → P o →
      LeftLines left → EachLine U Q ps → LeftLines (with_group left part o c ps)
  group_lines none_kept part o Unknown ps e p h n = (openers part o e p, n)
  group_lines (kept_groups es) part o Unknown ps e p h n = (h, openers an_if o e p, n)
  group_lines left part o c ps e p h n = grind arith

  else_lines : (left : KeptGroups L) (l : L) (ps : Nodes (Edited L)) → LeftLines left → EachLine U Q ps → LeftLines (with_else left l ps)
  else_lines left l ps h n = grind arith

  then_lines : (ms ns : Nodes (Edited L)) → EachLine U Q ms → EachLine U Q ns → EachLine U Q (then_nodes ms ns)
  then_lines ms nothing a b = a
  then_lines ms (text ns l) a b = (then_lines ms ns a b.0, b.1)
  then_lines ms (section ns gs e) a b = (then_lines ms ns a b.0, b.1)

  left_lines : (ps : Nodes (Edited L)) (left : KeptGroups L) (e : L) → EachLine U Q ps → LeftLines left → EachLine U Q (then_kept ps left e)
  left_lines ps left e a h = grind (arith, then_lines)

  mutual
    pub pruned_each : (ns : Nodes L) → EachLine T P ns → EachLine U Q (folded ns)
    pruned_each nothing h = tt
    pruned_each (text ns l) h = (pruned_each ns h.0, texts l h.1)
    pruned_each (section ns gs e) h = left_lines (folded ns) (kept_groups_of gs) e (pruned_each ns h.0) (groups_each gs h.1)

    groups_each : (gs : Groups L) → GroupLines T P gs → LeftLines (kept_groups_of gs)
    groups_each (conditional es) h = elifs_each es h
    groups_each (otherwise es l ns) h = else_lines (kept_elifs_of es) l (folded ns) (elifs_each es h.0) (pruned_each ns h.1)

    elifs_each : (es : Elifs L) → ElifLines T P es → LeftLines (kept_elifs_of es)
    elifs_each (first o ns) h = group_lines none_kept an_if o o.cond (folded ns) refl h.0 tt (pruned_each ns h.1)
    elifs_each (elif es o ns) h = group_lines (kept_elifs_of es) an_elif o o.cond (folded ns) refl h.1 (elifs_each es h.0) (pruned_each ns h.2)
