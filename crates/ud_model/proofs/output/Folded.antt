-- The pruned tree as a fold over the groups of each section, which is what most proofs go by. It is
-- the tree of the output (PrintedPruned).
use Rattle.std.proofs.Common.{Option, Some, None}
use Rattle.ud_model.specs.declared.cond.Cond.{Cond}
use Rattle.ud_model.specs.declared.cond.Cond.TheVariants.{Yes, No, Unknown}
use Rattle.ud_model.specs.declared.verdict.Verdict.TheVariants.{Keep, ToElse, ToEndif}
use Rattle.ud_model.specs.sections.Tree.{Opener, Nodes, Groups, Elifs, nothing, text, section, conditional, otherwise, first, elif}
use Rattle.ud_model.specs.sections.Pruning.{Part, an_if, an_elif, first_kept_verdict}
use Rattle.ud_model.specs.laws.Pruned.{Edited, edited, edited_opener, then_nodes}

-- The rest of a section's groups.
pub data KeptGroups (L : Type 0) : Type 0 where
  -- No group is kept.
  none_kept : KeptGroups L
  -- The first kept group is true: its nodes.
  replaced : Nodes (Edited L) → KeptGroups L
  -- The kept groups, of which none is true.
  kept_groups : Elifs (Edited L) → KeptGroups L
  -- The kept groups, of which the last one is true and comes under an `#else`; and the opener after
  -- it, if there is one.
  ended : Elifs (Edited L) → Edited L → Nodes (Edited L) → Option (Edited L) → KeptGroups L

module _ {L : Type 0} where
  -- `with_group kept part o c ns`: the rest `kept` of the groups with one more: its opener `o`, the
  -- opener's condition `c`, and its pruned nodes `ns`.
  abbrev pub with_group : KeptGroups L → Part → Opener L → Cond → Nodes (Edited L) → KeptGroups L
  with_group none_kept part o Yes ns = replaced ns
  with_group none_kept part o No ns = none_kept
  with_group none_kept part o Unknown ns = kept_groups (first (edited_opener (first_kept_verdict part) o) ns)
  with_group (replaced ms) part o c ns = replaced ms
  with_group (kept_groups es) part o Yes ns = ended es (edited ToElse o.line) ns None
  with_group (kept_groups es) part o No ns = kept_groups es
  with_group (kept_groups es) part o Unknown ns = kept_groups (elif es (edited_opener Keep o) ns)
  with_group (ended es l ms None) part o c ns = ended es l ms (Some (edited ToEndif o.line))
  with_group (ended es l ms (Some k)) part o c ns = ended es l ms (Some k)

  -- `with_else kept l ns`: the rest `kept` of the groups with the group of an `#else` on the line
  -- `l`.
  abbrev pub with_else : KeptGroups L → L → Nodes (Edited L) → KeptGroups L
  with_else none_kept l ns = replaced ns
  with_else (replaced ms) l ns = replaced ms
  with_else (kept_groups es) l ns = ended es (edited Keep l) ns None
  with_else (ended es k ms None) l ns = ended es k ms (Some (edited ToEndif l))
  with_else (ended es k ms (Some j)) l ns = ended es k ms (Some j)

  -- `then_kept ns kept e`: the nodes `ns`, and then the rest of a section with the `#endif` on the
  -- line `e`.
  abbrev pub then_kept : Nodes (Edited L) → KeptGroups L → L → Nodes (Edited L)
  then_kept ns none_kept e = ns
  then_kept ns (replaced ms) e = then_nodes ns ms
  then_kept ns (kept_groups es) e = section ns (conditional es) (edited Keep e)
  then_kept ns (ended es l ms None) e = section ns (otherwise es l ms) (edited Keep e)
  then_kept ns (ended es l ms (Some k)) e = section ns (otherwise es l ms) k

  abbrev mutual
    -- `folded ns`: the pruned nodes.
    pub folded : Nodes L → Nodes (Edited L)
    folded nothing = nothing
    folded (text ns l) = text (folded ns) (edited Keep l)
    folded (section ns gs e) = then_kept (folded ns) (kept_groups_of gs) e

    -- `kept_groups_of gs`: the rest of a section's groups.
    pub kept_groups_of : Groups L → KeptGroups L
    kept_groups_of (conditional es) = kept_elifs_of es
    kept_groups_of (otherwise es l ns) = with_else (kept_elifs_of es) l (folded ns)

    -- `kept_elifs_of es`: the rest of the groups with a condition.
    pub kept_elifs_of : Elifs L → KeptGroups L
    kept_elifs_of (first o ns) = with_group none_kept an_if o o.cond (folded ns)
    kept_elifs_of (elif es o ns) = with_group (kept_elifs_of es) an_elif o o.cond (folded ns)
