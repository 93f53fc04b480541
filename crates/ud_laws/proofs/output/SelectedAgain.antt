-- Selected again: C selects of the output the lines that it selects of the input.
use Rattle.std.proofs.Common.{◌≡◌, ℕ, List, map, Bool, Option, None, sym, subst, arith, [], ◌∷◌, ◌++◌, ◌∙◌, ap, ap₂, rules}
use Rattle.ud_model.specs.text.Scans.{Reading}
use Rattle.ud_model.specs.sections.Tree.{Item, Nodes, Tree, closed, lines, Opener, Groups, Elifs, nothing, text, section, conditional, otherwise, first, elif, opener_with_line, with_lines, groups_with_lines, elifs_with_lines}
use Rattle.ud_model.specs.sections.Pruning.{marks, Part, first_kept_verdict}
use Rattle.ud_model.specs.sections.Items.{Options}
use Rattle.ud_model.specs.answer.Outcomes.{Outcome, HasOutcome, ran_as}
use Rattle.ud_model.specs.answer.Outcomes.ReadsAs.{stops, ends}
use Rattle.ud_model.specs.laws.Worlds.{World, selected, EachReached, Agrees, selected_elifs, openers, openers_of_groups, openers_of_elifs, GroupsReached, ElifsReached}
use Rattle.ud_model.specs.laws.Pruned.{Edited}
use Rattle.ud_model.proofs.output.Folded.{folded}
use Rattle.ud_model.specs.laws.Rereading.{IsTreeOf, CleanRun, KeepsTruths, line_bytes}
use Rattle.ud_model.specs.conditions.Expressions.{Expression}
use Rattle.ud_laws.specs.output.CSelection.{MayBe, IsCWorld}
use Rattle.ud_model.specs.laws.WrittenConditions.{condition_in}
use Rattle.ud_model.proofs.sections.Soundness.{sound_read, one_tree_of, sound_lines}
use Rattle.ud_model.proofs.output.SeenLines.{Seen, scanned, left_condition, left_seen}
use Rattle.ud_laws.proofs.output.ReachedPruned.{pruned_reached}
use Rattle.ud_model.proofs.output.Each.{Pairwise}
use Rattle.ud_laws.proofs.output.CSelected.{Clear, sound_clear, c_agrees}
use Rattle.ud_model.proofs.output.RereadLaws.{truths_folded, seen_alike, selected_again}
use Rattle.std.proofs.lemmas.List.{map-append}
use Rattle.ud_model.proofs.output.SameShape.{openers_apart, long_with, long_elifs, same_elifs}

-- Trees that differ in their lines alone: the same openers are reached if they have the same
-- truths.

module _ {L K M : Type 0} (f : L → M) (g : K → M) (v : World L) (w : World K) (R : M → Bool → Type 0) where
  abbrev One : Opener L → Type 0
  One o = R (f o.line) (v o.line)

  abbrev Other : Opener K → Type 0
  Other p = R (g p.line) (w p.line)

  as_other : {m n : M} {a b : Bool} → m ≡ n → a ≡ b → R n b → R m a
  as_other {m} {n} {a} e t h =
      subst (λ (k : M). R k a) (sym e) (subst (λ (c : Bool). R n c) (sym t) h)

  -- No group is processed of the one if none is of the other.
  none_alike : (es : Elifs L) (ds : Elifs K) → elifs_with_lines f es ≡ elifs_with_lines g ds → map v (openers_of_elifs es) ≡ map w (openers_of_elifs ds) →
      selected_elifs v es ≡ None → selected_elifs w ds ≡ None
  none_alike es ds e t h = search (rules, same_elifs)

  mutual
    -- A property of each opener that is reached in the one tree is one in the other.
    pub reached_alike : (ns : Nodes L) (ms : Nodes K) → with_lines f ns ≡ with_lines g ms → map v (openers ns) ≡ map w (openers ms) → EachReached w Other ms → EachReached v One ns
    reached_alike nothing ms e t h = tt
    reached_alike (text ns l) (text ms k) e t h = let p : with_lines f ns ≡ with_lines g ms = cc in reached_alike ns ms p t h
    reached_alike (section ns gs l) (section ms hs k) e t h =
        let p : with_lines f ns ≡ with_lines g ms = cc in
        let q : groups_with_lines f gs ≡ groups_with_lines g hs = cc in
        let r : (map v (openers ns) ≡ map w (openers ms)) × (map v (openers_of_groups gs) ≡ map w (openers_of_groups hs)) =
        openers_apart f g v w (openers ns) (openers_of_groups gs) (openers ms) (openers_of_groups hs) (long_with f g v w ns ms p) t in
        (reached_alike ns ms p r.0 h.0, groups_alike gs hs q r.1 h.1)
    reached_alike _ _ e t _ = cc

    groups_alike : (gs : Groups L) (hs : Groups K) → groups_with_lines f gs ≡ groups_with_lines g hs → map v (openers_of_groups gs) ≡ map w (openers_of_groups hs) →
        GroupsReached w Other hs → GroupsReached v One gs
    groups_alike (conditional es) (conditional ds) e t h = let p : elifs_with_lines f es ≡ elifs_with_lines g ds = cc in elifs_alike es ds p t h
    groups_alike (otherwise es l ns) (otherwise ds k ms) e t h =
        let p : elifs_with_lines f es ≡ elifs_with_lines g ds = cc in
        let q : with_lines f ns ≡ with_lines g ms = cc in
        let r : (map v (openers_of_elifs es) ≡ map w (openers_of_elifs ds)) × (map v (openers ns) ≡ map w (openers ms)) =
        openers_apart f g v w (openers_of_elifs es) (openers ns) (openers_of_elifs ds) (openers ms) (long_elifs f g v w es ds p) t in
        (elifs_alike es ds p r.0 h.0, λ n. reached_alike ns ms q r.1 (h.1 (none_alike es ds p r.0 n)))
    groups_alike _ _ e t _ = cc

    elifs_alike : (es : Elifs L) (ds : Elifs K) → elifs_with_lines f es ≡ elifs_with_lines g ds → map v (openers_of_elifs es) ≡ map w (openers_of_elifs ds) →
        ElifsReached w Other ds → ElifsReached v One es
    elifs_alike (first o ns) (first p ms) e t h = let q : with_lines f ns ≡ with_lines g ms = cc in
        let oe : opener_with_line f o ≡ opener_with_line g p = cc in
        let le : f o.line ≡ g p.line = ap (λ (x : Opener M). x.line) oe in
        let a : v o.line ≡ w p.line = cc in
        let r : map v (openers ns) ≡ map w (openers ms) = cc in
        (as_other le a h.0, λ n. reached_alike ns ms q r (h.1 (sym a ∙ n)))
    elifs_alike (elif es o ns) (elif ds p ms) e t h =
        let d : elifs_with_lines f es ≡ elifs_with_lines g ds = cc in
        let q : with_lines f ns ≡ with_lines g ms = cc in
        let oe : opener_with_line f o ≡ opener_with_line g p = cc in
        let le : f o.line ≡ g p.line = ap (λ (x : Opener M). x.line) oe in
        let prefix : map f (openers_of_elifs es ++ o.line ∷ []) ≡ map g (openers_of_elifs ds ++ p.line ∷ []) =
        map-append f (openers_of_elifs es) (o.line ∷ []) ∙ ap₂ (λ (a : List M) (b : M). a ++ b ∷ [])
        (long_elifs f g v w es ds d) le ∙ sym (map-append g (openers_of_elifs ds) (p.line ∷ [])) in
        let r : (map v (openers_of_elifs es ++ o.line ∷ []) ≡ map w (openers_of_elifs ds ++ p.line ∷ [])) × (map v (openers ns) ≡ map w (openers ms)) =
        openers_apart f g v w (openers_of_elifs es ++ o.line ∷ []) (openers ns) (openers_of_elifs ds ++ p.line ∷ []) (openers ms) prefix t in
        let s : (map v (openers_of_elifs es) ≡ map w (openers_of_elifs ds)) × (v o.line ∷ [] ≡ w p.line ∷ []) =
        openers_apart f g v w (openers_of_elifs es) (o.line ∷ []) (openers_of_elifs ds) (p.line ∷ []) (long_elifs f g v w es ds d) r.0 in
        let a : v o.line ≡ w p.line = cc (s.1) in (
          elifs_alike es ds d s.0 h.0,
          λ n.
              let x = h.1 (none_alike es ds d s.0 n) in
              (as_other le a x.0, λ y. reached_alike ns ms q r.1 (x.1 (sym a ∙ y))),
        )
    elifs_alike _ _ e t _ = cc

-- Each line of an input without a fault is clear.
pub clear_run : {o : Options} {input : List ℕ} {r : Outcome} → HasOutcome o input r → r.fault ≡ None → (ns : Nodes Reading) → IsTreeOf o input (closed ns) →
    Pairwise (Clear o) (lines (closed ns)) (marks (closed ns))
clear_run (ran_as (stops xs t f s)) e ns a = cc
clear_run {o = o} {input = input} (ran_as (ends xs t g)) e ns a =
    subst (λ (u : Tree Reading). Pairwise (Clear o) (lines u) (marks u)) (one_tree_of o input t (closed ns) (record { items = xs; read = sound_read g.sound; are = g.are }) a)
    (subst (λ (zs : List (Item Reading)). Pairwise (Clear o) zs (marks t)) (sym (sound_lines g.sound)) (sound_clear o xs t g.sound))

module _ (k : CleanRun) (w : World Reading) (a : Agrees w k.before) (R : Option Expression → Bool → Type 0) where
  -- A relation between the condition and the truth of each opener that is reached in the input holds
  -- in the output, if the truths are kept.
  pub reached_again : (v : World Reading) → KeepsTruths w k.before v k.after → EachReached w (λ o. R (condition_in o.line) (w o.line)) k.before →
      EachReached v (λ o. R (condition_in o.line) (v o.line)) k.after
  reached_again v t g =
      reached_alike scanned (left_seen k.options.settings.unpadded) v (λ (e : Edited Reading). w e.line) (λ (s : Seen) (b : Bool). R s.condition b) k.after (folded k.before)
      (seen_alike k) (truths_folded w k.before v k.after t)
      (pruned_reached w (λ (l : Reading). R (condition_in l) (w l)) (λ (e : Edited Reading). R (left_seen k.options.settings.unpadded e).condition (w e.line)) still k.before a g)
    where
      still : (part : Part) (l : Reading) → R (condition_in l) (w l) → R (left_condition (first_kept_verdict part) l) (w l)
      still part l h = grind arith

module _ (k : CleanRun) (w : World Reading) (g : IsCWorld k.options.table w k.before) where
  -- A world that C may give the input agrees with the decided conditions.
  pub c_world_agrees : Agrees w k.before
  c_world_agrees = c_agrees k.options w k.before (clear_run k.clean.runs k.clean.faultless k.before k.of_input) g

  -- C may give the output the world that keeps its truths.
  pub c_world_again : (v : World Reading) → KeepsTruths w k.before v k.after → IsCWorld k.options.table v k.after
  c_world_again v t = reached_again k w c_world_agrees (MayBe k.options.table) v t g

  -- Then C selects the same lines.
  pub c_selected_again : (v : World Reading) → KeepsTruths w k.before v k.after → map line_bytes (selected v k.after) ≡ map line_bytes (selected w k.before)
  c_selected_again v t = selected_again k w v c_world_agrees t
