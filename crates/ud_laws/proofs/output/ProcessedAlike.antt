-- Nodes are processed as others of the same shape if each line does what the other one does.
--
-- So the output of a file is processed as the nodes that are left of the file: its text lines have
-- the same bytes and the same scan, and its openers have the same conditions.
use Rattle.std.proofs.Common.{◌≡◌, ℕ, List, Bool, true, false, Some, sym, ap, subst, arith}
use Rattle.ud_model.specs.text.Scans.{Scan, Reading}
use Rattle.ud_model.specs.declared.verdict.Verdict.{Verdict}
use Rattle.ud_model.specs.declared.verdict.Verdict.TheVariants.{Keep}
use Rattle.ud_model.specs.sections.Tree.{Opener, Nodes, Groups, Elifs, nothing, text, section, conditional, otherwise, first, elif, opener_with_line, with_lines, groups_with_lines, elifs_with_lines}
use Rattle.ud_model.specs.laws.Pruned.{Edited, edited, EachLine, GroupLines, ElifLines}
use Rattle.ud_model.specs.laws.WrittenConditions.{Condition}
use Rattle.ud_laws.specs.output.Processing.{Preprocessor, over_readings, Processes, no_nodes}
use Rattle.ud_laws.specs.output.Processing.{takes_line, includes_file, selects_group, ProcessesOne}
use Rattle.ud_laws.specs.output.Processing.{no_group, true_group, true_before_else, else_group}
use Rattle.ud_laws.specs.output.Processing.{ProcessesTrue, first_true, true_before, elif_true}
use Rattle.ud_laws.specs.output.Processing.{NoneTrue, first_false, elif_false}
use Rattle.ud_laws.proofs.output.NodesAlike.{NodesAlike, nothing_alike, text_alike, section_alike, GroupsAlike, conditional_alike, otherwise_alike, ElifsAlike, first_alike, elif_alike}
use Rattle.ud_model.proofs.output.Folded.{folded}
use Rattle.ud_model.proofs.output.Undecided.{KeepsCondition, first_keeps}
use Rattle.ud_model.proofs.output.EachLines.{AnyOpener, other_lines}
use Rattle.ud_model.proofs.output.PrunedLines.{pruned_each}
use Rattle.ud_model.proofs.output.SeenLines.{Seen, scanned, left_seen, left_text, text_scan}
use Rattle.ud_laws.proofs.output.ProcessedPruned.{of_origin}

-- 1. The lines of pruned nodes, and of nodes that are left as they are.

-- A line that is read as text.
abbrev pub IsText : Reading → Type 0
IsText r = text_scan r ≡ Some r.scan

-- A text line that stays.
abbrev IsKeptText : Verdict → Reading → Type 0
IsKeptText Keep l = IsText l
IsKeptText _ l = ⊥

abbrev TextStays : Edited Reading → Type 0
TextStays e = IsKeptText e.verdict e.line

-- An opener that has its condition.
abbrev OpenerStays : Opener (Edited Reading) → Type 0
OpenerStays o = KeepsCondition o.line.verdict

abbrev pub LinesText : Nodes Reading → Type 0
LinesText ns = EachLine IsText AnyOpener ns

abbrev Stay : Nodes (Edited Reading) → Type 0
Stay ms = EachLine TextStays OpenerStays ms

-- The lines of pruned nodes stay so.
pub pruned_stay : (ns : Nodes Reading) → LinesText ns → Stay (folded ns)
pruned_stay ns h = pruned_each IsText AnyOpener TextStays OpenerStays (λ l t. t) (λ part o u h. first_keeps part) ns h

-- So do those of nodes that are left as they are.
pub whole_stay : (ns : Nodes Reading) → LinesText ns → Stay (with_lines (edited Keep) ns)
whole_stay ns h = subst (λ (X : Type 0). X) (sym (other_lines (edited Keep) TextStays OpenerStays ns)) h

-- 2. Nodes of the same shape.

module _ {S F L M : Type 0} (p : Preprocessor S F L) (q : Preprocessor S F M) where
  -- `q` may do at the text line `m` what `p` may do at `l`.
  pub record TextAlike (l : L) (m : M) : Type 0 where
    pub takes : (s t : S) → p.takes s l t → q.takes s m t
    pub enters : (s : S) (f : F) (t : S) → p.enters s l f t → q.enters s m f t

  -- `q` may decide of the opener `k` what `p` may decide of `o`.
  abbrev pub OpenerAlike : Opener L → Opener M → Type 0
  OpenerAlike o k = (s : S) (b : Bool) (t : S) → p.decides s o b t → q.decides s k b t

  -- `q` may do at the nodes `us` what `p` may do at `ns`.
  abbrev pub IsDoneAlike : Nodes L → Nodes M → Type 0
  IsDoneAlike ns us = NodesAlike TextAlike OpenerAlike ns us

  abbrev pub GroupsDone : Groups L → Groups M → Type 0
  GroupsDone gs hs = GroupsAlike TextAlike OpenerAlike gs hs

  abbrev pub ElifsDone : Elifs L → Elifs M → Type 0
  ElifsDone es fs = ElifsAlike TextAlike OpenerAlike es fs

  module _ (leaves : (s t : S) → p.leaves s t → q.leaves s t) (files : F → Nodes L) (outputs : F → Nodes M) (alike : (f : F) → IsDoneAlike (files f) (outputs f)) where
    none_alike : {es : Elifs L} {fs : Elifs M} {s t : S} → NoneTrue p es s t → ElifsDone es fs → NoneTrue q fs s t
    none_alike (first_false {s = s} {t = t} d) (first_alike a b) = first_false (a s false t d)
    none_alike (elif_false {t = t} {u = u} h d) (elif_alike c a b) = elif_false (none_alike h c) (a t false u d)

    mutual
      -- Nodes that are alike are processed alike.
      pub processed_alike : {ns : Nodes L} {us : Nodes M} {s t : S} → Processes p files ns s t → IsDoneAlike ns us → Processes q outputs us s t
      processed_alike no_nodes nothing_alike = no_nodes
      processed_alike (takes_line {t = t} {u = u} g h) (text_alike a b) = takes_line (processed_alike g a) (b.takes t u h)
      processed_alike (includes_file {f = f} {t = t} {u = u} {v = v} {x = x} g h i j) (text_alike a b) =
          includes_file (processed_alike g a) (b.enters t f u h) (processed_alike i (alike f)) (leaves v x j)
      processed_alike (selects_group g h) (section_alike a b) = selects_group (processed_alike g a) (one_alike h b)

      one_alike : {gs : Groups L} {hs : Groups M} {s t : S} → ProcessesOne p files gs s t → GroupsDone gs hs → ProcessesOne q outputs hs s t
      one_alike (no_group h) (conditional_alike a) = no_group (none_alike h a)
      one_alike (true_group h) (conditional_alike a) = true_group (true_alike h a)
      one_alike (true_before_else h) (otherwise_alike a b) = true_before_else (true_alike h a)
      one_alike (else_group h g) (otherwise_alike a b) = else_group (none_alike h a) (processed_alike g b)

      true_alike : {es : Elifs L} {fs : Elifs M} {s t : S} → ProcessesTrue p files es s t → ElifsDone es fs → ProcessesTrue q outputs fs s t
      true_alike (first_true {s = s} {t = t} d g) (first_alike a b) = first_true (a s true t d) (processed_alike g b)
      true_alike (true_before h) (elif_alike c a b) = true_before (true_alike h c)
      true_alike (elif_true {t = t} {u = u} h d g) (elif_alike c a b) = elif_true (none_alike h c) (a t true u d) (processed_alike g b)

-- 3. Lines that were read alike.

module _ (u : Bool) {S F : Type 0} (takes : S → List ℕ → Scan → S → Type 0) (enters : S → List ℕ → Scan → F → S → Type 0) (leaves : S → S → Type 0) (decides : S → Condition → Bool → S → Type 0) where
  abbrev p : Preprocessor S F Reading
  p = over_readings takes enters leaves decides

  abbrev out : Preprocessor S F (Edited Reading)
  out = of_origin p

  text_stays : (v : Verdict) (r : Reading) → v ≡ Keep → left_text v r ≡ text_scan r
  text_stays v r e = ap (λ (w : Verdict). left_text w r) e

  text_is : (v : Verdict) (l : Reading) → IsKeptText v l → (v ≡ Keep) × IsText l
  text_is v l h = grind arith

  opener_by : (o : Opener (Edited Reading)) (k : Opener Reading) → left_seen u o.line ≡ scanned k.line → KeepsCondition o.line.verdict → OpenerAlike out p o k
  opener_by o k q h = λ s b t d. subst (λ (c : Condition). decides s c b t) (grind (arith, q)) d

  abbrev Alike : Nodes (Edited Reading) → Nodes Reading → Type 0
  Alike ms us = IsDoneAlike out p ms us

  mutual
    -- Nodes whose lines have the parts of others are so, if those lines stay.
    pub nodes_alike : (ms : Nodes (Edited Reading)) (us : Nodes Reading) → with_lines (left_seen u) ms ≡ with_lines scanned us → Stay ms → Alike ms us
    nodes_alike nothing nothing q h = nothing_alike
    nodes_alike (text ms e) (text us l) q h =
        let a : with_lines (left_seen u) ms ≡ with_lines scanned us = cc in
        let b : left_seen u e ≡ scanned l = cc in
        text_alike (nodes_alike ms us a h.0) (grind (arith, text_is, text_stays))
    nodes_alike (section ms gs e) (section us hs l) q h =
        let a : with_lines (left_seen u) ms ≡ with_lines scanned us = cc in
        let b : groups_with_lines (left_seen u) gs ≡ groups_with_lines scanned hs = cc in
        section_alike (nodes_alike ms us a h.0) (groups_alike gs hs b h.1)
    nodes_alike _ _ q h = cc

    groups_alike : (gs : Groups (Edited Reading)) (hs : Groups Reading) →
        groups_with_lines (left_seen u) gs ≡ groups_with_lines scanned hs → GroupLines TextStays OpenerStays gs → GroupsDone out p gs hs
    groups_alike (conditional es) (conditional fs) q h =
        let a : elifs_with_lines (left_seen u) es ≡ elifs_with_lines scanned fs = cc in conditional_alike (elifs_alike es fs a h)
    groups_alike (otherwise es e ms) (otherwise fs l us) q h =
        let a : elifs_with_lines (left_seen u) es ≡ elifs_with_lines scanned fs = cc in
        let b : with_lines (left_seen u) ms ≡ with_lines scanned us = cc in
        otherwise_alike (elifs_alike es fs a h.0) (nodes_alike ms us b h.1)
    groups_alike _ _ q h = cc

    elifs_alike : (es : Elifs (Edited Reading)) (fs : Elifs Reading) → elifs_with_lines (left_seen u) es ≡ elifs_with_lines scanned fs → ElifLines TextStays OpenerStays es → ElifsDone out p es fs
    elifs_alike (first o ms) (first k us) q h =
        let a : with_lines (left_seen u) ms ≡ with_lines scanned us = cc in
        let c : opener_with_line (left_seen u) o ≡ opener_with_line scanned k = cc in
        let b : left_seen u o.line ≡ scanned k.line = ap (λ (x : Opener Seen). x.line) c in
        first_alike (opener_by o k b h.0) (nodes_alike ms us a h.1)
    elifs_alike (elif es o ms) (elif fs k us) q h =
        let a : with_lines (left_seen u) ms ≡ with_lines scanned us = cc in
        let c : opener_with_line (left_seen u) o ≡ opener_with_line scanned k = cc in
        let b : left_seen u o.line ≡ scanned k.line = ap (λ (x : Opener Seen). x.line) c in
        let d : elifs_with_lines (left_seen u) es ≡ elifs_with_lines scanned fs = cc in
        elif_alike (elifs_alike es fs d h.0) (opener_by o k b h.1) (nodes_alike ms us a h.2)
    elifs_alike _ _ q h = cc
