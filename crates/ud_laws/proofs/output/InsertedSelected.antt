-- The selected lines of nodes with inserted lines are the same, with inserted ones.
use Rattle.std.proofs.Common.{◌≡◌, ℕ, suc, List, [], ◌∷◌, ◌++◌, length, map, Bool, Option, Some}
use Rattle.std.proofs.Common.{None, refl, ap, subst, append-nil, arith}
use Rattle.std.proofs.lemmas.List.{map-append, length-map}
use Rattle.ud_model.specs.text.Scans.{Reading}
use Rattle.ud_model.specs.sections.Tree.{Nodes, Groups, Elifs}
use Rattle.ud_model.specs.laws.Worlds.{World, selected, selected_groups, selected_elifs, or_else, lines_or, where_true, openers, openers_of_groups, openers_of_elifs}
use Rattle.ud_laws.specs.output.InsertedNodes.{NodesWithInserted, no_nodes, same_text, inserted_text, same_section, GroupsWithInserted, all_conditional, last_otherwise, ElifsWithInserted, same_first, same_elif, LinesWithInserted, no_lines, same_line, inserted_line}
use Rattle.ud_model.proofs.output.SameShape.{parts}
use Rattle.ud_laws.proofs.output.CSelected.{many_both}

-- The truths of as many openers as `xs`, part by part.
apart : (v w : World Reading) (xs bs cs ds : List Reading) → length xs ≡ length cs → map v (xs ++ bs) ≡ map w (cs ++ ds) →
    (map v xs ≡ map w cs) × (map v bs ≡ map w ds)
apart v w xs bs cs ds l e = grind (arith, parts, map-append, length-map)

module _ (IsPut : Reading → Type 0) where
  lines_both : {xs bs cs ds : List Reading} → LinesWithInserted IsPut xs bs → LinesWithInserted IsPut cs ds → LinesWithInserted IsPut (xs ++ cs) (bs ++ ds)
  lines_both no_lines k = k
  lines_both (same_line h w) k = same_line h (lines_both w k)
  lines_both (inserted_line h w) k = inserted_line h (lines_both w k)

  -- The lines, if they are there.
  data WovenIf : Option (List Reading) → Option (List Reading) → Type 0 where
    neither : WovenIf None None
    both : {rs ss : List Reading} → LinesWithInserted IsPut rs ss → WovenIf (Some rs) (Some ss)

  or_lines : {a b : Option (List Reading)} {rs ss : List Reading} → WovenIf a b → LinesWithInserted IsPut rs ss → LinesWithInserted IsPut (lines_or a rs) (lines_or b ss)
  or_lines h g = grind arith

  or_both : {a b c d : Option (List Reading)} → WovenIf a b → WovenIf c d → WovenIf (or_else a c) (or_else b d)
  or_both h g = grind arith

  if_true : (a b : Bool) (rs ss : List Reading) → b ≡ a → LinesWithInserted IsPut rs ss → WovenIf (where_true a rs) (where_true b ss)
  if_true a b rs ss h g = grind (arith, both, neither)

  mutual
    long_nodes : {ns ms : Nodes Reading} → NodesWithInserted IsPut ns ms → length (openers ms) ≡ length (openers ns)
    long_nodes no_nodes = refl
    long_nodes (same_text w k) = long_nodes w
    long_nodes (inserted_text w k) = long_nodes w
    long_nodes (same_section {ns = ns} {ms = ms} {gs = gs} {hs = hs} w g k) =
        many_both (openers ms) (openers_of_groups hs) (openers ns) (openers_of_groups gs) (long_nodes w) (long_groups g)

    long_groups : {gs hs : Groups Reading} → GroupsWithInserted IsPut gs hs → length (openers_of_groups hs) ≡ length (openers_of_groups gs)
    long_groups (all_conditional w) = long_elifs w
    long_groups (last_otherwise {es = es} {fs = fs} {ns = ns} {ms = ms} w k n) =
        many_both (openers_of_elifs fs) (openers ms) (openers_of_elifs es) (openers ns) (long_elifs w) (long_nodes n)

    long_elifs : {es fs : Elifs Reading} → ElifsWithInserted IsPut es fs → length (openers_of_elifs fs) ≡ length (openers_of_elifs es)
    long_elifs (same_first k w) = ap (λ (n : ℕ). suc n) (long_nodes w)
    long_elifs (same_elif {es = es} {fs = fs} {o = o} {p = p} {ns = ns} {ms = ms} e k w) =
        many_both (openers_of_elifs fs ++ p.line ∷ []) (openers ms) (openers_of_elifs es ++ o.line ∷ []) (openers ns)
        (many_both (openers_of_elifs fs) (p.line ∷ []) (openers_of_elifs es) (o.line ∷ []) (long_elifs e) refl) (long_nodes w)

  module _ (w v : World Reading) where
    mutual
      pub inserted_in_selected : {ns ms : Nodes Reading} → NodesWithInserted IsPut ns ms → map v (openers ms) ≡ map w (openers ns) → LinesWithInserted IsPut (selected w ns) (selected v ms)
      inserted_in_selected no_nodes e = no_lines
      inserted_in_selected (same_text n k) e = lines_both (inserted_in_selected n e) (same_line k no_lines)
      inserted_in_selected (inserted_text {ns = ns} {ms = ms} {d = d} n k) e =
          subst (λ (rs : List Reading). LinesWithInserted IsPut rs (selected v ms ++ d ∷ [])) (append-nil (selected w ns)) (lines_both (inserted_in_selected n e) (inserted_line k no_lines))
      inserted_in_selected (same_section {ns = ns} {ms = ms} {gs = gs} {hs = hs} n g k) e =
          let p = apart v w (openers ms) (openers_of_groups hs) (openers ns) (openers_of_groups gs) (long_nodes n) e in
          lines_both (inserted_in_selected n p.0) (groups_selected g p.1)

      groups_selected : {gs hs : Groups Reading} → GroupsWithInserted IsPut gs hs → map v (openers_of_groups hs) ≡ map w (openers_of_groups gs) →
          LinesWithInserted IsPut (selected_groups w gs) (selected_groups v hs)
      groups_selected (all_conditional e) t = or_lines (elifs_selected e t) no_lines
      groups_selected (last_otherwise {es = es} {fs = fs} {ns = ns} {ms = ms} e k n) t =
          let p = apart v w (openers_of_elifs fs) (openers ms) (openers_of_elifs es) (openers ns) (long_elifs e) t in
          or_lines (elifs_selected e p.0) (inserted_in_selected n p.1)

      elifs_selected : {es fs : Elifs Reading} → ElifsWithInserted IsPut es fs → map v (openers_of_elifs fs) ≡ map w (openers_of_elifs es) →
          WovenIf (selected_elifs w es) (selected_elifs v fs)
      elifs_selected (same_first {o = o} {p = p} {ns = ns} {ms = ms} k n) t =
          let a : v p.line ≡ w o.line = cc in
          let b : map v (openers ms) ≡ map w (openers ns) = cc in
          if_true (w o.line) (v p.line) (selected w ns) (selected v ms) a (inserted_in_selected n b)
      elifs_selected (same_elif {es = es} {fs = fs} {o = o} {p = p} {ns = ns} {ms = ms} e k n) t =
          let q = apart v w (openers_of_elifs fs ++ p.line ∷ []) (openers ms) (openers_of_elifs es ++ o.line ∷ []) (openers ns)
          (many_both (openers_of_elifs fs) (p.line ∷ []) (openers_of_elifs es) (o.line ∷ []) (long_elifs e) refl) t in
          let r = apart v w (openers_of_elifs fs) (p.line ∷ []) (openers_of_elifs es) (o.line ∷ []) (long_elifs e) q.0 in
          let l : v p.line ∷ [] ≡ w o.line ∷ [] = r.1 in
          let a : v p.line ≡ w o.line = cc in
          or_both (elifs_selected e r.0) (if_true (w o.line) (v p.line) (selected w ns) (selected v ms) a (inserted_in_selected n q.1))
