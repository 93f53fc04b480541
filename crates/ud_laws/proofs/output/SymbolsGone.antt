-- Two tables give C the same choices for the conditions of nodes if they differ at a name alone that
-- no condition has.
use Rattle.std.proofs.Common.{◌≡◌, ◌↔◌, ℕ, List, [], ◌∷◌, ◌++◌, Bool, Some, Option, sym, ◌∙◌, subst}
use Rattle.std.proofs.Common.{arith, rules}
use Rattle.std.proofs.lemmas.List.Elements.{Contains-append_left, Contains-append_right}
use Rattle.std.specs.List.{Contains, flat_map}
use Rattle.ud_model.specs.text.Scans.{Reading}
use Rattle.ud_model.specs.conditions.Table.{Argument}
use Rattle.ud_model.specs.conditions.Expressions.{Expression, named}
use Rattle.ud_model.specs.conditions.Names.{names_in, names_in_tree}
use Rattle.ud_model.specs.conditions.Values.{name_value, name_has_u, defined_value, has_unsigned}
use Rattle.ud_model.specs.laws.CValues.{Number, typed, CValue, of_constant, of_known_name, of_least_name, of_open_name, of_known_defined, of_open_defined, of_unary, of_binary, of_and_left, of_and_both, of_or_left, of_or_both, of_parens}
use Rattle.ud_model.specs.sections.Tree.{Nodes, Groups, Elifs, nothing, text, section, conditional, otherwise, first, elif}
use Rattle.ud_model.specs.laws.Worlds.{World, openers, openers_of_groups, openers_of_elifs, EachReached, GroupsReached, ElifsReached}
use Rattle.ud_laws.specs.output.CSelection.{MayBe, IsCWorld}
use Rattle.ud_model.specs.laws.WrittenConditions.{condition_in}
use Rattle.ud_laws.specs.output.GoneSymbols.{names_in_conditions}
use Rattle.ud_laws.specs.output.ListedNames.{IsNoValue, DifferAtMostAt}
use Rattle.ud_laws.proofs.conditions.NamedAlike.{Alike, name_value_alike, name_has_u_alike, defined_value_alike, has_unsigned_alike}
use Rattle.ud_model.proofs.output.Each.{Each, each_parts}
use Rattle.ud_laws.proofs.output.ListComplete.{led_to}

-- The tables have the same values for a name.
record Same (t u : List Argument) (n : List ℕ) : Type 0 where
  value : (b : Bool) → name_value t b n ≡ name_value u b n
  has_u : name_has_u t n ≡ name_has_u u n
  is_set : defined_value t n ≡ defined_value u n

same_back : (t u : List Argument) (n : List ℕ) → Same t u n → Same u t n
same_back t u n h = record { value = λ b. sym (h.value b); has_u = sym h.has_u; is_set = sym h.is_set }

abbrev May : List Argument → World Reading → Reading → Type 0
May t w r = MayBe t (condition_in r) (w r)

module _ (t u : List Argument) where
  -- A value that C may give an expression by the one table is one by the other.
  value_over : (b : Bool) {e : Expression} {c : Number} → Each (Same t u) (names_in e) → CValue t b e c → CValue u b e c
  value_over b h (of_constant k) = of_constant k
  value_over b h (of_known_name {n = n} {arguments = a} {z = z} k) =
      subst (λ (x : Bool). CValue u b (named n a) (typed x z)) (sym h.0.has_u) (of_known_name (sym (h.0.value b) ∙ k))
  value_over b h (of_least_name {n = n} {arguments = a} {k = z} k l r) =
      subst (λ (x : Bool). CValue u b (named n a) (typed x z)) (sym h.0.has_u) (of_least_name (sym (h.0.value b) ∙ k) l r)
  value_over b h (of_open_name k r) = of_open_name (sym (h.0.value b) ∙ k) r
  value_over b h (of_known_defined k) = of_known_defined (sym h.0.is_set ∙ k)
  value_over b h (of_open_defined k r) = of_open_defined (sym h.0.is_set ∙ k) r
  value_over b h (of_unary k g) = of_unary (value_over b h k) g
  value_over b h (of_binary {a = x} {b = y} k l g) = let p = each_parts (Same t u) (names_in x) (names_in y) h in of_binary (value_over b p.0 k) (value_over b p.1 l) g
  value_over b h (of_and_left {a = x} {b = y} k z) = let p = each_parts (Same t u) (names_in x) (names_in y) h in of_and_left (value_over b p.0 k) z
  value_over b h (of_and_both {a = x} {b = y} k z l g) = let p = each_parts (Same t u) (names_in x) (names_in y) h in of_and_both (value_over b p.0 k) z (value_over b p.1 l) g
  value_over b h (of_or_left {a = x} {b = y} k z) = let p = each_parts (Same t u) (names_in x) (names_in y) h in of_or_left (value_over b p.0 k) z
  value_over b h (of_or_both {a = x} {b = y} k z l g) = let p = each_parts (Same t u) (names_in x) (names_in y) h in of_or_both (value_over b p.0 k) z (value_over b p.1 l) g
  value_over b h (of_parens k) = of_parens (value_over b h k)

  -- A truth that C may give a condition by the one table is one by the other.
  may_be_over : (o : Option Expression) (b : Bool) → ((e : Expression) → o ≡ Some e → has_unsigned t e ≡ has_unsigned u e) → Each (Same t u) (names_in_tree o) → MayBe t o b → MayBe u o b
  may_be_over o b s h m = grind (arith, value_over)

module _ {L : Type 0} (w : World L) (R S : L → Type 0) where
  abbrev pub Over : L → Type 0
  Over l = R l → S l

  mutual
    -- A property of each opener that is reached leads to another one.
    pub reached_over : (ns : Nodes L) → Each Over (openers ns) → EachReached w (λ o. R o.line) ns → EachReached w (λ o. S o.line) ns
    reached_over nothing h k = tt
    reached_over (text ns l) h k = reached_over ns h k
    reached_over (section ns gs e) h k = let p = each_parts Over (openers ns) (openers_of_groups gs) h in (reached_over ns p.0 k.0, groups_over gs p.1 k.1)

    groups_over : (gs : Groups L) → Each Over (openers_of_groups gs) → GroupsReached w (λ o. R o.line) gs → GroupsReached w (λ o. S o.line) gs
    groups_over (conditional es) h k = elifs_over es h k
    groups_over (otherwise es l ns) h k = let p = each_parts Over (openers_of_elifs es) (openers ns) h in (elifs_over es p.0 k.0, λ none. reached_over ns p.1 (k.1 none))

    elifs_over : (es : Elifs L) → Each Over (openers_of_elifs es) → ElifsReached w (λ o. R o.line) es → ElifsReached w (λ o. S o.line) es
    elifs_over (first o ns) h k = (h.0 k.0, λ is. reached_over ns h.1 (k.1 is))
    elifs_over (elif es o ns) h k =
        let p = each_parts Over (openers_of_elifs es ++ o.line ∷ []) (openers ns) h in
        let q = each_parts Over (openers_of_elifs es) (o.line ∷ []) p.0 in
        (elifs_over es q.0 k.0, λ none. let r = k.1 none in (q.1.0 r.0, λ is. reached_over ns p.1 (r.1 is)))

module _ (t u : List Argument) (name : List ℕ) (none : IsNoValue t name) (same : DifferAtMostAt name t u) where
  all_alike : (names : List (List ℕ)) → (Contains names name → ⊥) → Each (Alike t u) names
  all_alike [] out = tt
  all_alike (n ∷ names) out =
      (grind (arith, led_to), all_alike names (λ there. out (Contains-append_right (n ∷ []) names name there)))

  as_same : (n : List ℕ) → Alike t u n → Same t u n
  as_same n h = record { value = λ b. name_value_alike t u b n h; has_u = name_has_u_alike t u n h; is_set = defined_value_alike t u n h }

  each_same : (names : List (List ℕ)) → Each (Alike t u) names → Each (Same t u) names
  each_same [] h = tt
  each_same (n ∷ names) h = (as_same n h.0, each_same names h.1)

  each_back : (names : List (List ℕ)) → Each (Same t u) names → Each (Same u t) names
  each_back [] h = tt
  each_back (n ∷ names) h = (same_back t u n h.0, each_back names h.1)

  -- A condition without the name.
  signs_alike : (o : Option Expression) → Each (Alike t u) (names_in_tree o) → (e : Expression) → o ≡ Some e → has_unsigned t e ≡ has_unsigned u e
  signs_alike o h e is = search (rules, has_unsigned_alike)

  over : (w : World Reading) (r : Reading) → Each (Alike t u) (names_in_tree (condition_in r)) → May t w r → May u w r
  over w r h = may_be_over t u (condition_in r) (w r) (signs_alike (condition_in r) h) (each_same (names_in_tree (condition_in r)) h)

  back : (w : World Reading) (r : Reading) → Each (Alike t u) (names_in_tree (condition_in r)) → May u w r → May t w r
  back w r h k = grind (arith, may_be_over, signs_alike, each_back, each_same)

  -- Each line has the property if no condition has the name.
  each_line : (P : Reading → Type 0) → ((r : Reading) → Each (Alike t u) (names_in_tree (condition_in r)) → P r) → (rs : List Reading) →
      (Contains (flat_map (λ r. names_in_tree (condition_in r)) rs) name → ⊥) → Each P rs
  each_line P p [] out = tt
  each_line P p (r ∷ rs) out = let names : List (List ℕ) = names_in_tree (condition_in r) in
      let later : List (List ℕ) = flat_map (λ (x : Reading). names_in_tree (condition_in x)) rs in
      (p r (all_alike names (λ there. out (Contains-append_left names later name there))), each_line P p rs (λ there. out (Contains-append_right names later name there)))

  -- C has the same choices by both tables.
  pub same_worlds : (ns : Nodes Reading) → (Contains (names_in_conditions ns) name → ⊥) → (w : World Reading) → IsCWorld t w ns ↔ IsCWorld u w ns
  same_worlds ns out w = (
    reached_over w (May t w) (May u w) ns (each_line (λ r. May t w r → May u w r) (over w) (openers ns) out),
    reached_over w (May u w) (May t w) ns (each_line (λ r. May u w r → May t w r) (back w) (openers ns) out),
  )
