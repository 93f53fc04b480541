-- Conditions: two tables decide a condition alike if they have the same entry for each of its
-- names, and for those to which these lead.
use Rattle.std.proofs.Common.{◌≡◌, ℕ, List, Bool, true, ◌||◌, Some, sym, ◌∙◌, ap, ap₂, arith, rules}
use Rattle.ud_model.specs.text.Bytes.{is_identifier}
use Rattle.ud_model.specs.text.Scans.{Reading}
use Rattle.ud_model.specs.sections.Directives.{Content}
use Rattle.ud_model.specs.conditions.Table.{Argument, entry_in}
use Rattle.ud_model.specs.conditions.Symbols.{defined_text, text_in, ResolvesTo, at_text, by_name, resolve}
use Rattle.ud_model.specs.conditions.Expressions.{Expression, unary, binary, parens}
use Rattle.ud_model.specs.conditions.Parsing.{expression_of}
use Rattle.ud_model.specs.conditions.Values.{unary_amount, binary_amount, name_value, name_value_by}
use Rattle.ud_model.specs.conditions.Values.{name_has_u, end_has_u, defined_value, defined_value_by}
use Rattle.ud_model.specs.conditions.Values.{number_of, has_unsigned}
use Rattle.ud_model.specs.conditions.Conditions.{Rules, mentions_listed, calls_undefined}
use Rattle.ud_model.specs.conditions.Conditions.{expression_cond}
use Rattle.ud_model.specs.conditions.Names.{names_in, names_in_tree}
use Rattle.ud_model.specs.sections.Items.{Options, rules_of, item_by}
use Rattle.ud_model.specs.answer.Listing.{names_in_content}
use Rattle.ud_laws.specs.output.ListedNames.{LeadsTo, itself, by_value}
use Rattle.ud_model.proofs.output.Each.{Each, each_parts}
use Rattle.ud_model.proofs.conditions.SymbolLemmas.{end_found, end_is, same_by}

module _ (t u : List Argument) where
  -- The tables have the same entry for the name, and for each to which it leads.
  abbrev pub Alike : List ℕ → Type 0
  Alike n = (m : List ℕ) → LeadsTo t n m → entry_in t m ≡ entry_in u m

  further : (n v : List ℕ) → Alike n → defined_text t n ≡ Some v → is_identifier v ≡ true → Alike v
  further n v h d i m l = h m (by_value n v m d i l)

  ends_over : (n v : List ℕ) → Alike n → ResolvesTo t n v → ResolvesTo u n v
  ends_over n v h (at_text _ _ d i) = at_text n v (ap text_in (sym (h n (itself n))) ∙ d) i
  ends_over n v h (by_name _ m _ d i e) = by_name n m v (ap text_in (sym (h n (itself n))) ∙ d) i (ends_over m v (further n m h d i) e)

  ends_back : (n v : List ℕ) → Alike n → ResolvesTo u n v → ResolvesTo t n v
  ends_back n v h (at_text _ _ d i) = at_text n v (ap text_in (h n (itself n)) ∙ d) i
  ends_back n v h (by_name _ m _ d i e) =
      let d' : defined_text t n ≡ Some m = ap text_in (h n (itself n)) ∙ d in grind (arith, by_name n m v d' i (ends_back m v (further n m h d' i) e))

  -- The name resolves to the same text by both tables.
  end_alike : (n : List ℕ) → Alike n → resolve t n ≡ resolve u n
  end_alike n h = search (rules, same_by, end_found, ends_over, end_is, ends_back)

  pub name_value_alike : (b : Bool) (n : List ℕ) → Alike n → name_value t b n ≡ name_value u b n
  unfolding name_value
  name_value_alike b n h = ap₂ (name_value_by b) (end_alike n h) (h n (itself n))

  pub name_has_u_alike : (n : List ℕ) → Alike n → name_has_u t n ≡ name_has_u u n
  unfolding name_has_u
  name_has_u_alike n h = ap end_has_u (end_alike n h)

  pub defined_value_alike : (n : List ℕ) → Alike n → defined_value t n ≡ defined_value u n
  unfolding defined_value
  defined_value_alike n h = ap defined_value_by (h n (itself n))

  number_of_alike : (strict b : Bool) (e : Expression) → Each Alike (names_in e) → number_of t strict b e ≡ number_of u strict b e
  number_of_alike strict b (unary o x) h = ap (unary_amount b o) (number_of_alike strict b x h)
  number_of_alike strict b (binary o x y) h =
      let p : Each Alike (names_in x) × Each Alike (names_in y) = each_parts Alike (names_in x) (names_in y) h in
      ap₂ (binary_amount strict b o) (number_of_alike strict b x p.0) (number_of_alike strict b y p.1)
  number_of_alike strict b (parens x) h = number_of_alike strict b x h
  number_of_alike strict b e h = grind (arith, name_value_alike, defined_value_alike)

  pub has_unsigned_alike : (e : Expression) → Each Alike (names_in e) → has_unsigned t e ≡ has_unsigned u e
  has_unsigned_alike (unary o x) h = has_unsigned_alike x h
  has_unsigned_alike (binary o x y) h =
      let p : Each Alike (names_in x) × Each Alike (names_in y) = each_parts Alike (names_in x) (names_in y) h in
      ap₂ (λ (a : Bool) (b : Bool). a || b) (has_unsigned_alike x p.0) (has_unsigned_alike y p.1)
  has_unsigned_alike (parens x) h = has_unsigned_alike x h
  has_unsigned_alike e h = grind (arith, name_has_u_alike)

  names_listed_alike : (e : Expression) → Each Alike (names_in e) → mentions_listed t e ≡ mentions_listed u e
  names_listed_alike (unary o x) h = names_listed_alike x h
  names_listed_alike (binary o x y) h =
      let p : Each Alike (names_in x) × Each Alike (names_in y) = each_parts Alike (names_in x) (names_in y) h in
      ap₂ (λ (a : Bool) (b : Bool). a || b) (names_listed_alike x p.0) (names_listed_alike y p.1)
  names_listed_alike (parens x) h = names_listed_alike x h
  names_listed_alike e h = grind (arith, itself)

  calls_undefined_alike : (e : Expression) → Each Alike (names_in e) → calls_undefined t e ≡ calls_undefined u e
  calls_undefined_alike (unary o x) h = calls_undefined_alike x h
  calls_undefined_alike (binary o x y) h =
      let p : Each Alike (names_in x) × Each Alike (names_in y) = each_parts Alike (names_in x) (names_in y) h in
      ap₂ (λ (a : Bool) (b : Bool). a || b) (calls_undefined_alike x p.0) (calls_undefined_alike y p.1)
  calls_undefined_alike (parens x) h = calls_undefined_alike x h
  calls_undefined_alike e h = grind (arith, itself)

  expression_cond_alike : (after : List ℕ) (rules : Rules) → Each Alike (names_in_tree (expression_of after)) → expression_cond after t rules ≡ expression_cond after u rules
  unfolding expression_cond
  expression_cond_alike after rules h =
      grind (arith, calls_undefined_alike, names_listed_alike, has_unsigned_alike, number_of_alike)

module _ (o p : Options) (same : rules_of o.settings ≡ rules_of p.settings) where
  -- A line is the same item if the tables agree on its names.
  pub item_alike : (r : Reading) (c : Content) → Each (Alike o.table p.table) (names_in_content c) → item_by o r c ≡ item_by p r c
  item_alike r c h = grind (arith, expression_cond_alike, itself)
