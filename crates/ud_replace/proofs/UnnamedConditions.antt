-- Conditions without a symbol's name: nothing of them is decided, unless constants are.
use Rattle.std.proofs.Common.{◌≡◌, ℕ, zero, suc, ◌-◌, ◌==◌, List, [], ◌∷◌, ◌++◌, length, map, drop, take-append-drop, Bool, true, false, not, ◌&&◌, ◌||◌, if◌then◌else◌, Option, Some, None, is_some, bytes_eq, codes, slice_index, refl, ◌∙◌, ap, ap₂, subst, arith}
use Rattle.std.proofs.lemmas.Bool.{or_from, or_parts}
use Rattle.std.proofs.lemmas.List.{map-append}
use Rattle.ud_model.specs.text.Bytes.{is_word_byte, is_white, is_digit, is_identifier, are_white, leading_word, skip_word, skip_white, starts_with_byte}
use Rattle.ud_model.specs.text.Scans.{Scan}
use Rattle.ud_model.specs.text.Lexemes.{Cell, shown}
use Rattle.ud_model.specs.sections.Directives.{Directive, role_of, test_of}
use Rattle.ud_model.specs.conditions.Table.{Argument, entry_in}
use Rattle.ud_model.specs.conditions.Constants.{is_constant}
use Rattle.ud_model.specs.conditions.Tokens.{Token, NextToken, name, operator, closing, at_end, unreadable, found, after_matching_paren, with_arguments, name_token, has_exponent_sign, word_token, one_or_two_bytes, punctuator, leading_token, next_token, AreTokens}
use Rattle.ud_model.specs.conditions.Expressions.{Expression, constant, named, is_defined, unary, binary, parens, spelling}
use Rattle.ud_model.specs.conditions.Parsing.{expression_of}
use Rattle.ud_model.specs.conditions.Conditions.{Rules, Decision, undecided, sole_name, ifdef_by, ifdef_decision, negate, mentions_listed, calls_undefined, truth_of, tree_cond, tree_cond_if, expression_cond, decision_by_test, begins_section, condition_of, decision_on}
use Rattle.ud_model.specs.conditions.Values.{value_of}
use Rattle.ud_model.specs.aids.Residuals.{residual, keeps, all_flags}
use Rattle.ud_model.specs.declared.cond.Cond.{Cond}
use Rattle.ud_model.specs.declared.cond.Cond.TheVariants.{Unknown}
use Rattle.ud_model.specs.declared.kind.Kind.{Kind}
use Rattle.ud_model.specs.declared.kind.Test.{Test}
use Rattle.ud_model.specs.declared.kind.Test.TheVariants.{Nonzero, Defined, Undefined, Nothing}
use Rattle.ud_model.specs.declared.operator.Operator.{Operator}
use Rattle.ud_model.specs.declared.operator.Operator.TheVariants.{Or, And, BitOr, BitAnd, NotEqual, Less, LessEqual, Greater, GreaterEqual, Not}
use Rattle.ud_model.proofs.conditions.OneExpression.{expression_is}
use Rattle.ud_model.proofs.output.Each.{Each, each_parts}
use Rattle.ud_simplified.specs.ResidualTexts.{ends_operand, gap_left, cells_before, cells_after, left_by, left_from, left_cells, may_go, is_read, simplified_by, simplified_cells}

module _ (table : List Argument) where
  -- 1. Words.

  -- `Unnamed t`: no word of `t` is a name of the table, not even from a byte in the word on.
  abbrev pub Unnamed : List ℕ → Type 0
  Unnamed [] = Unit {0}
  Unnamed (b ∷ bs) = (is_word_byte b ≡ true → entry_in table (leading_word (b ∷ bs)) ≡ None) × Unnamed bs

  pub last_unnamed : (p s : List ℕ) → Unnamed (p ++ s) → Unnamed s
  last_unnamed [] s h = h
  last_unnamed (b ∷ p) s h = last_unnamed p s h.1

  either : (w : Bool) (t u : List ℕ) → Unnamed t → Unnamed u → Unnamed (if w then t else u)
  either true t u h k = h
  either false t u h k = k

  white_unnamed : (t : List ℕ) → Unnamed t → Unnamed (skip_white t)
  white_unnamed [] h = h
  white_unnamed (b ∷ bs) h = either (is_white b) (skip_white bs) (b ∷ bs) (white_unnamed bs h.1) h

  word_unnamed : (t : List ℕ) → Unnamed t → Unnamed (skip_word t)
  word_unnamed [] h = h
  word_unnamed (b ∷ bs) h = either (is_word_byte b) (skip_word bs) (b ∷ bs) (word_unnamed bs h.1) h

  drop_unnamed : (t : List ℕ) → Unnamed t → Unnamed (drop 1 t)
  drop_unnamed [] h = h
  drop_unnamed (b ∷ bs) h = h.1

  first_none : (t : List ℕ) → Unnamed t → is_identifier (leading_word t) ≡ true → entry_in table (leading_word t) ≡ None
  first_none [] h e = absurd cc
  first_none (b ∷ bs) h e = by (is_word_byte b) refl
    where
      by : (w : Bool) → is_word_byte b ≡ w → entry_in table (leading_word (b ∷ bs)) ≡ None
      by true w = h.0 w
      by false w = grind (arith, w, e)

  -- 2. Tokens.

  abbrev Rest : Option (List ℕ) → Type 0
  Rest None = Unit {0}
  Rest (Some t) = Unnamed t

  rest_if : (b : Bool) (x y : Option (List ℕ)) → Rest x → Rest y → Rest (if b then x else y)
  rest_if true x y h k = h
  rest_if false x y h k = k

  behind : (n : ℕ) (t : List ℕ) → Unnamed t → Rest (after_matching_paren n t)
  behind zero (b ∷ t) h = rest_if (b == 40) _ _ (behind 1 t h.1) (rest_if (b == 41) _ _ h.1 (behind 0 t h.1))
  behind (suc n) (b ∷ t) h = rest_if (b == 40) _ _ (behind (suc (suc n)) t h.1) (rest_if (b == 41) _ _ (behind n t h.1) (behind (suc n) t h.1))
  behind _ [] h = tt

  -- The token names no symbol.
  abbrev pub IsUnlisted : Token → Type 0
  IsUnlisted (name n a) = entry_in table n ≡ None
  IsUnlisted _ = Unit {0}

  abbrev Says : NextToken → Type 0
  Says (found t rest) = IsUnlisted t × Unnamed rest
  Says _ = Unit {0}

  says_if : (b : Bool) (x y : NextToken) → Says x → Says y → Says (if b then x else y)
  says_if true x y h k = h
  says_if false x y h k = k

  arguments_say : (w : List ℕ) (o : Option (List ℕ)) → entry_in table w ≡ None → Rest o → Says (with_arguments w o)
  arguments_say w None e h = tt
  arguments_say w (Some t) e h = (e, h)

  name_says : (w rest : List ℕ) → entry_in table w ≡ None → Unnamed rest → Says (name_token w rest)
  name_says w rest e h = says_if (starts_with_byte 40 (skip_white rest)) _ _
      (arguments_say w (after_matching_paren 0 (drop 1 (skip_white rest))) e (behind 0 (drop 1 (skip_white rest)) (drop_unnamed (skip_white rest) (white_unnamed rest h)))) (e, h)

  word_says : (w rest : List ℕ) → entry_in table w ≡ None → Unnamed rest → Says (word_token w rest)
  word_says w rest e h = says_if (is_digit (slice_index w 0)) _ _
      (says_if (is_constant w && not (has_exponent_sign w rest)) _ _ (tt, h) tt) (says_if (bytes_eq w (codes "defined")) _ _ (tt, h) (name_says w rest e h))

  two_say : (c : ℕ) (long short : Operator) (rest : List ℕ) → Unnamed rest → Says (one_or_two_bytes c long short rest)
  two_say c long short rest h = says_if (starts_with_byte c rest) _ _ (tt, drop_unnamed rest h) (tt, h)

  punctuator_says : (b : ℕ) (rest : List ℕ) → Unnamed rest → Says (punctuator b rest)
  punctuator_says b rest h = says_if (b == 40) _ _ (tt, h) (says_if (b == 41) _ _ (tt, h) (says_if (b == 33) _ _ (two_say 61 NotEqual Not rest h)
      (says_if (b == 60) _ _ (two_say 61 LessEqual Less rest h) (says_if (b == 62) _ _ (two_say 61 GreaterEqual Greater rest h)
      (says_if (b == 38) _ _ (two_say 38 And BitAnd rest h) (says_if (b == 124) _ _ (two_say 124 Or BitOr rest h)
      (says_if (b == 61) _ _ (says_if (starts_with_byte 61 rest) _ _ (tt, drop_unnamed rest h) tt)
      (says_if (b == 45) _ _ (says_if (starts_with_byte 45 rest) _ _ tt (tt, h)) (says_if (b == 43) _ _ (tt, h) (says_if (b == 42) _ _ (tt, h)
      (says_if (b == 47) _ _ (tt, h) (says_if (b == 37) _ _ (tt, h) (says_if (b == 94) _ _ (tt, h) (says_if (b == 126) _ _ (tt, h) tt))))))))))))))

  leading_says : (t : List ℕ) → Unnamed t → Says (leading_token t)
  leading_says [] h = tt
  leading_says (b ∷ t) h = by (is_word_byte b) refl
    where
      by : (w : Bool) → is_word_byte b ≡ w → Says (if w then word_token (leading_word (b ∷ t)) (skip_word (b ∷ t)) else punctuator b t)
      by true e = word_says (leading_word (b ∷ t)) (skip_word (b ∷ t)) (h.0 e) (word_unnamed (b ∷ t) h)
      by false e = punctuator_says b t h.1

  next_says : (t : List ℕ) → Unnamed t → Says (next_token t)
  unfolding next_token
  next_says t h = leading_says (skip_white t) (white_unnamed t h)

  tokens_unlisted : (ts : List Token) (t : List ℕ) → Unnamed t → AreTokens t ts → Each IsUnlisted ts
  tokens_unlisted [] t h a = tt
  tokens_unlisted (x ∷ ts) t h (rest, e, more) = let s : IsUnlisted x × Unnamed rest = subst Says e (next_says t h) in (s.0, tokens_unlisted ts rest s.1 more)

  -- 3. Trees.

  tree_unlisted : (e : Expression) → Each IsUnlisted (spelling e) → mentions_listed table e ≡ false
  tree_unlisted (constant w) h = refl
  tree_unlisted (named n a) h = ap is_some h.0
  tree_unlisted (is_defined n false) h = ap is_some h.1.0
  tree_unlisted (is_defined n true) h = ap is_some h.1.1.0
  tree_unlisted (unary o a) h = tree_unlisted a h.1
  tree_unlisted (binary o a b) h = let p = each_parts IsUnlisted (spelling a) (operator o ∷ spelling b) h in
      or_from (mentions_listed table a) (mentions_listed table b) (tree_unlisted a p.0) (tree_unlisted b p.1.1)
  tree_unlisted (parens a) h = tree_unlisted a (each_parts IsUnlisted (spelling a) (closing ∷ []) h.1).0

  text_unlisted : (t : List ℕ) (e : Expression) → Unnamed t → expression_of t ≡ Some e → mentions_listed table e ≡ false
  text_unlisted t e h p = tree_unlisted e (tokens_unlisted (spelling e) t h (expression_is t e p).1)

  module _ (rules : Rules) (off : rules.constants ≡ false) where
    unknown_if : (c k m : Bool) (x : Cond) → k ≡ false → m ≡ false → (if c || not (k || m) then Unknown else x) ≡ Unknown
    unknown_if c k m x e f = grind arith

    tree_unknown : (e : Expression) → mentions_listed table e ≡ false → tree_cond e table rules ≡ Unknown
    tree_unknown e h = unknown_if (calls_undefined table e) rules.constants (mentions_listed table e) (truth_of (value_of table rules.strict e)) off h

    -- 4. Decisions.

    text_unknown : (t : List ℕ) → Unnamed t → expression_cond t table rules ≡ Unknown
    unfolding expression_cond
    text_unknown t h = by (expression_of t) refl
      where
        by : (o : Option Expression) → expression_of t ≡ o → tree_cond_if o table rules ≡ Unknown
        by None p = refl
        by (Some e) p = tree_unknown e (text_unlisted t e h p)

    sole_undecided : (t : List ℕ) → Unnamed t → ifdef_decision (sole_name t) table ≡ undecided
    sole_undecided t h = by (is_identifier (leading_word (skip_white t))) (are_white (skip_word (skip_white t))) refl
      where
        by : (i w : Bool) → is_identifier (leading_word (skip_white t)) ≡ i → ifdef_decision (if i && w then Some (leading_word (skip_white t)) else None) table ≡ undecided
        by true true e = ap ifdef_by (first_none (skip_white t) (white_unnamed t h) e)
        by true false e = refl
        by false w e = refl

    test_undecided : (test : Test) (t : List ℕ) → Unnamed t → decision_by_test test t table rules ≡ undecided
    test_undecided Nonzero t h = ap (λ (c : Cond). let d : Decision = record { cond = c; ignoring = false } in d) (text_unknown t h)
    test_undecided Defined t h = sole_undecided t h
    test_undecided Undefined t h = ap (λ (d : Decision). record d { cond = negate d.cond }) (sole_undecided t h)
    test_undecided Nothing t h = refl

    kind_undecided : (kind : Kind) (t : List ℕ) → Unnamed t → condition_of kind t table rules ≡ undecided
    kind_undecided kind t h =
        ap (λ (d : Decision). record d { ignoring = begins_section (role_of kind) && d.ignoring }) (test_undecided (test_of kind) t h)
        ∙ ap (λ (b : Bool). record undecided { ignoring = b }) (none (begins_section (role_of kind)))
      where
        none : (b : Bool) → (b && false) ≡ false
        none b = grind arith

    -- A directive without a name is undecided.
    pub decision_none : (scan : Scan) (d : Directive) → Unnamed d.after → decision_on scan d table rules ≡ undecided
    decision_none scan d h = by d.broken
      where
        by : (b : Bool) → (if b then undecided else record (condition_of d.kind d.after table rules) { ignoring = (condition_of d.kind d.after table rules).ignoring && not scan.joins_after }) ≡ undecided
        by true = refl
        by false = ap (λ (x : Decision). record x { ignoring = x.ignoring && not scan.joins_after }) (kind_undecided d.kind d.after h)

    -- 5. Residuals.

    record IsWhole (e : Expression) : Type 0 where
      unknown : (residual table rules e).cond ≡ Unknown
      whole : (residual table rules e).lost ≡ false
      all : keeps table rules e ≡ all_flags true e

    tree_whole : (e : Expression) → mentions_listed table e ≡ false → IsWhole e
    tree_whole (unary Not a) h = let p = tree_whole a h in record { unknown = ap negate p.unknown; whole = refl; all = ap (λ (fs : List Bool). true ∷ fs) p.all }
    tree_whole (binary And a b) h =
        let m = or_parts (mentions_listed table a) (mentions_listed table b) h in
        let p = tree_whole a m.0 in let q = tree_whole b m.1 in
        record { unknown = grind (arith, p.unknown, q.unknown); whole = grind (arith, p.unknown, q.unknown); all = grind (arith, p.unknown, q.unknown, p.all, q.all, map-append) }
    tree_whole (binary Or a b) h =
        let m = or_parts (mentions_listed table a) (mentions_listed table b) h in
        let p = tree_whole a m.0 in let q = tree_whole b m.1 in
        record { unknown = grind (arith, p.unknown, q.unknown); whole = grind (arith, p.unknown, q.unknown); all = grind (arith, p.unknown, q.unknown, p.all, q.all, map-append) }
    tree_whole (parens a) h = let p = tree_whole a h in
        record { unknown = grind (arith, p.unknown, p.whole); whole = grind (arith, p.unknown, p.whole); all = grind (arith, p.whole, p.all, map-append) }
    tree_whole e h = record { unknown = tree_unknown e h; whole = refl; all = refl }

  gap_stays : (o : Bool) (gap : List Cell) → gap_left (if o then true else true) gap ≡ gap
  gap_stays true gap = refl
  gap_stays false gap = refl

  all_left : (ts : List Token) (o : Bool) (cells : List Cell) → left_from true o (map (λ (t : Token). true) ts) cells ≡ cells
  all_left [] o cells = refl
  all_left (x ∷ ts) o cells = by (next_token (map shown cells)) (all_left ts)
    where
      by : (n : NextToken) → ((p : Bool) (c : List Cell) → left_from true p (map (λ (t : Token). true) ts) c ≡ c) → left_by true o true (λ p c. left_from true p (map (λ (t : Token). true) ts) c) cells n ≡ cells
      by at_end more = refl
      by unreadable more = refl
      by (found t rest) more = let s : List ℕ = skip_white (map shown cells) in
          let later : List Cell = cells_after s cells in
          ap₂ (λ (g c : List Cell). g ++ (cells_before rest later ++ c)) (gap_stays o (cells_before s cells)) (more (ends_operand t) (cells_after rest later))
          ∙ ap (λ (c : List Cell). cells_before s cells ++ c) (take-append-drop (length later - length rest) later)
          ∙ take-append-drop (length cells - length s) cells

  -- No operand of such a text is removed.
  pub simplified_whole : (rules : Rules) → rules.constants ≡ false → (cells : List Cell) → Unnamed (map shown cells) → simplified_cells table rules cells ≡ cells
  unfolding simplified_cells
  simplified_whole rules off cells h = by (expression_of (map shown cells)) refl
    where
      same : (b : Bool) (x : List Cell) → x ≡ cells → (if b then x else cells) ≡ cells
      same b x e = grind arith

      by : (o : Option Expression) → expression_of (map shown cells) ≡ o → simplified_by table rules o cells ≡ cells
      by None p = refl
      by (Some e) p = same (may_go table rules e cells && is_read table rules e (left_cells (keeps table rules e) cells)) (left_cells (keeps table rules e) cells)
          (ap (λ (fs : List Bool). left_cells fs cells) (tree_whole rules off e (text_unlisted (map shown cells) e h p)).all ∙ all_left (spelling e) false cells)
