-- The output for a line, read again, is the item of the output for it. By the line's verdict, its
-- keyword isn't cut, and it ends in a comment only if the line does.
use Rattle.std.proofs.Common.{◌≡◌, ℕ, List, [], ◌∷◌, map, Option, None, ◌⊎◌, sym, ◌∙◌, ap, ap₂, arith, rules, false, codes, refl, true, ◌-◌, ◌++◌, length, take, Bool, Some, if◌then◌else◌, append_assoc, length-append, inl}
use Rattle.ud_model.specs.text.Scans.{Scan, Reading}
use Rattle.ud_model.specs.sections.Directives.{Content, Directive, directive, content_of, role_of, test_of, may_split_keyword, kind_of, is_in_line, is_prefix_of_keyword, is_continued_outside_comment}
use Rattle.ud_model.specs.conditions.Table.{Argument}
use Rattle.ud_model.specs.conditions.Conditions.{Decision, Rules, decision_on, expression_cond, tree_cond_if}
use Rattle.ud_model.specs.sections.Tree.{Item, if_line, item_with}
use Rattle.ud_model.specs.sections.Items.{Options, rules_of, directive_item, item_by, item_of}
use Rattle.ud_model.specs.laws.Pruned.{edited, kept_line}
use Rattle.ud_model.specs.conditions.Expressions.{Expression}
use Rattle.ud_model.specs.laws.Rereading.{line_bytes, edited_bytes}
use Rattle.ud_model.specs.laws.WrittenConditions.{condition_in, Condition, condition_on, condition_by_test}
use Rattle.ud_model.specs.declared.cond.Cond.TheVariants.{Unknown}
use Rattle.ud_model.specs.declared.kind.Kind.{Kind}
use Rattle.ud_model.specs.declared.kind.Kind.TheVariants.{Else, Endif, If, Ifdef, Ifndef}
use Rattle.ud_model.specs.declared.kind.Role.{Role}
use Rattle.ud_model.specs.declared.kind.Role.TheVariants.{IfGroup, ElifGroup, ElseGroup}
use Rattle.ud_model.specs.declared.verdict.Verdict.{Verdict}
use Rattle.ud_model.specs.declared.verdict.Verdict.TheVariants.{ToIf, ToElse, ToEndif, Keep}
use Rattle.ud_model.proofs.output.Suited.{Suits}
use Rattle.ud_model.proofs.output.SeenLines.{Seen, scanned, left_seen}
use Rattle.ud_model.specs.sections.Faults.{is_cut, is_in_block}
use Rattle.ud_model.proofs.output.LeftScans.{SeenAsIf, SeenCut}
use Rattle.ud_model.specs.text.Bytes.{number_sign, are_word_bytes, is_white, skip_white, leading_word, skip_word}
use Rattle.ud_model.specs.conditions.Tokens.{Token}
use Rattle.ud_model.specs.conditions.Parsing.{tokens_of, reads, parse_all_tokens, itself, needs, expression_of}
use Rattle.ud_model.specs.declared.kind.Test.{Test}
use Rattle.ud_model.proofs.conditions.SpreadTexts.{behind, unspread, spread_tokens}
use Rattle.std.proofs.lemmas.List.{take_at}
use Rattle.ud_model.specs.answer.Printing.{by_length, opener_keyword}
use Rattle.ud_model.specs.aids.DirectiveParts.{DirectiveParts, EndsInKeyword, nothing_follows, slash_follows, word_follows, IsSplitKeyword, HasDirective}
use Rattle.ud_model.proofs.sections.SplitLines.{directive_is}
use Rattle.ud_model.proofs.sections.Keywords.{keyword_holds, each_keyword}
use Rattle.ud_model.proofs.output.ByLength.{each_length}
use Rattle.ud_model.proofs.output.Each.{Each}
use Rattle.ud_model.proofs.output.DirectiveFront.{IsWhite, Front, directive_front, StartsDark}

-- The content of a masked line that was made from one with a directive.

past_all : (ws t : List ℕ) → Each IsWhite ws → StartsDark t → skip_white (ws ++ t) ≡ t
past_all [] t h d = grind arith
past_all (b ∷ ws) t h d = ap (λ (w : Bool). if w then skip_white (ws ++ t) else b ∷ (ws ++ t)) h.0 ∙ past_all ws t h.1 d

-- The keyword isn't cut: the line joins no next one, or the bytes after the sign settle the
-- keyword.
abbrev pub Settled : Scan → List ℕ → Type 0
Settled now tail = (now.joins_after ≡ false) ⊎ (may_split_keyword now tail ≡ false)

module _ (now : Scan) (ws gs tail : List ℕ) (k : Kind) (w : Each IsWhite ws) (g : Each IsWhite gs) (d : StartsDark tail) (m : now.masked ≡ (ws ++ 35 ∷ gs) ++ tail)
    (f : now.fresh ≡ true) (s : Settled now tail) (kind : kind_of (leading_word tail) ≡ Some k) where
  tail_is : skip_white (gs ++ tail) ≡ tail
  tail_is = past_all gs tail g d

  at_is : length now.masked - length tail ≡ length (ws ++ 35 ∷ gs)
  at_is = grind (arith, length-append)

  -- A line with this masked text has this directive.
  pub carries : content_of now ≡ directive (record {
    kind = k;
    keyword = record { at = length (ws ++ 35 ∷ gs); len = length (leading_word tail) };
    after = skip_word tail;
    broken = is_continued_outside_comment now;
  })
  carries = grind (arith, append_assoc, past_all, tail_is, at_is)

-- The text after a keyword that replaces another one.
abbrev pub after_opener : Bool → List ℕ → List ℕ
after_opener true after = after
after_opener false after = 32 ∷ 32 ∷ after

-- A directive with another keyword, and perhaps two spaces more after it.
abbrev pub spaced : Bool → Directive → Kind → ℕ → Directive
spaced u d k n = record { kind = k; keyword = record { at = d.keyword.at; len = n }; after = after_opener u d.after; broken = d.broken }

-- The kind of a directive that becomes the first one of its section, by the length of the keyword
-- that it had.
abbrev pub if_kind : ℕ → Kind
if_kind n = by_length n Ifdef Ifndef If

-- The condition is tested as before.
pub tested_alike : (w : List ℕ) (k : Kind) → kind_of w ≡ Some k → role_of k ≡ ElifGroup → test_of (if_kind (length w)) ≡ test_of k
tested_alike w k e = search (rules, keyword_holds)

-- The directive begins its section.
pub if_begins : (n : ℕ) → role_of (if_kind n) ≡ IfGroup
if_begins n = each_length (λ (k : Kind). role_of k ≡ IfGroup) refl refl refl n

-- The length of the new keyword.
abbrev pub if_len : ℕ → ℕ
if_len n = by_length n 5 6 2

-- The condition is tested as before.
pub to_if_test : (scan : Scan) (d : Directive) → content_of scan ≡ directive d → role_of d.kind ≡ ElifGroup → test_of (if_kind d.keyword.len) ≡ test_of d.kind
to_if_test scan d e h = let p : Front scan d = directive_front scan d e in cc (p.len_is, tested_alike p.word d.kind p.kind_is h)

-- The word that replaces a keyword of this length.
abbrev opener_word : ℕ → List ℕ
opener_word n = opener_keyword true n

opener_parts : (u : Bool) (n : ℕ) (after : List ℕ) → opener_keyword u n ++ after ≡ opener_word n ++ after_opener u after
opener_parts u n after = grind arith

no_after : (u : Bool) (t : List ℕ) → after_opener u t ≡ [] → t ≡ []
no_after u t e = grind arith

module _ (u : Bool) (scan now : Scan) (d : Directive) (e : content_of scan ≡ directive d) (s : SeenAsIf u scan now d) where
  abbrev opener_line : HasDirective scan d → DirectiveParts
  opener_line h = record { white = h.parts.white; gap = h.parts.gap; word = opener_word d.keyword.len; rest = after_opener u h.parts.rest }

  opener_joined : (h : HasDirective scan d) → now.masked ≡ h.parts.white ++ number_sign ∷ (h.parts.gap ++ (opener_word d.keyword.len ++ after_opener u h.parts.rest))
  opener_joined h = let p : Front scan d = directive_front scan d e in
      let at : d.keyword.at ≡ length (h.parts.white ++ number_sign ∷ h.parts.gap) = grind (arith, h.at, length-append) in
      let head : take d.keyword.at scan.masked ≡ h.parts.white ++ number_sign ∷ h.parts.gap =
      ap (λ (t : List ℕ). take d.keyword.at t) (h.are.joined ∙ sym (append_assoc h.parts.white (number_sign ∷ h.parts.gap) (h.parts.word ++ h.parts.rest)))
      ∙ take_at (h.parts.white ++ number_sign ∷ h.parts.gap) (h.parts.word ++ h.parts.rest) d.keyword.at (sym at) in
      s.masked_is ∙ ap₂ (λ (x y : List ℕ). x ++ (opener_keyword u d.keyword.len ++ y)) head h.after
      ∙ ap (λ (t : List ℕ). (h.parts.white ++ number_sign ∷ h.parts.gap) ++ t) (opener_parts u d.keyword.len h.parts.rest)
      ∙ append_assoc h.parts.white (number_sign ∷ h.parts.gap) (opener_word d.keyword.len ++ after_opener u h.parts.rest)

  -- The new keyword isn't split, since the old one isn't.
  unsplit : (h : HasDirective scan d) → IsSplitKeyword now (opener_line h) → ⊥
  unsplit h c = by c.ends
    where
      by : EndsInKeyword now (opener_line h) → ⊥
      by (nothing_follows w r) = each_length (λ (t : List ℕ). t ≡ [] → ⊥) (λ q. cc) (λ q. cc) (λ q. cc) d.keyword.len w
      by (slash_follows w r k) = each_length (λ (t : List ℕ). t ≡ [] → ⊥) (λ q. cc) (λ q. cc) (λ q. cc) d.keyword.len w
      by (word_follows w r k j) = h.whole (record {
        fresh = h.fresh;
        joins = sym s.joins_is ∙ c.joins;
        no_line_comment = ap is_in_line (sym s.comment_is) ∙ c.no_line_comment;
        ends = word_follows (λ q. let f : None ≡ Some d.kind = sym (ap kind_of q) ∙ h.kind in cc) (no_after u h.parts.rest r)
            (each_keyword (λ row. is_prefix_of_keyword row.0) refl h.parts.word d.kind h.kind) (sym s.cut_is ∙ j);
      })

  -- With the keyword of a first directive in place of its own, the line has a first directive, with
  -- the same text, perhaps after two spaces.
  pub to_if_content : content_of now ≡ directive (spaced u d (if_kind d.keyword.len) (if_len d.keyword.len))
  to_if_content = let h : HasDirective scan d = (directive_is scan d).0 e in
      (directive_is now (spaced u d (if_kind d.keyword.len) (if_len d.keyword.len))).1 (record {
        parts = opener_line h;
        are = record {
          joined = opener_joined h;
          white = h.are.white;
          gap = h.are.gap;
          word = each_length (λ (t : List ℕ). are_word_bytes t ≡ true) refl refl refl d.keyword.len;
          gap_ends = grind arith;
          word_ends = grind (arith, h.are.word_ends);
        };
        fresh = s.fresh_is ∙ h.fresh;
        whole = unsplit h;
        kind = grind arith;
        at = h.at;
        len = grind arith;
        after = ap (after_opener u) h.after;
        broken = h.broken ∙ sym s.cut_is;
      })

-- A line that ends after `else` or `endif` in place of its keyword, and joins no other.
pub cut_content : (scan now : Scan) (d : Directive) (word : List ℕ) (k : Kind) → content_of scan ≡ directive d → now.masked ≡ take d.keyword.at scan.masked ++ word →
    now.fresh ≡ scan.fresh → now.joins_after ≡ false → is_continued_outside_comment now ≡ false → StartsDark word → leading_word word ≡ word → skip_word word ≡ [] → kind_of word ≡ Some k →
    content_of now ≡ directive (record { kind = k; keyword = record { at = d.keyword.at; len = length word }; after = []; broken = false })
cut_content scan now d word k e m f j c dark prefix rest kind =
    let p : Front scan d = directive_front scan d e in
    let head : take d.keyword.at scan.masked ≡ p.white ++ 35 ∷ p.gap = simp (take_at, p.at_is, p.masked_is) in
    carries now p.white p.gap word k p.whites p.gaps dark (m ∙ ap (λ (t : List ℕ). t ++ word) head) (f ∙ p.fresh_is) (inl j) (ap kind_of prefix ∙ kind)
    ∙ ap₂ (λ (n : ℕ) (b : Bool). directive (record { kind = k; keyword = record { at = n; len = length (leading_word word) }; after = skip_word word; broken = b })) (sym p.at_is) c
    ∙ ap₂ (λ (u t : List ℕ). directive (record { kind = k; keyword = record { at = d.keyword.at; len = length u }; after = t; broken = false })) prefix rest

-- Leading white space of a condition means nothing.

-- The tokens of a text are those with leading white space.
tokens_same : (b : ℕ) (t : List ℕ) → is_white b ≡ true → tokens_of (b ∷ t) ≡ tokens_of t
tokens_same b t e = spread_tokens (b ∷ t) t (true, behind b e (unspread true t))

-- The expression of a text is the one with leading white space.
expression_past : (b : ℕ) (t : List ℕ) → is_white b ≡ true → expression_of (b ∷ t) ≡ expression_of t
unfolding expression_of reads
expression_past b t e = ap (λ (ts : Option (List Token)). parse_all_tokens itself (needs []) ts) (tokens_same b t e)

cond_past : (b : ℕ) (t : List ℕ) (table : List Argument) (rules : Rules) → is_white b ≡ true → expression_cond (b ∷ t) table rules ≡ expression_cond t table rules
unfolding expression_cond
cond_past b t table rules e = ap (λ (o : Option Expression). tree_cond_if o table rules) (expression_past b t e)

-- The expression that a condition is is the same with leading white space.
pub condition_past : (p : Test) (b : ℕ) (t : List ℕ) → is_white b ≡ true → condition_by_test p (b ∷ t) ≡ condition_by_test p t
condition_past p b t e = grind (arith, expression_past)

condition_after : (u : Bool) (p : Test) (t : List ℕ) → condition_by_test p (after_opener u t) ≡ condition_by_test p t
condition_after u p t = grind (arith, condition_past)

cond_after : (u : Bool) (t : List ℕ) (table : List Argument) (rules : Rules) → expression_cond (after_opener u t) table rules ≡ expression_cond t table rules
cond_after u t table rules = grind (arith, cond_past)

-- The second item is the output for the first one with this verdict.
abbrev pub IsLeftOf : Bool → Verdict → Item Reading → Item Reading → Type 0
IsLeftOf u v x y = item_with scanned y ∷ [] ≡ map (item_with (left_seen u)) (kept_line v x)

-- If a condition is unknown, it is so with a keyword by which it is tested alike. The section is
-- plain text under neither keyword.
spaced_decision : (u : Bool) (s q : Scan) (d : Directive) (k : Kind) (n : ℕ) (table : List Argument) (rules : Rules) → test_of k ≡ test_of d.kind →
    (decision_on s d table rules).cond ≡ Unknown → decision_on q (spaced u d k n) table rules ≡ decision_on s d table rules
spaced_decision u s q d k n table rules e v = grind (arith, cond_after)

same_seen : {a b : List ℕ} {c d : Option Expression} {e f : Condition} {g h : Option Scan} → a ≡ b → c ≡ d → e ≡ f → g ≡ h →
    ◌≡◌ {A = Seen} (record { bytes = a; condition = c; written = e; text = g }) (record { bytes = b; condition = d; written = f; text = h })
same_seen x y z w = cc

module _ (o : Options) where
  item_as : (r : Reading) (d : Directive) (p : Role) → content_of r.scan ≡ directive d → role_of d.kind ≡ p →
      item_of o r ≡ directive_item r p (decision_on r.scan d o.table (rules_of o.settings))
  item_as r d p e h = grind arith

  -- A directive that opens a further group becomes one that begins the section, its condition being
  -- tested alike.
  pub if_item : (u : Bool) (r q : Reading) (d : Directive) (k : Kind) (n : ℕ) → content_of r.scan ≡ directive d → role_of d.kind ≡ ElifGroup →
      (decision_on r.scan d o.table (rules_of o.settings)).cond ≡ Unknown →
      content_of q.scan ≡ directive (spaced u d k n) → role_of k ≡ IfGroup → test_of k ≡ test_of d.kind →
      q.scan.joins_after ≡ r.scan.joins_after → line_bytes q ≡ edited_bytes u (edited ToIf r) → IsLeftOf u ToIf (item_of o r) (item_of o q)
  if_item u r q d k n e h v f g t j b =
      let c : condition_in q ≡ condition_in r = simp (condition_after, f, j, t, e) in
      let w : condition_on q ≡ condition_on r = (grind (arith, f, t, j, e)) in
      let s : scanned q ≡ left_seen u (edited ToIf r) = grind (arith, same_seen) in
      ap (λ (y : Item Reading). item_with scanned y ∷ []) (item_as q (spaced u d k n) IfGroup f g)
      ∙ ap₂ (λ (t : Seen) (c : Decision). if_line (record { line = t; cond = c.cond; ignoring = c.ignoring }) ∷ []) s
      (spaced_decision u r.scan q.scan d k n o.table (rules_of o.settings) t v)
      ∙ sym (ap (λ (x : Item Reading). map (item_with (left_seen u)) (kept_line ToIf x)) (item_as r d ElifGroup e h))

  -- A directive that opens a further group becomes an `#else`.
  pub else_item : (u : Bool) (r q : Reading) (d f : Directive) → content_of r.scan ≡ directive d → role_of d.kind ≡ ElifGroup → content_of q.scan ≡ directive f → f.kind ≡ Else →
      line_bytes q ≡ edited_bytes u (edited ToElse r) → IsLeftOf u ToElse (item_of o r) (item_of o q)
  else_item u r q d f e h n g b = grind arith

  -- A directive that opens a further group, or an `#else`, becomes an `#endif`.
  pub endif_item : (u : Bool) (r q : Reading) (d f : Directive) → content_of r.scan ≡ directive d →
      (role_of d.kind ≡ ElifGroup) ⊎ (role_of d.kind ≡ ElseGroup) → content_of q.scan ≡ directive f → f.kind ≡ Endif →
      line_bytes q ≡ edited_bytes u (edited ToEndif r) → IsLeftOf u ToEndif (item_of o r) (item_of o q)
  endif_item u r q d f e h n g b = grind arith

  if_content : (r : Reading) (c : Content) → Suits ToIf (item_by o r c) →
      (d : Directive) × (c ≡ directive d) × (role_of d.kind ≡ ElifGroup) ×
      ((decision_on r.scan d o.table (rules_of o.settings)).cond ≡ Unknown)
  if_content r c s = grind arith

  else_content : (r : Reading) (c : Content) → Suits ToElse (item_by o r c) → (d : Directive) × (c ≡ directive d) × (role_of d.kind ≡ ElifGroup)
  else_content r c s = grind arith

  endif_content : (r : Reading) (c : Content) → Suits ToEndif (item_by o r c) → (d : Directive) × (c ≡ directive d) × ((role_of d.kind ≡ ElifGroup) ⊎ (role_of d.kind ≡ ElseGroup))
  endif_content r c s = grind arith

  -- A line that becomes an `#if` has a directive that opens a further group, and whose condition is
  -- unknown.
  pub becomes_if : (r : Reading) → Suits ToIf (item_of o r) →
      (d : Directive) × (content_of r.scan ≡ directive d) × (role_of d.kind ≡ ElifGroup) ×
      ((decision_on r.scan d o.table (rules_of o.settings)).cond ≡ Unknown)
  becomes_if r s = if_content r (content_of r.scan) s

  -- A line that becomes an `#else` has such a directive.
  pub becomes_else : (r : Reading) → Suits ToElse (item_of o r) → (d : Directive) × (content_of r.scan ≡ directive d) × (role_of d.kind ≡ ElifGroup)
  becomes_else r s = else_content r (content_of r.scan) s

  -- A line that becomes an `#endif` has such a directive or an `#else`.
  pub becomes_endif : (r : Reading) → Suits ToEndif (item_of o r) → (d : Directive) × (content_of r.scan ≡ directive d) × ((role_of d.kind ≡ ElifGroup) ⊎ (role_of d.kind ≡ ElseGroup))
  becomes_endif r s = endif_content r (content_of r.scan) s

-- The output for a line by its verdict.

-- The second line is read as the output for the first one with this verdict.
pub record Left (o : Options) (u : Bool) (v : Verdict) (r q : Reading) : Type 0 where
  pub item : IsLeftOf u v (item_of o r) (item_of o q)
  pub uncut : is_cut (content_of q.scan) ≡ false
  pub ends : is_in_block r.scan.comment ≡ false → is_in_block q.scan.comment ≡ false

module _ (o : Options) (u : Bool) (r q : Reading) where
  -- The case of a line that is scanned as before.
  pub left_kept : q.scan ≡ r.scan → line_bytes q ≡ line_bytes r → is_cut (content_of r.scan) ≡ false → Left o u Keep r q
  left_kept s b c = grind arith

  -- The case of a directive that opens a further group, with the keyword of a first one in place of
  -- its own.
  pub left_if : (d : Directive) → content_of r.scan ≡ directive d → role_of d.kind ≡ ElifGroup →
      (decision_on r.scan d o.table (rules_of o.settings)).cond ≡ Unknown → SeenAsIf u r.scan q.scan d →
      line_bytes q ≡ edited_bytes u (edited ToIf r) → Left o u ToIf r q
  left_if d e k v s b = let c = to_if_content u r.scan q.scan d e s in
      record {
        item = if_item o u r q d (if_kind d.keyword.len) (if_len d.keyword.len) e k v c (if_begins d.keyword.len) (to_if_test r.scan d e k) s.joins_is b;
        uncut = ap is_cut c;
        ends = λ h. ap is_in_block s.comment_is ∙ h;
      }

  -- The case of one that ends after `else`.
  pub left_else : (d : Directive) → content_of r.scan ≡ directive d → role_of d.kind ≡ ElifGroup → SeenCut r.scan q.scan d (codes "else") →
      line_bytes q ≡ edited_bytes u (edited ToElse r) → Left o u ToElse r q
  left_else d e k s b =
      let c = cut_content r.scan q.scan d (codes "else") Else e s.masked_is s.fresh_is s.joins_is s.cut_is refl refl refl refl in
      record { item = else_item o u r q d _ e k c refl b; uncut = ap is_cut c; ends = λ h. s.calm }

  -- The case of one, or of an `#else`, that ends after `endif`.
  pub left_endif : (d : Directive) → content_of r.scan ≡ directive d → (role_of d.kind ≡ ElifGroup) ⊎ (role_of d.kind ≡ ElseGroup) → SeenCut r.scan q.scan d (codes "endif") →
      line_bytes q ≡ edited_bytes u (edited ToEndif r) → Left o u ToEndif r q
  left_endif d e k s b =
      let c = cut_content r.scan q.scan d (codes "endif") Endif e s.masked_is s.fresh_is s.joins_is s.cut_is refl refl refl refl in
      record { item = endif_item o u r q d _ e k c refl b; uncut = ap is_cut c; ends = λ h. s.calm }
