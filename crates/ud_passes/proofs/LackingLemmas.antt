-- Lacking texts: where no name stands and no word is split, no mention names a symbol.
use Rattle.std.proofs.Common.{◌≡◌, ℕ, suc, ◌-◌, ◌⊎◌, inl, inr, List, []}
use Rattle.std.proofs.Common.{◌∷◌, ◌++◌, length, take, drop, take-append-drop, map, nat_eq, Bool}
use Rattle.std.proofs.Common.{true, false, not, Option, Some, None, if◌then◌else◌, refl, sym, ◌∙◌}
use Rattle.std.proofs.Common.{ap, append_assoc, append-nil, arith}
use Rattle.std.specs.List.{concat, ends_with}
use Rattle.std.proofs.lemmas.Bool.{and_right, or_parts}
use Rattle.std.proofs.lemmas.Bool.Decides.{Decides-eqb}
use Rattle.std.proofs.lemmas.Grind.{common_steps}
use Rattle.std.proofs.lemmas.Slice.Eq.{ends_is}
use Rattle.ud_model.specs.text.Bytes.{space, backslash}
use Rattle.ud_model.specs.text.Bytes.{is_word_byte, leading_word, skip_word, skip_white}
use Rattle.ud_model.specs.text.Lines.{Line, line_at, ending_of, numbered_from, texts_of}
use Rattle.ud_model.specs.text.Lexemes.{LexemeKind, block_comment, line_comment, literal, single}
use Rattle.ud_model.specs.text.Lexemes.{Cell, shown, shown_as}
use Rattle.ud_model.specs.text.Splicing.{is_spliced, is_empty, content, spliced_text, c_run_of}
use Rattle.ud_model.specs.text.Scans.{Reading}
use Rattle.ud_model.specs.text.Scanning.{is_block, joins, content_cells, scan_after_run}
use Rattle.ud_model.specs.text.Scanning.{next_reading, readings_after}
use Rattle.ud_model.specs.aids.ReadAs.{in_mode, read_as}
use Rattle.ud_model.specs.aids.LexStates.{LexState, in_text, kind_in_state, next_state}
use Rattle.ud_model.specs.declared.kind.Kind.{Kind}
use Rattle.ud_model.specs.declared.kind.Kind.TheVariants.{Else, Endif}
use Rattle.ud_model.specs.declared.kind.Mode.{Mode}
use Rattle.ud_model.specs.declared.kind.Mode.TheVariants.{C, Plain}
use Rattle.ud_model.specs.sections.Directives.{Directive, Content, directive, text, cut_keyword}
use Rattle.ud_model.specs.sections.Directives.{content_of, skip_hash}
use Rattle.ud_model.specs.conditions.Table.{Argument, entry_in}
use Rattle.ud_model.specs.conditions.Conditions.{is_listed}
use Rattle.ud_model.proofs.text.LinesLemmas.{lines_exist, text_of-line_at}
use Rattle.ud_model.proofs.text.ScanBytes.{bytes-content_cells, masked-content_cells}
use Rattle.ud_model.proofs.text.ScanBytes.{content-prefix}
use Rattle.ud_model.proofs.text.ScanLaws.{place_after, white_after, masked_after, LexesTo-all}
use Rattle.ud_model.proofs.text.ScanLaws.{scan_from, scan_after_run-from}
use Rattle.ud_model.proofs.output.DirectiveFront.{Front, directive_front}
use Rattle.ud_cond.specs.symbols.SymbolTable.{LacksNames}
use Rattle.ud_passes.specs.Passes.{fits}
use Rattle.ud_passes.specs.remaining.Definitions.{defines, defines_by, defines_if, is_definition}
use Rattle.ud_passes.specs.remaining.Mentions.{Mention, class_of, shown_after, joins_next}
use Rattle.ud_passes.specs.remaining.Mentions.{joined_text, mention_at, with_text}
use Rattle.ud_passes.specs.remaining.Mentions.{mention_by, mention_on, mentions_in, mentions_of}
use Rattle.ud_passes.specs.remaining.ListedNames.{has_listed, names_listed, ends_in_word}
use Rattle.ud_passes.specs.remaining.ListedNames.{begins_ending, splits_word}
use Rattle.ud_passes.specs.remaining.Searches.{Appends}
use Rattle.ud_passes.specs.declared.remaining.mentions.Class.TheVariants.{Condition, Closing}
use Rattle.ud_passes.specs.declared.remaining.search.Search.{Search}
use Rattle.ud_passes.proofs.NameLemmas.{has_word-other, has_word-seam}
use Rattle.ud_passes.proofs.SearchLemmas.{appends_more, appends_none}

-- 1. Words of masked bytes.

-- `Fades bs xs`: the bytes `xs` are the first of `bs`, but for some that are no word bytes.
abbrev pub Fades : List ℕ → List ℕ → Type 0
Fades bs [] = Unit {0}
Fades [] (x ∷ xs) = ⊥
Fades (b ∷ bs) (x ∷ xs) = (is_word_byte x ≡ true → x ≡ b) × Fades bs xs

-- A byte is shown as it is, or as a space.
as_it_is : (k : LexemeKind) (b : ℕ) → (shown_as k b ≡ b) ⊎ (shown_as k b ≡ space)
as_it_is block_comment b = inr refl
as_it_is line_comment b = inr refl
as_it_is literal b = inl refl
as_it_is single b = inl refl

-- The cells of bytes show them so.
cells_fade : (cells : List Cell) (rest : List ℕ) →
    Fades (map (λ (c : Cell). c.byte) cells ++ rest) (map shown cells)
cells_fade [] rest = tt
cells_fade (c ∷ cells) rest = grind (arith, as_it_is, cells_fade cells rest)

all_fade : (bs : List ℕ) → Fades bs bs
all_fade [] = tt
all_fade (b ∷ bs) = (λ e. refl, all_fade bs)

-- A word of them is a part of the bytes.
word_kept : (bs xs : List ℕ) → Fades bs xs → (rest : List ℕ) × (bs ≡ leading_word xs ++ rest)
word_kept bs [] f = (bs, refl)
word_kept [] (x ∷ xs) f = absurd f
word_kept (b ∷ bs) (x ∷ xs) f = by (is_word_byte x) f.0 (word_kept bs xs f.1)
  where
    by : (w : Bool) → (w ≡ true → x ≡ b) → (rest : List ℕ) × (bs ≡ leading_word xs ++ rest) →
        (rest : List ℕ) × (b ∷ bs ≡ (if w then x ∷ leading_word xs else []) ++ rest)
    by true e (rest, more) = (
      rest,
      ap (λ (y : ℕ). y ∷ bs) (sym (e refl)) ∙ ap
          (λ (l : List ℕ). x ∷ l) more,
    )
    by false e more = (b ∷ bs, refl)

module _ (table : List Argument) where
  -- A part of bytes that lack names lacks them.
  part_lacks : (before u after t : List ℕ) → t ≡ before ++ (u ++ after) → LacksNames table t →
      LacksNames table u
  part_lacks before u after t e h p n s d = h (before ++ p) n (s ++ after)
      (grind (arith, append_assoc))

  rest_lacks : (b : ℕ) (bs : List ℕ) → LacksNames table (b ∷ bs) → LacksNames table bs
  rest_lacks b bs h = part_lacks (b ∷ []) bs [] (b ∷ bs)
      (sym (ap (λ (l : List ℕ). b ∷ l) (append-nil bs))) h

  unlisted : (n : List ℕ) → entry_in table n ≡ None → is_listed table n ≡ false
  unlisted n e = grind (arith, e)

  -- No word of masked bytes is a name.
  faded : (in_word : Bool) (bs xs : List ℕ) → Fades bs xs → LacksNames table bs →
      has_listed table in_word xs ≡ false
  faded in_word bs [] f h = refl
  faded in_word [] (x ∷ xs) f h = absurd f
  faded true (b ∷ bs) (x ∷ xs) f h = faded (is_word_byte x) bs xs f.1 (rest_lacks b bs h)
  faded false (b ∷ bs) (x ∷ xs) f h = let kept = word_kept (b ∷ bs) (x ∷ xs) f in
      let none = unlisted (leading_word (x ∷ xs)) (h [] (leading_word (x ∷ xs)) kept.0 kept.1) in
      grind (arith, none, faded (is_word_byte x) bs xs f.1 (rest_lacks b bs h))

  -- Nor one of their last bytes.
  rest_faded : (bs p xs : List ℕ) → Fades bs (p ++ xs) → LacksNames table bs →
      has_listed table false xs ≡ false
  rest_faded bs [] xs f h = faded false bs xs f h
  rest_faded [] (c ∷ p) xs f h = absurd f
  rest_faded (b ∷ bs) (c ∷ p) xs f h = rest_faded bs p xs f.1 (rest_lacks b bs h)

  -- 2. Definitions.

  white_lacks : (t : List ℕ) → LacksNames table t → LacksNames table (skip_white t)
  white_lacks [] h = h
  white_lacks (b ∷ bs) h = grind (arith, rest_lacks, white_lacks bs (rest_lacks b bs h))

  word_lacks : (t : List ℕ) → LacksNames table t → LacksNames table (skip_word t)
  word_lacks [] h = h
  word_lacks (b ∷ bs) h = grind (arith, rest_lacks, word_lacks bs (rest_lacks b bs h))

  first_unlisted : (t : List ℕ) → LacksNames table t → is_listed table (leading_word t) ≡ false
  first_unlisted t h = let kept = word_kept t t (all_fade t) in unlisted (leading_word t)
      (h [] (leading_word t) kept.0 kept.1)

  definer_lacks : (t : List ℕ) → LacksNames table t → defines_by table t ≡ false
  definer_lacks t h =
      let none = first_unlisted _ (white_lacks (skip_word t) (word_lacks t h)) in grind (arith, none)

  defines_nothing : (t : List ℕ) → LacksNames table t → defines table t ≡ false
  defines_nothing t h = by (skip_white t) (white_lacks t h)
    where
      by : (s : List ℕ) → LacksNames table s → defines_if table (skip_hash s) ≡ false
      by [] k = refl
      by (b ∷ bs) k =
          let more = definer_lacks (skip_white bs) (white_lacks bs (rest_lacks b bs k)) in grind
          (arith, more)

-- 3. Where words end.

ends_last : (in_word : Bool) (xs : List ℕ) (y : ℕ) →
    ends_in_word in_word (xs ++ y ∷ []) ≡ is_word_byte y
ends_last in_word [] y = refl
ends_last in_word (x ∷ xs) y = ends_last (is_word_byte x) xs y

ends_rest : (in_word : Bool) (p xs : List ℕ) → ends_in_word in_word (p ++ xs) ≡ false →
    ends_in_word false xs ≡ false
ends_rest in_word p [] e = refl
ends_rest in_word [] (x ∷ xs) e = e
ends_rest in_word (c ∷ p) (x ∷ xs) e = ends_rest (is_word_byte c) p (x ∷ xs) e

-- Masked cells end in a word byte only if their bytes do.
cells_end : (in_word : Bool) (cells : List Cell) →
    ends_in_word in_word (map (λ (c : Cell). c.byte) cells) ≡ false →
    ends_in_word in_word (map shown cells) ≡ false
cells_end in_word [] e = e
cells_end in_word (c ∷ []) e = grind (arith, as_it_is)
cells_end in_word (c ∷ d ∷ cells) e = cells_end in_word (d ∷ cells) e

-- Bytes that end in a block comment end in a space.
open_blank : (bytes : List ℕ) (w : LexState) (masked : List ℕ) →
    is_block (kind_in_state (place_after w bytes)) ≡ true →
    (is_block (kind_in_state w) ≡ true → ends_in_word false masked ≡ false) →
    ends_in_word false (masked_after w masked bytes) ≡ false
open_blank [] w masked e h = h e
open_blank (b ∷ bytes) w masked e h =
    open_blank bytes (next_state w b) _ e (λ inside. grind (arith, ends_last, inside))

-- A backslash that splits no word follows none.
unsplit_before : (in_word : Bool) (p s : List ℕ) →
    splits_word in_word (p ++ backslash ∷ s) ≡ false → begins_ending s ≡ true →
    ends_in_word in_word p ≡ false
unsplit_before true [] s e b = grind (arith, e, b)
unsplit_before false [] s e b = refl
unsplit_before in_word (c ∷ p) s e b = grind (arith, or_parts, unsplit_before (is_word_byte c) p s)

-- 4. Readings whose lines lack names.

-- No word of the line `r` is a name, and none goes on in the next line.
record IsLacking (table : List Argument) (r : Reading) : Type 0 where
  pub lacks : LacksNames table r.line.body
  pub fades : Fades r.line.body r.scan.masked
  pub ended : r.scan.joins_after ≡ true → ends_in_word false r.scan.masked ≡ false

abbrev AreLacking : List Argument → List Reading → Type 0
AreLacking table [] = Unit {0}
AreLacking table (r ∷ rs) = IsLacking table r × AreLacking table rs

-- A line that joins the next one ends in no word.
code_ended : (run : List Line) (l : Line) → (is_spliced l ≡ true →
    ends_in_word false (content l) ≡ false) →
    (scan_after_run run l).joins_after ≡ true →
    ends_in_word false (scan_after_run run l).masked ≡ false
unfolding scan_after_run scan_from
code_ended run l unsplit e = by (is_spliced l) refl
  where
    w : LexState
    w = place_after in_text (spliced_text run)

    from : scan_after_run run l ≡ scan_from w (white_after in_text true (spliced_text run))
        (joins run) l
    from = scan_after_run-from run l w (white_after in_text true (spliced_text run)) (joins run)
        (LexesTo-all (spliced_text run)) refl

    by : (s : Bool) → is_spliced l ≡ s → ends_in_word false (scan_after_run run l).masked ≡ false
    by true s = grind (arith, cells_end, bytes-content_cells, unsplit s)
    by false s = grind (arith, from, s, open_blank (content l) w [])

module _ (table : List Argument) where
  read_lacking : (before : List Reading) (m : Mode) (l : Line) → LacksNames table l.body →
      (is_spliced l ≡ true → ends_in_word false (content l) ≡ false) →
      IsLacking table (next_reading before m l)
  read_lacking before Plain l h u = record { lacks = h; fades = all_fade l.body; ended = λ e. cc }
  read_lacking before C l h u =
      let front = content-prefix l in
      let fade = cells_fade (content_cells (c_run_of before) l) front.0 in
      record {
        lacks = h;
        fades = grind (arith, masked-content_cells, bytes-content_cells, front.1, fade);
        ended = code_ended (c_run_of before) l u;
      }

  -- The ending of a line begins so, whatever comes after it.
  begins : (l after : List ℕ) → not (is_empty (ending_of l)) ≡ true →
      begins_ending (ending_of l ++ after) ≡ true
  begins l after = grind arith

  -- A splice in an unsplit text follows no word.
  unspliced : (l : Line) (before after t : List ℕ) → t ≡ before ++ ((l.body ++ l.ending) ++ after) →
      (not (is_empty l.ending) ≡ true → begins_ending (l.ending ++ after) ≡ true) →
      splits_word false t ≡ false → is_spliced l ≡ true → ends_in_word false (content l) ≡ false
  unspliced l before after t e b u s =
      let c = take (length l.body - 1) l.body in
      let ends = ends_is Decides-eqb l.body (backslash ∷ [])
      (ends_with nat_eq l.body (backslash ∷ [])) refl in
      let body : l.body ≡ c ++ backslash ∷ [] = grind (arith, s, ends) in
      let is : t ≡ (before ++ c) ++ backslash ∷ (l.ending ++ after) =
      rw (e, body) (grind (arith, append_assoc)) in
      grind (arith, s, is, u, ends_rest, unsplit_before)

  one_more : (rs : List Reading) (r : Reading) → AreLacking table rs → IsLacking table r →
      AreLacking table (rs ++ r ∷ [])
  one_more [] r h k = (k, tt)
  one_more (q ∷ rs) r h k = (h.0, one_more rs r h.1 k)

  all_lacking : (t : List ℕ) → LacksNames table t → splits_word false t ≡ false →
      (m : Mode) (rs : List Reading) (n : ℕ) (before : List ℕ) (ls : List (List ℕ)) →
      AreLacking table rs → t ≡ before ++ concat ls →
      AreLacking table (readings_after rs (map (in_mode m) (numbered_from n ls)))
  all_lacking t h u m rs n before [] k e = k
  all_lacking t h u m rs n before (l ∷ ls) k e =
      let line : Line = line_at n l in
      let is : t ≡ before ++ ((line.body ++ line.ending) ++ concat ls) =
      grind (arith, e, text_of-line_at n l) in
      let lacks = part_lacks table before line.body (line.ending ++ concat ls) t
      (grind (arith, is, append_assoc)) h in
      all_lacking t h u m (rs ++ next_reading rs m line ∷ []) (suc n) (before ++ l) ls
      (one_more rs _ k (read_lacking rs m line lacks
      (unspliced line before (concat ls) t is (begins l (concat ls)) u)))
      (grind (arith, e, append_assoc))

  -- 5. Mentions.

  -- No text of a mention has a name.
  condition_unnamed : (kind : Kind) (xs : List ℕ) (goes_on : Bool) (rs : List Reading) →
      AreLacking table rs → has_listed table false xs ≡ false →
      (goes_on ≡ true → ends_in_word false xs ≡ false) →
      has_listed table false (xs ++ joined_text (Condition kind) goes_on rs) ≡ false
  condition_unnamed kind xs false rs h e ended = rw (append-nil xs) e
  condition_unnamed kind xs true [] h e ended = rw (append-nil xs) e
  condition_unnamed kind xs true (r ∷ rs) h e ended =
      let none = faded table false r.line.body r.scan.masked h.0.fades h.0.lacks in
      let more = condition_unnamed kind r.scan.masked r.scan.joins_after rs h.1 none h.0.ended in
      grind (arith, has_word-seam, append-nil, more)

  closing_unnamed : (xs : List ℕ) (goes_on : Bool) (rs : List Reading) → AreLacking table rs →
      has_listed table false xs ≡ false →
      has_listed table false (xs ++ joined_text Closing goes_on rs) ≡ false
  closing_unnamed xs false rs h e = rw (append-nil xs) e
  closing_unnamed xs true [] h e = rw (append-nil xs) e
  closing_unnamed xs true (r ∷ rs) h e =
      let none = faded table false r.line.body r.line.body (all_fade r.line.body) h.0.lacks in
      let more = closing_unnamed r.line.body r.scan.joins_after rs h.1 none in
      grind (arith, has_word-other, append-nil, more)

  -- `AreUnnamed ms`: none of the mentions `ms` names a symbol.
  abbrev AreUnnamed : List Mention → Type 0
  AreUnnamed [] = Unit {0}
  AreUnnamed (m ∷ ms) = (names_listed table m ≡ false) × AreUnnamed ms

  -- The mention that begins on a line, if any, with the lines that it joins.
  abbrev IsUnnamed : Reading → List Reading → Option Mention → Type 0
  IsUnnamed r rs None = Unit {0}
  IsUnnamed r rs (Some m) = names_listed table (with_text m (joined_text m.class (joins_next r) rs))
      ≡ false

  directive_unnamed : (r : Reading) (rs : List Reading) (d : Directive) → IsLacking table r →
      AreLacking table rs → content_of r.scan ≡ directive d →
      IsUnnamed r rs (Some (mention_at r (class_of d.kind) (shown_after r d (class_of d.kind))))
  directive_unnamed r rs d h k e = by d.kind
    where
      f : Front r.scan d
      f = directive_front r.scan d e

      before : List ℕ
      before = (f.white ++ 35 ∷ f.gap) ++ f.word

      is : r.scan.masked ≡ before ++ d.after
      is = grind (arith, f, append_assoc)

      condition : (kind : Kind) → has_listed table false
          (d.after ++ joined_text (Condition kind) (joins_next r) rs) ≡ false
      condition kind = grind (arith, h, k, is, condition_unnamed, rest_faded, ends_rest)

      n : ℕ
      n = length r.scan.masked - length d.after

      closing : has_listed table false (drop n r.line.body ++ joined_text Closing (joins_next r) rs)
          ≡ false
      closing = let rest = rest_faded table r.line.body (take n r.line.body) (drop n r.line.body) in
          grind (arith, h, k, closing_unnamed, rest, take-append-drop, all_fade)

      by : (kind : Kind) → IsUnnamed r rs (Some
          (mention_at r (class_of kind) (shown_after r d (class_of kind))))
      by Else = closing
      by Endif = closing
      by kind = condition kind

  line_unnamed : (r : Reading) (rs : List Reading) → IsLacking table r → AreLacking table rs →
      IsUnnamed r rs (mention_on table r)
  line_unnamed r rs h k = by_fit (fits r.line)
    where
      none : is_definition table r ≡ false
      none = grind (arith, and_right, defines_nothing)

      by : (c : Content) → content_of r.scan ≡ c → IsUnnamed r rs (mention_by table r c)
      by cut_keyword e = tt
      by text e = grind (arith, none)
      by (directive d) e = directive_unnamed r rs d h k e

      by_fit : (f : Bool) → IsUnnamed r rs (if f then mention_by table r (content_of r.scan) else
          None)
      by_fit true = by (content_of r.scan) refl
      by_fit false = tt

  are_unnamed : (inside : Bool) (rs : List Reading) → AreLacking table rs →
      AreUnnamed (mentions_in table inside rs)
  are_unnamed true [] h = tt
  are_unnamed false [] h = tt
  are_unnamed true (r ∷ rs) h = are_unnamed (joins_next r) rs h.1
  are_unnamed false (r ∷ rs) h =
      grind (arith, line_unnamed, are_unnamed (joins_next r) rs h.1, are_unnamed false rs h.1)

-- 6. What is appended: nothing.
unnamed_append : (rows table : List Argument) (name : List ℕ) (ms : List Mention)
    (now : Search) → AreUnnamed table ms → Appends rows table name ms now now
unnamed_append rows table name [] now u = appends_none rows table name now
unnamed_append rows table name (m ∷ ms) now u =
    let more = unnamed_append rows table name ms now u.1 in
    grind (arith, common_steps, appends_more, append-nil, and_right, more)

-- So nothing is appended for such a text.
pub appends_nothing : (rows table : List Argument) (mode : Mode) (name t : List ℕ)
    (now : Search) → LacksNames table t → splits_word false t ≡ false →
    Appends rows table name (mentions_of table mode t) now now
appends_nothing rows table mode name t now h u =
    unnamed_append rows table name (mentions_of table mode t) now
    (are_unnamed table false (read_as mode t) (all_lacking table t h u mode [] 1 [] (texts_of t) tt
    (lines_exist t).joined))
