-- Counted lines: under `-n` and `-b` each line of the output has its own number, by counting on and
-- by the inserted lines.
use Rattle.std.proofs.Common.{◌≡◌, ◌≢◌, ℕ, suc, ◌^◌, ◌<◌, List, [], ◌∷◌, ◌++◌, length, map, Bool, true, false, ◌||◌, if◌then◌else◌, ◌⊎◌, inl, inr, refl, sym, ◌∙◌, ap, ap₂, subst, append_assoc, append-nil, length-append, arith, rules}
use Rattle.std.specs.List.{concat}
use Rattle.std.proofs.lemmas.List.Folds.{concat-append}
use Rattle.std.proofs.lemmas.List.{map-append}
use Rattle.ud_model.specs.text.Lines.{Line, numbered_from, ending_of, IsWhole, IsUnterminated, AreWhole, AreFormed}
use Rattle.ud_model.specs.text.Scans.{Reading}
use Rattle.ud_model.specs.aids.LexStates.{in_text}
use Rattle.ud_model.specs.sections.Directives.{Span, content_of}
use Rattle.ud_model.specs.sections.Tree.{Item, Tree, nothing, closed, lines}
use Rattle.ud_model.specs.sections.Pruning.{Mark, marks, is_removed}
use Rattle.ud_model.specs.sections.Items.{Options, reading_of, line_of, item_of, read_after}
use Rattle.ud_model.specs.sections.Faults.{NoneHolds, cases, ends_removed}
use Rattle.ud_model.specs.answer.Printing.{Judged, piece_by, pieces_by, last_removed, judged_line, judged_lines, keyword_in, number_line, ending_or_newline}
use Rattle.ud_model.specs.laws.Pruned.{Edited, kept_line, printed}
use Rattle.ud_model.specs.laws.Rereading.{line_bytes}
use Rattle.ud_laws.specs.output.InsertedLines.{IsPrinted, Counted, no_line, goes, blanked, counts_on, starts_anew}
use Rattle.ud_model.specs.declared.kind.Mode.{Mode}
use Rattle.ud_model.specs.declared.kind.Mode.TheVariants.{C, Plain}
use Rattle.ud_model.specs.declared.verdict.Verdict.{Verdict}
use Rattle.ud_model.specs.declared.verdict.Verdict.TheVariants.{Remove}
use Rattle.ud_model.proofs.text.LinesLemmas.{numbered_from-next, text_of-line_at, formed, last_line-some}
use Rattle.ud_model.proofs.answer.PrintingLemmas.{printed-more}
use Rattle.ud_model.proofs.answer.Onward.{judged_more}
use Rattle.ud_model.proofs.sections.Soundness.{reading_of-item_of}
use Rattle.ud_model.proofs.output.Formed.{IsLeft, IsEnd, ending_none, whole_ending, whole_piece, unended_piece, end_is_some}
use Rattle.ud_model.proofs.output.Heeding.{ReadIn, none_read, one_read}
use Rattle.ud_model.proofs.output.LeavesOff.{LeavesOff, HasEnd, nowhere, readings_last}
use Rattle.ud_laws.proofs.output.LoneLines.{IsQuiet, number_quiet, quiet_whole, says_number, says_quiet, quiet_line}
use Rattle.ud_model.proofs.output.OutputPieces.{LeftOne, left_one}
use Rattle.ud_model.proofs.output.PrintedPruned.{printed-append}
use Rattle.ud_model.proofs.output.RereadLaws.{left_piece, item_bytes}
use Rattle.ud_model.proofs.output.RereadMore.{last_removed as last_removed_mark, Again, Between, Carry, alike, gone, IsLine, start}
use Rattle.ud_model.proofs.output.RereadStep.{More, the_more, step, plain_run, stayed_alone, goes_or_left, left_stays}
use Rattle.ud_laws.proofs.output.Inserting.{Weave, line_after, with_line, are_more, put, put_lone}
use Rattle.ud_laws.proofs.output.Inserting.{left, left_seen, lines_last, read_once, piece_of}
use Rattle.ud_laws.proofs.output.Inserting.{gone_blank, gone_nothing, removed_last}

-- 1. The positions at which lines are inserted.

module _ (o : Options) (xs : List (Item Reading)) (t : Tree Reading) (ys : List (Item Reading)) where
  -- After a removed line the output ends between lines.
  rests_after : (m : Mode) → Between o m xs t ys → ends_removed (marks t) ≡ true → LeavesOff ys in_text true false
  rests_after m b e = grind arith

  -- It does so where a line is removed, too.
  rests_at : (m : Mode) (b : Between o m xs t ys) (l : Line) (u : Tree Reading) → IsLine l → (k : More o m xs t l u) → k.grown.mark.verdict ≡ Remove → LeavesOff ys in_text true false
  rests_at Plain b l u i k e = nowhere ys (plain_run o ys b.again.read)
  rests_at C b l u i k e = by_carry b.carry
    where
      by_carry : Carry (ends_removed (marks t)) xs ys → LeavesOff ys in_text true false
      by_carry (alike w white on a c f r) = (r (stayed_alone o xs t ys b l u i k w white on a f e)).off
      by_carry (gone w white a r g) = r.off

-- 2. The output for one line more.

bytes_of : List (Item Reading) → List (List ℕ)
bytes_of ys = map (λ y. line_bytes (reading_of y)) ys

module _ (o : Options) (m : Mode) (xs : List (Item Reading)) (x : Item Reading) (t u : Tree Reading) (ys zs : List (Item Reading)) (mark : Mark)
    (more : marks u ≡ marks t ++ mark ∷ []) (long : length xs ≡ length (marks t)) (a : Again o m xs t ys) (b : Again o m (xs ++ x ∷ []) u zs) where
  bytes_next : bytes_of zs ≡ bytes_of ys ++ map (left_piece o.settings.unpadded) (kept_line mark.verdict x)
  unfolding bytes_of
  bytes_next = item_bytes o.settings.unpadded zs (printed (xs ++ x ∷ []) (marks u)) b.same
      ∙ ap (λ (ms : List Mark). map (left_piece o.settings.unpadded) (printed (xs ++ x ∷ []) ms)) more
      ∙ ap (λ (ws : List (Item (Edited Reading))). map (left_piece o.settings.unpadded) ws) (printed-append xs (x ∷ []) (marks t) (mark ∷ []) long)
      ∙ ap (λ (ws : List (Item (Edited Reading))). map (left_piece o.settings.unpadded) (printed xs (marks t) ++ ws)) (append-nil (kept_line mark.verdict x))
      ∙ map-append (left_piece o.settings.unpadded) (printed xs (marks t)) (kept_line mark.verdict x)
      ∙ ap (λ (bs : List (List ℕ)). bs ++ map (left_piece o.settings.unpadded) (kept_line mark.verdict x)) (sym (item_bytes o.settings.unpadded ys (printed xs (marks t)) a.same))

  lines_next : map line_of zs ≡ numbered_from 1 (bytes_of ys ++ map (left_piece o.settings.unpadded) (kept_line mark.verdict x))
  unfolding bytes_of
  lines_next = b.numbered ∙ ap (λ (bs : List (List ℕ)). numbered_from 1 bs) bytes_next

  -- Nothing is added for it.
  same_items : mark.verdict ≡ Remove → zs ≡ ys
  unfolding bytes_of
  same_items e = grind (arith, read_once, lines_next, append-nil)

  -- Its piece is added.
  one_more_item : IsLeft mark.verdict → zs ≡ with_line o m ys (line_after (bytes_of ys) (piece_by o.settings.unpadded mark.verdict (keyword_in (content_of (reading_of x).scan)) (line_of x)))
  unfolding bytes_of LeftOne
  one_more_item h = by_one (left_one o.settings.unpadded mark.verdict x)
    where
      p : List ℕ
      p = piece_by o.settings.unpadded mark.verdict (keyword_in (content_of (reading_of x).scan)) (line_of x)

      by_one : (mark.verdict ≡ Remove) ⊎ LeftOne o.settings.unpadded mark.verdict x → zs ≡ with_line o m ys (line_after (bytes_of ys) p)
      by_one (inl e) = absurd (subst IsLeft e h)
      by_one (inr (y, is, bytes, left)) =
          read_once o m zs (with_line o m ys (line_after (bytes_of ys) p)) b.read (one_read ys a.read (line_after (bytes_of ys) p))
          (lines_next ∙ ap (λ (ws : List (Item (Edited Reading))). numbered_from 1 (bytes_of ys ++ map (left_piece o.settings.unpadded) ws)) is
          ∙ ap (λ (q : List ℕ). numbered_from 1 (bytes_of ys ++ q ∷ [])) bytes
          ∙ numbered_from-next (bytes_of ys) p [] ∙ ap (λ (ls : List Line). ls ++ line_after (bytes_of ys) p ∷ []) (sym a.numbered)
          ∙ sym (lines_last o ys m (line_after (bytes_of ys) p)))

-- 3. Texts of lines.

concat_more : (qs : List (List ℕ)) (q : List ℕ) → concat (qs ++ q ∷ []) ≡ concat qs ++ q
concat_more qs q = concat-append qs (q ∷ []) ∙ ap (λ (p : List ℕ). concat qs ++ p) (append-nil q)

whole_more : (qs : List (List ℕ)) (q : List ℕ) → AreWhole qs → IsWhole q → AreWhole (qs ++ q ∷ [])
whole_more [] q a w = (w, tt)
whole_more (p ∷ qs) q a w = (a.0, whole_more qs q a.1 w)

formed_all : (qs : List (List ℕ)) → AreWhole qs → AreFormed qs
formed_all qs a = subst AreFormed (append-nil qs) (formed qs [] a tt)

formed_last : (qs : List (List ℕ)) (q : List ℕ) → AreWhole qs → IsUnterminated q → AreFormed (qs ++ q ∷ [])
formed_last qs q a w = subst (λ (rs : List (List ℕ)). AreFormed (qs ++ rs)) (last_line-some q w.0) (formed qs q a w.1)

feed_end : (e : List ℕ) → IsEnd e ⊎ (e ≡ []) → IsEnd (ending_or_newline e)
feed_end e h = grind arith

-- The ending of a line that was cut from a text.
ends_or_not : (l : Line) → IsLine l → IsEnd l.ending ⊎ (l.ending ≡ [])
ends_or_not l h = grind arith

piece_whole : (v : Verdict) (k : Span) (l : Line) → IsLine l → HasEnd l → IsLeft v → IsWhole (piece_by false v k l)
piece_whole v k l (n, t, e, inl w) h left = subst (λ (j : Line). IsWhole (piece_by false v k j)) (sym e) (whole_piece false v k n t left w)
piece_whole v k l (n, t, e, inr w) h left = absurd (h (ap (λ (k : Line). k.ending) e ∙ ending_none t w.1))

some_ending : (t : List ℕ) → IsWhole t → ending_of t ≢ []
some_ending t w = end_is_some (ending_of t) (whole_ending t w)

piece_unended : (v : Verdict) (k : Span) (l : Line) → IsLine l → l.ending ≡ [] → IsLeft v → IsUnterminated (piece_by false v k l)
piece_unended v k l h g left = grind (arith, some_ending, unended_piece)

-- 4. The lines, one at a time.

module _ (o : Options) (m : Mode) (b n : Bool) (some : (b || n) ≡ true) (padded : o.settings.unpadded ≡ false) where
  abbrev pub so_far : List (Item Reading) → Tree Reading → List Judged
  so_far xs t = judged_lines xs (marks t)

  abbrev pub shown : List Judged → List ℕ
  shown js = concat (pieces_by (piece_of b n) [] js)

  -- The facts between two lines, the last of which has an ending.
  pub record State (xs : List (Item Reading)) (t : Tree Reading) : Type 0 where
    pub ys : List (Item Reading)
    pub between : Between o m xs t ys
    pub zs : List (Item Reading)
    pub qs : List (List ℕ)
    pub weave : Weave o m ys zs qs
    pub whole : AreWhole qs
    pub same : concat qs ≡ shown (so_far xs t)
    pub next : ℕ
    pub counted : Counted (so_far xs t) (map reading_of ys) (map reading_of zs) next
    pub on : (b ≡ true) ⊎ (ends_removed (marks t) ≡ false) → next ≡ suc (length xs)

  -- The facts after the last line.
  pub record Done (xs : List (Item Reading)) (t : Tree Reading) : Type 0 where
    pub ys : List (Item Reading)
    pub again : Again o m xs t ys
    pub zs : List (Item Reading)
    pub read : ReadIn o m zs
    pub qs : List (List ℕ)
    pub formed : AreFormed qs
    pub are : map line_of zs ≡ numbered_from 1 qs
    pub same : concat qs ≡ shown (so_far xs t)
    pub next : ℕ
    pub counted : Counted (so_far xs t) (map reading_of ys) (map reading_of zs) next

  pub done : (xs : List (Item Reading)) (t : Tree Reading) → State xs t → Done xs t
  done xs t s = grind (arith, formed_all)

  pub first_state : State [] (closed nothing)
  first_state = record {
    ys = [];
    between = start o m;
    zs = [];
    qs = [];
    weave = record {
      place = in_text;
      white = true;
      on = false;
      first = nowhere [] refl;
      second = nowhere [] refl;
      rests = λ e. nowhere [] refl;
      read = none_read;
      are = refl;
    };
    whole = tt;
    same = refl;
    next = 1;
    counted = no_line;
    on = λ e. refl;
  }

  module _ (xs : List (Item Reading)) (t : Tree Reading) (q : lines t ≡ xs) (s : State xs t) (l : Line) (u : Tree Reading) (num : l.number ≡ suc (length xs))
      (small : l.number < 2 ^ 64) (e : lines u ≡ xs ++ item_of o (read_after xs m l) ∷ []) (nh : NoneHolds xs (item_of o (read_after xs m l)) cases) (i : IsLine l) where
    abbrev x : Item Reading
    x = item_of o (read_after xs m l)

    k : More o m xs t l u
    k = the_more o m xs t l u q e nh

    abbrev v : Verdict
    v = k.grown.mark.verdict

    abbrev j : Judged
    j = judged_line x k.grown.mark

    line_j : j.line ≡ l
    line_j = ap (λ (r : Reading). r.line) (reading_of-item_of o (read_after xs m l))

    js_u : so_far (xs ++ x ∷ []) u ≡ so_far xs t ++ j ∷ []
    js_u = search (rules, judged_more)

    shown_u : shown (so_far (xs ++ x ∷ []) u) ≡ shown (so_far xs t) ++ piece_of b n (so_far xs t) j
    shown_u = ap shown js_u ∙ printed-more (piece_of b n) (so_far xs t) j

    removed_t : last_removed (so_far xs t) ≡ ends_removed (marks t)
    removed_t = removed_last xs (marks t) k.long

    after : suc j.line.number ≡ suc (length (xs ++ x ∷ []))
    after = grind (arith, line_j, length-append)

    -- The count is at the line's own number.
    counts : s.next ≡ suc (length xs) → Counted (so_far xs t) (map reading_of s.ys) (map reading_of s.zs) j.line.number
    counts f = subst (Counted (so_far xs t) (map reading_of s.ys) (map reading_of s.zs)) (f ∙ sym num ∙ sym (ap (λ (d : Line). d.number) line_j)) s.counted

    stepped : (zs : List (Item Reading)) × Again o m (xs ++ x ∷ []) u zs × (HasEnd l → Between o m (xs ++ x ∷ []) u zs)
    stepped = step o m xs t q s.ys s.between l u i e nh

    -- The facts where the line is printed: the lines before it.
    record Ready : Type 0 where
      pub zs : List (Item Reading)
      pub qs : List (List ℕ)
      pub weave : Weave o m s.ys zs qs
      pub whole : AreWhole qs
      pub same : concat qs ++ piece_by false j.verdict j.keyword j.line ≡ shown (so_far (xs ++ x ∷ []) u)
      pub count : (r p : Reading) → IsPrinted j r p → Counted (so_far (xs ++ x ∷ []) u) (map reading_of s.ys ++ r ∷ []) (map reading_of zs ++ p ∷ []) (suc j.line.number)

    -- Nothing is inserted.
    ready_plain : s.next ≡ suc (length xs) → piece_of b n (so_far xs t) j ≡ piece_by false j.verdict j.keyword j.line → Ready
    ready_plain f g = record {
      zs = s.zs;
      qs = s.qs;
      weave = s.weave;
      whole = s.whole;
      same = ap₂ (λ (a c : List ℕ). a ++ c) s.same (sym g) ∙ sym shown_u;
      count = λ r p h. subst (λ (js : List Judged). Counted js (map reading_of s.ys ++ r ∷ []) (map reading_of s.zs ++ p ∷ []) (suc j.line.number)) (sym js_u)
          (counts_on j (counts f) r p h);
    }

    -- A number is inserted.
    ready_number : ends_removed (marks t) ≡ true → piece_of b n (so_far xs t) j ≡ number_line j.line ++ piece_by false j.verdict j.keyword j.line → Ready
    ready_number f g =
        let rest : LeavesOff s.ys in_text true false = rests_after o xs t s.ys m s.between f in
        let d : List ℕ = number_line j.line in
        let end = feed_end j.line.ending (ends_or_not j.line (subst IsLine (sym line_j) i)) in
        let few : j.line.number < 2 ^ 64 = subst (λ (z : Line). z.number < 2 ^ 64) (sym line_j) small in
        let cut = number_quiet (suc (length s.qs)) j.line end few in
        let quiet : IsQuiet (line_after s.qs d) =
        subst IsQuiet (sym cut) (record { quiet = says_quiet j.line.number few; end = end }) in
        let w = put o m s.ys s.zs s.qs s.weave rest d quiet in
        let z : Reading = read_after s.zs m (line_after s.qs d) in
        record {
          zs = with_line o m s.zs (line_after s.qs d);
          qs = s.qs ++ d ∷ [];
          weave = w;
          whole = whole_more s.qs d s.whole (quiet_whole (says_number j.line.number) (ending_or_newline j.line.ending) (says_quiet j.line.number few) end);
          same = cc (concat_more s.qs d, append_assoc (concat s.qs) d (piece_by false j.verdict j.keyword j.line), s.same, g, shown_u);
          count = λ r p h. subst
              (λ (js : List Judged). Counted js (map reading_of s.ys ++ r ∷ [])
              (map reading_of (with_line o m s.zs (line_after s.qs d)) ++ p ∷ []) (suc j.line.number)) (sym js_u)
              (subst (λ (rs : List Reading). Counted (so_far xs t ++ j ∷ []) (map reading_of s.ys ++ r ∷ [])
              (rs ++ p ∷ []) (suc j.line.number)) (sym (readings_last o s.zs s.zs m (line_after s.qs d)))
              (starts_anew s.counted j z (ap (λ (y : Line). y.body) cut, put_lone o m s.ys s.zs s.qs s.weave rest d quiet) r p h));
        }

    number_by : (c : Bool) → b ≡ false → c ≡ n → n ≡ true
    number_by c f g = subst (λ (d : Bool). (d || n) ≡ true) f some

    ready : IsLeft v → Ready
    ready h = by_style b refl
      where
        blank_piece : b ≡ true → piece_of b n (so_far xs t) j ≡ piece_by false j.verdict j.keyword j.line
        blank_piece f = ap (λ (c : Bool). piece_of c n (so_far xs t) j) f ∙ (grind arith)

        number_piece : b ≡ false → (r : Bool) → last_removed (so_far xs t) ≡ r →
            piece_of b n (so_far xs t) j ≡ (if r then number_line j.line else []) ++ piece_by false j.verdict j.keyword j.line
        number_piece f r g = grind arith

        by_removed : b ≡ false → (r : Bool) → ends_removed (marks t) ≡ r → Ready
        by_removed f true g = ready_number g (number_piece f true (removed_t ∙ g))
        by_removed f false g = ready_plain (s.on (inr g)) (number_piece f false (removed_t ∙ g))

        by_style : (c : Bool) → b ≡ c → Ready
        by_style true f = ready_plain (s.on (inl f)) (blank_piece f)
        by_style false f = by_removed f (ends_removed (marks t)) refl

    -- The line in both outputs.
    abbrev p : List ℕ
    p = piece_by false j.verdict j.keyword j.line

    printed_here : (h : IsLeft v) (r : Ready) → IsPrinted j (read_after s.ys m (line_after (bytes_of s.ys) p)) (read_after r.zs m (line_after r.qs p))
    printed_here h r = search (rules, left_stays, text_of-line_at, left_seen)

    counted_here : (h : IsLeft v) (r : Ready) →
        Counted (so_far (xs ++ x ∷ []) u) (map reading_of (with_line o m s.ys (line_after (bytes_of s.ys) p))) (map reading_of (with_line o m r.zs (line_after r.qs p))) (suc j.line.number)
    counted_here h r = grind (arith, readings_last, printed_here)

    items_left : IsLeft v → stepped.0 ≡ with_line o m s.ys (line_after (bytes_of s.ys) p)
    items_left h = grind (arith, one_more_item, stepped, k)

    items_gone : v ≡ Remove → stepped.0 ≡ s.ys
    items_gone f = same_items o m xs x t u s.ys stepped.0 k.grown.mark k.more k.long s.between.again stepped.1 f

    -- The case of a line that is left and has an ending.
    left_state : HasEnd l → IsLeft v → State (xs ++ x ∷ []) u
    left_state end h = let r : Ready = ready h in
        let pw = piece_whole j.verdict j.keyword j.line (subst IsLine (sym line_j) i) (subst HasEnd (sym line_j) end) h in
        record {
          ys = with_line o m s.ys (line_after (bytes_of s.ys) p);
          between = subst (λ (ws : List (Item Reading)). Between o m (xs ++ x ∷ []) u ws) (items_left h) (stepped.2 end);
          zs = with_line o m r.zs (line_after r.qs p);
          qs = r.qs ++ p ∷ [];
          weave = left o m s.ys r.zs r.qs r.weave s.between.again.read (suc (length (bytes_of s.ys))) p (some_ending p pw);
          whole = whole_more r.qs p r.whole pw;
          same = concat_more r.qs p ∙ r.same;
          next = suc j.line.number;
          counted = counted_here h r;
          on = λ f. after;
        }

    -- The case of the last line, without an ending.
    left_done : l.ending ≡ [] → IsLeft v → Done (xs ++ x ∷ []) u
    left_done none h = let r : Ready = ready h in
        record {
          ys = with_line o m s.ys (line_after (bytes_of s.ys) p);
          again = subst (λ (ws : List (Item Reading)). Again o m (xs ++ x ∷ []) u ws) (items_left h) stepped.1;
          zs = with_line o m r.zs (line_after r.qs p);
          read = one_read r.zs r.weave.read (line_after r.qs p);
          qs = r.qs ++ p ∷ [];
          formed = formed_last r.qs p r.whole (piece_unended j.verdict j.keyword j.line (subst IsLine (sym line_j) i) (ap (λ (z : Line). z.ending) line_j ∙ none) h);
          are = are_more o m s.ys r.zs r.qs r.weave p;
          same = concat_more r.qs p ∙ r.same;
          next = suc j.line.number;
          counted = counted_here h r;
        }

    removed_j : v ≡ Remove → is_removed j.verdict ≡ true
    removed_j f = ap is_removed f

    removed_u : v ≡ Remove → ends_removed (marks u) ≡ true
    removed_u f = ap ends_removed k.more ∙ last_removed_mark (marks t) k.grown.mark ∙ ap is_removed f

    -- Nothing is printed for it.
    counted_gone : v ≡ Remove → Counted (so_far (xs ++ x ∷ []) u) (map reading_of s.ys) (map reading_of s.zs) s.next
    counted_gone f = subst (λ (js : List Judged). Counted js (map reading_of s.ys) (map reading_of s.zs) s.next) (sym js_u) (goes s.counted j (removed_j f))

    same_gone : piece_of b n (so_far xs t) j ≡ [] → concat s.qs ≡ shown (so_far (xs ++ x ∷ []) u)
    same_gone g = search (rules, append-nil, shown_u)

    not_blank : b ≡ false → v ≡ Remove → (b ≡ true) ⊎ (ends_removed (marks u) ≡ false) → ⊥
    not_blank f g h = grind (arith, removed_u)

    gone_state : HasEnd l → v ≡ Remove → State (xs ++ x ∷ []) u
    gone_state end f = by_style b refl
      where
        btw : Between o m (xs ++ x ∷ []) u s.ys
        btw = subst (λ (ws : List (Item Reading)). Between o m (xs ++ x ∷ []) u ws) (items_gone f) (stepped.2 end)

        put_blank : b ≡ true → State (xs ++ x ∷ []) u
        put_blank g = let d : List ℕ = j.line.ending in
            let de : IsEnd d = subst (λ (z : Line). IsEnd z.ending) (sym line_j) (has_end (ends_or_not l i)) in
            let cut = quiet_line (suc (length s.qs)) [] d tt de in
            let quiet : IsQuiet (line_after s.qs d) = subst IsQuiet (sym cut) (record { quiet = tt; end = de }) in
            let rest : LeavesOff s.ys in_text true false = rests_at o xs t s.ys m s.between l u i k f in
            record {
              ys = s.ys;
              between = btw;
              zs = with_line o m s.zs (line_after s.qs d);
              qs = s.qs ++ d ∷ [];
              weave = put o m s.ys s.zs s.qs s.weave rest d quiet;
              whole = whole_more s.qs d s.whole (quiet_whole [] d tt de);
              same = cc (concat_more s.qs d, s.same, g, gone_blank n (so_far xs t) j f, shown_u);
              next = suc j.line.number;
              counted = subst (λ (js : List Judged). Counted js (map reading_of s.ys) (map reading_of (with_line o m s.zs (line_after s.qs d))) (suc j.line.number)) (sym js_u)
                  (subst (λ (rs : List Reading). Counted (so_far xs t ++ j ∷ []) (map reading_of s.ys) rs (suc j.line.number)) (sym (readings_last o s.zs s.zs m (line_after s.qs d)))
                  (blanked j (counts (s.on (inl g))) (removed_j f) (read_after s.zs m (line_after s.qs d))
                  (ap (λ (y : Line). y.body) cut, put_lone o m s.ys s.zs s.qs s.weave rest d quiet)));
              on = λ h. after;
            }
          where
            has_end : IsEnd l.ending ⊎ (l.ending ≡ []) → IsEnd l.ending
            has_end h = grind arith

        by_style : (c : Bool) → b ≡ c → State (xs ++ x ∷ []) u
        by_style c g = grind (arith, put_blank, btw, same_gone, counted_gone, not_blank)

    gone_done : l.ending ≡ [] → v ≡ Remove → Done (xs ++ x ∷ []) u
    gone_done none f = record {
      ys = s.ys;
      again = subst (λ (ws : List (Item Reading)). Again o m (xs ++ x ∷ []) u ws) (items_gone f) stepped.1;
      zs = s.zs;
      read = s.weave.read;
      qs = s.qs;
      formed = formed_all s.qs s.whole;
      are = s.weave.are;
      same = same_gone (gone_nothing b n (so_far xs t) j f (ap (λ (z : Line). z.ending) line_j ∙ none));
      next = s.next;
      counted = counted_gone f;
    }

    pub next_state : HasEnd l → State (xs ++ x ∷ []) u
    next_state end = grind (arith, goes_or_left, gone_state, left_state)

    pub next_done : Done (xs ++ x ∷ []) u
    next_done = by_ending (ends_or_not l i) (goes_or_left v)
      where
        by_ending : IsEnd l.ending ⊎ (l.ending ≡ []) → (v ≡ Remove) ⊎ IsLeft v → Done (xs ++ x ∷ []) u
        by_ending h w = grind (arith, done, next_state, end_is_some, gone_done, left_done)
