-- Reading an output again: one line more, which is removed or left.
use Rattle.std.proofs.Common.{◌≡◌, ℕ, suc, List, [], ◌∷◌, ◌++◌, length, map, Bool, true, false, not, ◌⊎◌, inl, inr, refl, sym, ◌∙◌, ap, subst, arith, rules}
use Rattle.std.proofs.lemmas.Bool.{false_from_ne_true}
use Rattle.ud_model.specs.text.Lines.{Line, text_of}
use Rattle.ud_model.specs.text.Scans.{Reading, is_spanning}
use Rattle.ud_model.specs.text.Splicing.{content, stays_open, c_run_of}
use Rattle.ud_model.specs.text.Scanning.{joins, scan_after}
use Rattle.ud_model.specs.aids.LexStates.{LexState, in_text, state_after_line, white_after_line}
use Rattle.ud_model.specs.sections.Directives.{content_of}
use Rattle.ud_model.specs.sections.Tree.{Item, Tree, lines}
use Rattle.ud_model.specs.sections.Pruning.{marks, is_removed}
use Rattle.ud_model.specs.sections.Items.{Options, reading_of, item_of, read_after}
use Rattle.ud_model.specs.sections.Faults.{NoneHolds, cases, ends_removed, is_obfuscated_after, is_cut, ends_in_comment, keeps_rest}
use Rattle.ud_model.specs.answer.Printing.{piece_by, keyword_in}
use Rattle.ud_model.specs.laws.Rereading.{line_bytes}
use Rattle.ud_model.specs.declared.kind.Mode.{Mode}
use Rattle.ud_model.specs.declared.kind.Mode.TheVariants.{C, Plain}
use Rattle.ud_model.specs.declared.verdict.Verdict.{Verdict}
use Rattle.ud_model.specs.declared.verdict.Verdict.TheVariants.{Remove}
use Rattle.ud_model.proofs.sections.Soundness.{reading_of-item_of}
use Rattle.ud_model.proofs.output.Formed.{IsLeft}
use Rattle.ud_model.proofs.output.Heeding.{ReadIn, none_read, one_read}
use Rattle.ud_model.proofs.output.JoinedAlike.{Grows, grows, ends_kept, carried_step, joined_alike, edited_alone}
use Rattle.ud_model.proofs.output.LeftLines.{LeftLine, piece_line}
use Rattle.ud_model.proofs.output.LeftItems.{Left}
use Rattle.ud_model.proofs.output.LeftModes.{left_plain, LeftCode, left_code}
use Rattle.ud_model.proofs.text.LinesLemmas.{text_of-line_at}
use Rattle.ud_model.proofs.output.LeavesOff.{LeavesOff, HasEnd, nowhere, joins_nothing, readings_last, joins_next, leaves_next, leaves_anew}
use Rattle.ud_model.proofs.output.RereadMore.{Again, Between, Carry, alike, gone, Rests, IsLine, last_comment, last_removed, piece_after_all, gone_again, left_again}
use Rattle.ud_model.proofs.text.ScanLaws.{place_after, white_after, joins_before-code}
use Rattle.ud_model.proofs.text.ScanLemmas.{run_of_last}
use Rattle.ud_model.proofs.sections.Stays.{marks_so_far_same, length_marks}
use Rattle.ud_model.proofs.sections.Unique as Trees

-- The output for lines with one more, and the facts between it and the next one.
abbrev Stepped : Options → Mode → List (Item Reading) → Tree Reading → Line → List (Item Reading) → Type 0
Stepped o m xs u l zs = Again o m (xs ++ item_of o (read_after xs m l) ∷ []) u zs × (HasEnd l → Between o m (xs ++ item_of o (read_after xs m l) ∷ []) u zs)

pub goes_or_left : (v : Verdict) → (v ≡ Remove) ⊎ IsLeft v
goes_or_left v = grind arith

pub left_stays : (v : Verdict) → IsLeft v → is_removed v ≡ false
left_stays v h = grind arith

-- In plain mode no lines join.
pub plain_run : (o : Options) (ys : List (Item Reading)) → ReadIn o Plain ys → c_run_of (map reading_of ys) ≡ []
plain_run o _ none_read = refl
plain_run o _ (one_read ys r l) = ap c_run_of (readings_last o ys ys Plain l) ∙ run_of_last (map reading_of ys) (read_after ys Plain l)

plain_calm : (o : Options) (ys : List (Item Reading)) → ReadIn o Plain ys → ends_in_comment ys ≡ false
plain_calm o ys h = grind (arith, last_comment)

-- The facts of one more line.
pub record More (o : Options) (m : Mode) (xs : List (Item Reading)) (t : Tree Reading) (l : Line) (u : Tree Reading) : Type 0 where
  pub grown : Grows true t u (item_of o (read_after xs m l))
  pub more : marks u ≡ marks t ++ grown.mark ∷ []
  pub long : length xs ≡ length (marks t)
  pub unspoiled : is_obfuscated_after (ends_removed (marks t)) (item_of o (read_after xs m l)) grown.mark ≡ false
  pub uncut : is_cut (content_of (scan_after (map reading_of xs) m l)) ≡ false

pub the_more : (o : Options) (m : Mode) (xs : List (Item Reading)) (t : Tree Reading) (l : Line) (u : Tree Reading) → lines t ≡ xs → lines u ≡ xs ++ item_of o (read_after xs m l) ∷ [] →
    NoneHolds xs (item_of o (read_after xs m l)) cases → More o m xs t l u
the_more o m xs t l u q e n = let x : Item Reading = item_of o (read_after xs m l) in
    let g : Grows true t u x = grows true (Trees.grows t u x (e ∙ ap (λ (zs : List (Item Reading)). zs ++ x ∷ []) (sym q))) in
    let more : marks u ≡ marks t ++ g.mark ∷ [] = cc (marks_so_far_same true u, g.more, marks_so_far_same true t) in
    record {
      grown = g;
      more = more;
      long = ap (λ (zs : List (Item Reading)). length zs) (sym q) ∙ sym (length_marks true t);
      unspoiled = false_from_ne_true (is_obfuscated_after (ends_removed (marks t)) x g.mark) (λ h. n.1.1.1.1.1.0 (marks t, g.mark, (u, e, more), h));
      uncut = ap (λ (r : Reading). is_cut (content_of r.scan)) (sym (reading_of-item_of o (read_after xs m l)))
          ∙ false_from_ne_true (is_cut (content_of (reading_of x).scan)) (λ h. n.1.1.0 h);
    }

module _ (o : Options) (m : Mode) (xs : List (Item Reading)) (t : Tree Reading) (ys : List (Item Reading))
    (b : Between o m xs t ys) (l : Line) (u : Tree Reading) (i : IsLine l) (k : More o m xs t l u) where
  abbrev new : Item Reading
  new = item_of o (read_after xs m l)

  abbrev piece : List ℕ
  piece = piece_by o.settings.unpadded k.grown.mark.verdict (keyword_in (content_of (scan_after (map reading_of xs) m l))) l

  abbrev now : Line
  now = piece_after_all ys piece

  now_line : IsLeft k.grown.mark.verdict → LeftLine o.settings.unpadded k.grown.mark.verdict (keyword_in (content_of (scan_after (map reading_of xs) m l))) l now
  now_line h = search (rules, piece_line)

  now_text : text_of now ≡ piece
  now_text = text_of-line_at (suc (length (map (λ (y : Item Reading). line_bytes (reading_of y)) ys))) piece

  goes : k.grown.mark.verdict ≡ Remove → ends_in_comment ys ≡ false → Again o m (xs ++ new ∷ []) u ys
  goes e c = gone_again o m xs t u ys new k.grown.mark k.more k.long b.again e c

  is_left : Left o o.settings.unpadded k.grown.mark.verdict (read_after xs m l) (read_after ys m now) → Again o m (xs ++ new ∷ []) u (ys ++ item_of o (read_after ys m now) ∷ [])
  is_left h = left_again o m xs t u ys new k.grown.mark k.more k.long b.again (read_after xs m l) piece refl h

  removed_is : ends_removed (marks u) ≡ is_removed k.grown.mark.verdict
  removed_is = ap ends_removed k.more ∙ last_removed (marks t) k.grown.mark

-- 1. In plain mode.

plain_between : (o : Options) (xs : List (Item Reading)) (u : Tree Reading) (l : Line) (zs : List (Item Reading)) → Again o Plain (xs ++ item_of o (read_after xs Plain l) ∷ []) u zs →
    Stepped o Plain xs u l zs
plain_between o xs u l zs a =
    let x : List (Item Reading) = xs ++ item_of o (read_after xs Plain l) ∷ [] in
    let none = ap c_run_of (readings_last o xs xs Plain l) ∙ run_of_last (map reading_of xs) (read_after xs Plain l) in
    let empty : LeavesOff zs in_text true false = nowhere zs (plain_run o zs a.read) in (
      a,
      λ h. record {
        again = a;
        carry = alike in_text true false (nowhere x none) empty (λ e. cc) (λ e. record { off = empty; calm = plain_calm o zs a.read });
        carried = λ j. absurd (joins_nothing x none j);
      },
    )

plain_step : (o : Options) (xs : List (Item Reading)) (t : Tree Reading) (ys : List (Item Reading))
    (b : Between o Plain xs t ys) (l : Line) (u : Tree Reading) (i : IsLine l) (k : More o Plain xs t l u) →
    (zs : List (Item Reading)) × Stepped o Plain xs u l zs
plain_step o xs t ys b l u i k = go (goes_or_left k.grown.mark.verdict)
  where
    go : (k.grown.mark.verdict ≡ Remove) ⊎ IsLeft k.grown.mark.verdict → (zs : List (Item Reading)) × Stepped o Plain xs u l zs
    go (inl e) = (ys, plain_between o xs u l ys (goes o Plain xs t ys b l u i k e (plain_calm o ys b.again.read)))
    go (inr h) =
        let n : Line = now o Plain xs t ys b l u i k in (
          ys ++ item_of o (read_after ys Plain n) ∷ [],
          plain_between o xs u l (ys ++ item_of o (read_after ys Plain n) ∷ [])
              (is_left o Plain xs t ys b l u i k
              (left_plain o o.settings.unpadded xs ys l n k.grown.mark.verdict h k.grown.suits k.uncut (now_line o Plain xs t ys b l u i k h) (now_text o Plain xs t ys b l u i k))),
        )

-- 2. In C mode.

gone_on : (o : Options) (xs ys : List (Item Reading)) (w : LexState) (white on : Bool) (l : Line) → LeavesOff xs w white on → Rests ys → HasEnd l →
    (j : Bool) → (scan_after (map reading_of xs) C l).joins_after ≡ j → Carry true (xs ++ item_of o (read_after xs C l) ∷ []) ys
gone_on o xs ys w white on l a r h true e =
    gone (state_after_line (stays_open l) (place_after w (content l))) (white_after_line (stays_open l) (place_after w (content l)) (white_after w white (content l)))
    (subst (λ (j : Bool). LeavesOff (xs ++ item_of o (read_after xs C l) ∷ []) (state_after_line (stays_open l) (place_after w (content l)))
    (white_after_line (stays_open l) (place_after w (content l)) (white_after w white (content l))) j) e (leaves_next o xs w white on l a)) r refl
gone_on o xs ys w white on l a r h false e = alike in_text true false (leaves_anew o xs l e h) r.off (λ f. cc) (λ f. r)

module _ (o : Options) (xs : List (Item Reading)) (t : Tree Reading) (ys : List (Item Reading)) (b : Between o C xs t ys)
    (l : Line) (u : Tree Reading) (i : IsLine l) (k : More o C xs t l u) where
  abbrev line_new : Item Reading
  line_new = item_of o (read_after xs C l)

  line_reading : reading_of line_new ≡ read_after xs C l
  line_reading = reading_of-item_of o (read_after xs C l)

  -- If the line before joins this one, both are removed or both stay.
  both_alike : joins (c_run_of (map reading_of xs)) ≡ true → is_removed k.grown.mark.verdict ≡ ends_removed (marks t)
  both_alike j = grind (arith, joined_alike, line_reading, joins_before-code)

  -- An edited line, but for one to an `#if`, is alone.
  is_alone : IsLeft k.grown.mark.verdict → keeps_rest k.grown.mark.verdict ≡ false → is_spanning (scan_after (map reading_of xs) C l) ≡ false
  is_alone h e = grind (arith, line_reading, edited_alone)

  carried_on : joins (c_run_of (map reading_of (xs ++ line_new ∷ []))) ≡ true → ends_removed (marks u) ≡ not (ends_kept true u)
  carried_on j = removed_is o C xs t ys b l u i k
      ∙ carried_step (ends_removed (marks t)) k.grown.does k.unspoiled (ap (λ (r : Reading). r.scan.joins_after) line_reading ∙ joins_next o xs l ∙ j)

  -- The line is removed.
  code_gone : (w : LexState) (white on : Bool) → LeavesOff xs w white on → Rests ys → k.grown.mark.verdict ≡ Remove → (zs : List (Item Reading)) × Stepped o C xs u l zs
  code_gone w white on a r e =
      let again : Again o C (xs ++ line_new ∷ []) u ys = goes o C xs t ys b l u i k e r.calm in (
        ys,
        (
          again,
          λ h. record {
            again = again;
            carry = subst (λ (g : Bool). Carry g (xs ++ line_new ∷ []) ys) (sym (removed_is o C xs t ys b l u i k ∙ ap is_removed e))
                (gone_on o xs ys w white on l a r h (scan_after (map reading_of xs) C l).joins_after refl);
            carried = carried_on;
          },
        ),
      )

  -- The line is left.
  code_left : (w : LexState) (white on : Bool) → LeavesOff xs w white on → LeavesOff ys w white on → IsLeft k.grown.mark.verdict → (zs : List (Item Reading)) × Stepped o C xs u l zs
  code_left w white on a c h = let n : Line = now o C xs t ys b l u i k in
      let line = now_line o C xs t ys b l u i k h in
      let f : LeftCode o o.settings.unpadded xs ys w white on a c l n line.ending k.grown.mark.verdict = search (rules, left_code, is_alone, now_text) in
      let again = is_left o C xs t ys b l u i k f.left in (
        ys ++ item_of o (read_after ys C n) ∷ [],
        (
          again,
          λ e. record {
            again = again;
            carry = subst (λ (g : Bool). Carry g (xs ++ line_new ∷ []) (ys ++ item_of o (read_after ys C n) ∷ []))
                (sym (removed_is o C xs t ys b l u i k ∙ left_stays k.grown.mark.verdict h)) (f.carry e);
            carried = carried_on;
          },
        ),
      )

  -- If this line is removed, the one before joins nothing or is removed.
  pub stayed_alone : (w : LexState) (white on : Bool) → LeavesOff xs w white on → (on ≡ true → ends_removed (marks t) ≡ false) → k.grown.mark.verdict ≡ Remove → on ≡ false
  stayed_alone w white on a f e = grind (arith, both_alike)

  code_by : Carry (ends_removed (marks t)) xs ys → (k.grown.mark.verdict ≡ Remove) ⊎ IsLeft k.grown.mark.verdict → (zs : List (Item Reading)) × Stepped o C xs u l zs
  code_by (alike w white on a c f r) (inl e) = code_gone w white on a (r (stayed_alone w white on a f e)) e
  code_by (alike w white on a c f r) (inr h) = code_left w white on a c h
  code_by (gone w white a r e) (inl f) = code_gone w white true a r f
  code_by (gone w white a r e) (inr h) = grind (arith, both_alike)

  code_step : (zs : List (Item Reading)) × Stepped o C xs u l zs
  code_step = code_by b.carry (goes_or_left k.grown.mark.verdict)

-- The output for lines and the item that is left of one more are the output for them with it, read
-- again. Between it and the next line the same facts are known as before.
pub step : (o : Options) (m : Mode) (xs : List (Item Reading)) (t : Tree Reading) → lines t ≡ xs →
    (ys : List (Item Reading)) → Between o m xs t ys → (l : Line) (u : Tree Reading) → IsLine l →
    lines u ≡ xs ++ item_of o (read_after xs m l) ∷ [] → NoneHolds xs (item_of o (read_after xs m l)) cases →
    (zs : List (Item Reading)) × Again o m (xs ++ item_of o (read_after xs m l) ∷ []) u zs
    × (HasEnd l → Between o m (xs ++ item_of o (read_after xs m l) ∷ []) u zs)
step o Plain xs t q ys b l u i e n = let s = plain_step o xs t ys b l u i (the_more o Plain xs t l u q e n) in (s.0, s.1.0, s.1.1)
step o C xs t q ys b l u i e n = let s = code_step o xs t ys b l u i (the_more o C xs t l u q e n) in (s.0, s.1.0, s.1.1)
