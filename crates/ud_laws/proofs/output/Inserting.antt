-- Inserting: the lines that `-b` and `-n` insert come between logical lines, so each other line is
-- scanned as without them.
use Rattle.std.proofs.Common.{◌≡◌, ◌≢◌, ℕ, suc, List, [], ◌∷◌, ◌++◌, length, map, Bool, true, false, refl, sym, ◌∙◌, ap, ap₂, subst, arith}
use Rattle.std.proofs.lemmas.List.{map-append, same_from_push}
use Rattle.ud_model.specs.text.Lines.{Line, line_at, numbered_from, ending_of}
use Rattle.ud_model.specs.text.Scans.{Reading}
use Rattle.ud_model.specs.text.Splicing.{content, stays_open}
use Rattle.ud_model.specs.text.Scanning.{scan_after}
use Rattle.ud_model.specs.aids.LexStates.{LexState, in_text, state_after_line, white_after_line}
use Rattle.ud_model.specs.sections.Tree.{Item}
use Rattle.ud_model.specs.sections.Pruning.{Mark}
use Rattle.ud_model.specs.sections.Items.{Options, reading_of, line_of, item_of, read_after}
use Rattle.ud_model.specs.sections.Faults.{ends_removed}
use Rattle.ud_model.specs.answer.Printing.{Judged, Style, piece_after, last_removed, judged_lines}
use Rattle.ud_laws.specs.output.InsertedLines.{IsLone}
use Rattle.ud_model.specs.declared.kind.Mode.{Mode}
use Rattle.ud_model.specs.declared.kind.Mode.TheVariants.{C, Plain}
use Rattle.ud_model.specs.declared.verdict.Verdict.TheVariants.{Remove}
use Rattle.ud_model.proofs.text.LinesLemmas.{numbered_from-next}
use Rattle.ud_model.proofs.text.Pushes.{push_not_nil}
use Rattle.ud_model.proofs.text.ScanLaws.{place_after, white_after}
use Rattle.ud_model.proofs.sections.Soundness.{reading_of-item_of}
use Rattle.ud_model.proofs.output.Formed.{end_is_some}
use Rattle.ud_model.proofs.output.Heeding.{ReadIn, none_read, one_read}
use Rattle.ud_model.proofs.output.LeavesOff.{LeavesOff, nowhere, kept_scan, leaves_next, leaves_anew}
use Rattle.ud_laws.proofs.output.LoneLines.{IsQuiet, lone_scan}
use Rattle.ud_model.proofs.output.RereadStep.{plain_run}

-- 1. Items that are read of the same lines are the same.

pub lines_last : (o : Options) (ys : List (Item Reading)) (m : Mode) (l : Line) → map line_of (ys ++ item_of o (read_after ys m l) ∷ []) ≡ map line_of ys ++ l ∷ []
lines_last o ys m l = grind (arith, map-append line_of ys (item_of o (read_after ys m l) ∷ []), reading_of-item_of o (read_after ys m l))

pub read_once : (o : Options) (m : Mode) (ys zs : List (Item Reading)) → ReadIn o m ys → ReadIn o m zs → map line_of ys ≡ map line_of zs → ys ≡ zs
read_once o m _ _ none_read none_read e = refl
read_once o m _ _ none_read (one_read zs b k) e = absurd (push_not_nil (map line_of zs) k (sym (lines_last o zs m k) ∙ sym e))
read_once o m _ _ (one_read ys a l) none_read e = absurd (push_not_nil (map line_of ys) l (sym (lines_last o ys m l) ∙ e))
read_once o m _ _ (one_read ys a l) (one_read zs b k) e =
    let s : (map line_of ys ≡ map line_of zs) × (l ≡ k) = grind (arith, same_from_push, lines_last) in
    ap₂ (λ (ws : List (Item Reading)) (j : Line). ws ++ item_of o (read_after ws m j) ∷ []) (read_once o m ys zs a b s.0) s.1

-- 2. Two outputs side by side.

-- The items `ys`, and the items `zs`, which are read of the lines `qs`, end in the same state. If
-- the last line of `ys` joins nothing, they end between logical lines.
pub record Weave (o : Options) (m : Mode) (ys zs : List (Item Reading)) (qs : List (List ℕ)) : Type 0 where
  pub place : LexState
  pub white : Bool
  pub on : Bool
  pub first : LeavesOff ys place white on
  pub second : LeavesOff zs place white on
  pub rests : on ≡ false → LeavesOff zs in_text true false
  pub read : ReadIn o m zs
  pub are : map line_of zs ≡ numbered_from 1 qs

-- The line of this text after those.
abbrev pub line_after : List (List ℕ) → List ℕ → Line
line_after qs q = line_at (suc (length qs)) q

abbrev pub with_line : Options → Mode → List (Item Reading) → Line → List (Item Reading)
with_line o m zs l = zs ++ item_of o (read_after zs m l) ∷ []

module _ (o : Options) (m : Mode) (ys zs : List (Item Reading)) (qs : List (List ℕ)) (w : Weave o m ys zs qs) where
  pub are_more : (q : List ℕ) → map line_of (with_line o m zs (line_after qs q)) ≡ numbered_from 1 (qs ++ q ∷ [])
  are_more q = grind (arith, lines_last, numbered_from-next)

  between_lines : LeavesOff ys in_text true false → LeavesOff zs in_text true false
  between_lines r = w.rests (w.first.joins_on ∙ sym r.joins_on)

  -- Between lines in plain mode no line joins another one.
  in_plain : (xs : List (Item Reading)) → m ≡ Plain → ReadIn o m xs →
      LeavesOff xs in_text true false
  in_plain xs e r = nowhere xs (plain_run o xs (subst (λ (k : Mode). ReadIn o k xs) e r))

  lone_next : (n : Mode) → m ≡ n → (l : Line) → LeavesOff zs in_text true false → IsQuiet l → LeavesOff (with_line o m zs l) in_text true false
  lone_next Plain e l a q = in_plain (with_line o m zs l) e (one_read zs w.read l)
  lone_next C e l a q =
      subst (λ (k : Mode). LeavesOff (with_line o k zs l) in_text true false) (sym e)
      (leaves_anew o zs l (ap (λ s. s.joins_after) (lone_scan zs C l a q)) (end_is_some l.ending q.end))

  -- A quiet line is inserted.
  pub put : LeavesOff ys in_text true false → (q : List ℕ) → IsQuiet (line_after qs q) → Weave o m ys (with_line o m zs (line_after qs q)) (qs ++ q ∷ [])
  put r q h = let a = lone_next m refl (line_after qs q) (between_lines r) h in
      record {
        place = in_text;
        white = true;
        on = false;
        first = r;
        second = a;
        rests = λ e. a;
        read = one_read zs w.read (line_after qs q);
        are = are_more q;
      }

  -- An inserted line is scanned by itself.
  pub put_lone : LeavesOff ys in_text true false → (q : List ℕ) → IsQuiet (line_after qs q) → IsLone (read_after zs m (line_after qs q))
  put_lone r q h = lone_scan zs m (line_after qs q) (between_lines r) h

  -- A line of both outputs has the same scan.
  pub left_seen : (n : ℕ) (q : List ℕ) → scan_after (map reading_of zs) m (line_after qs q) ≡ scan_after (map reading_of ys) m (line_at n q)
  left_seen n q = kept_scan ys zs m w.place w.white w.on (line_at n q) (line_after qs q) w.first w.second refl refl

  left_by : (k : Mode) → m ≡ k → ReadIn o m ys → (n : ℕ) (q : List ℕ) → ending_of q ≢ [] →
      Weave o m (with_line o m ys (line_at n q)) (with_line o m zs (line_after qs q)) (qs ++ q ∷ [])
  left_by Plain e a n q h =
      let g =
      in_plain (with_line o m zs (line_after qs q)) e (one_read zs w.read (line_after qs q)) in
      record {
        place = in_text;
        white = true;
        on = false;
        first = in_plain (with_line o m ys (line_at n q)) e (one_read ys a (line_at n q));
        second = g;
        rests = λ e. g;
        read = one_read zs w.read (line_after qs q);
        are = are_more q;
      }
  left_by C e a n q h = let l : Line = line_at n q in
      let k : Line = line_after qs q in
      let s = subst (λ (k : Mode). scan_after (map reading_of zs) k (line_after qs q) ≡ scan_after (map reading_of ys) k (line_at n q)) e (left_seen n q) in
      let on : Bool = (scan_after (map reading_of ys) C l).joins_after in
      let place : LexState = state_after_line (stays_open l) (place_after w.place (content l)) in
      let white = white_after_line (stays_open l) (place_after w.place (content l)) (white_after w.place w.white (content l)) in
      let g = leaves_next o zs w.place w.white w.on k w.second in
      record {
        place = place;
        white = white;
        on = on;
        first = subst (λ (d : Mode). LeavesOff (with_line o d ys l) place white on) (sym e) (leaves_next o ys w.place w.white w.on l w.first);
        second = grind (arith, e, s, g);
        rests = λ f. subst (λ (d : Mode). LeavesOff (with_line o d zs k) in_text true false) (sym e) (leaves_anew o zs k (ap (λ s. s.joins_after) s ∙ f) h);
        read = one_read zs w.read k;
        are = are_more q;
      }

  -- After a line of both outputs, they end in the same state.
  pub left : ReadIn o m ys → (n : ℕ) (q : List ℕ) → ending_of q ≢ [] → Weave o m (with_line o m ys (line_at n q)) (with_line o m zs (line_after qs q)) (qs ++ q ∷ [])
  left a n q h = left_by m refl a n q h

-- 3. Pieces.

-- Lines are blanked, or numbered.
abbrev pub style : Bool → Bool → Style
style b n = record { blank = b; complement = false; renumber = n; unpadded = false }

abbrev pub piece_of : Bool → Bool → List Judged → Judged → List ℕ
piece_of b n = piece_after (style b n)

pub gone_blank : (n : Bool) (before : List Judged) (j : Judged) → j.verdict ≡ Remove → piece_of true n before j ≡ j.line.ending
gone_blank n before j e = grind arith

pub gone_nothing : (b n : Bool) (before : List Judged) (j : Judged) → j.verdict ≡ Remove → j.line.ending ≡ [] →
    piece_of b n before j ≡ []
gone_nothing b n before j e none = grind (arith, gone_blank)

-- The last judged line is removed if the last mark means so.
pub removed_last : (xs : List (Item Reading)) (ms : List Mark) → length xs ≡ length ms → last_removed (judged_lines xs ms) ≡ ends_removed ms
removed_last [] [] e = refl
removed_last (x ∷ []) (m ∷ []) e = refl
removed_last (x ∷ y ∷ xs) (m ∷ n ∷ ms) e = removed_last (y ∷ xs) (n ∷ ms) (omega arith)
removed_last xs ms e = absurd (omega arith)
