-- The output for a line, read again: in plain mode, and in C mode if the lines before and the output
-- for them end in the same state.
use Rattle.std.proofs.Common.{◌≡◌, List, ◌++◌, take, false, codes, ◌∙◌, ap, subst, arith, ◌≢◌, ℕ, [], ◌∷◌, map, Bool, true, refl, sym}
use Rattle.ud_model.specs.text.Lines.{Line, text_of}
use Rattle.ud_model.specs.text.Scans.{Reading, plain_scan, Scan, is_spanning}
use Rattle.ud_model.specs.sections.Directives.{Content, Span, content_of, Directive, directive}
use Rattle.ud_model.specs.sections.Tree.{Item}
use Rattle.ud_model.specs.sections.Items.{Options, item_of, read_after, reading_of}
use Rattle.ud_model.specs.sections.Faults.{is_cut, is_in_block, keeps_rest}
use Rattle.ud_model.specs.answer.Printing.{piece_by, keyword_in}
use Rattle.ud_model.specs.declared.kind.Mode.TheVariants.{Plain, C}
use Rattle.ud_model.specs.declared.verdict.Verdict.{Verdict}
use Rattle.ud_model.specs.declared.verdict.Verdict.TheVariants.{Keep, Remove, ToIf, ToElse, ToEndif}
use Rattle.ud_model.proofs.output.Formed.{IsLeft, EndsIn, not_end}
use Rattle.ud_model.proofs.output.LeftItems.{becomes_if, becomes_else, becomes_endif, Left, left_if, left_else, left_endif, left_kept}
use Rattle.ud_model.proofs.output.LeftLines.{LeftLine, kept_body, else_body, endif_body}
use Rattle.ud_model.proofs.output.LeftScans.{plain_if, plain_cut, SeenAsIf, SeenCut, NextAlike, IfScan, same_next, if_scan, cut_seen}
use Rattle.ud_model.proofs.output.Suited.{Suits}
use Rattle.std.proofs.lemmas.Bool.{or_parts}
use Rattle.ud_model.specs.text.Bytes.{backslash}
use Rattle.ud_model.specs.text.Splicing.{content, stays_open, c_run_of}
use Rattle.ud_model.specs.text.Scanning.{scan_after_run, scan_after}
use Rattle.ud_model.specs.aids.LexStates.{LexState, in_text, state_after_line, white_after_line}
use Rattle.ud_model.proofs.sections.Soundness.{reading_of-item_of}
use Rattle.ud_model.proofs.output.DirectiveFront.{quiet_word}
use Rattle.ud_model.proofs.output.Each.{Each}
use Rattle.ud_model.proofs.output.KeywordPlace.{IsInert}
use Rattle.ud_model.proofs.output.LeavesOff.{LeavesOff, HasEnd, kept_scan, leaves_next, leaves_anew}
use Rattle.ud_model.proofs.output.RereadMore.{Carry, alike, Rests, last_comment}
use Rattle.ud_model.proofs.text.ScanLaws.{place_after, white_after, scan_from, scan_after_run-from}
use Rattle.ud_model.proofs.text.ScanLemmas.{joins_last}

module _ (o : Options) (u : Bool) (xs ys : List (Item Reading)) (l k : Line) where
  -- By the line's verdict.
  pub left_plain : (v : Verdict) → IsLeft v → Suits v (item_of o (read_after xs Plain l)) → is_cut (content_of (plain_scan l)) ≡ false →
      LeftLine u v (keyword_in (content_of (plain_scan l))) l k → text_of k ≡ piece_by u v (keyword_in (content_of (plain_scan l))) l →
      Left o u v (read_after xs Plain l) (read_after ys Plain k)
  left_plain Remove h s c b e = absurd h
  left_plain Keep h s c b e = grind (arith, kept_body)
  left_plain ToIf h s c b e = let d = becomes_if o (read_after xs Plain l) s in
      left_if o u (read_after xs Plain l) (read_after ys Plain k) d.0 d.1 d.2 d.3
      (plain_if u l k d.0 d.1 (subst (λ (p : Span). LeftLine u ToIf p l k) (ap keyword_in d.1) b)) e
  left_plain ToElse h s c b e = let d = becomes_else o (read_after xs Plain l) s in
      left_else o u (read_after xs Plain l) (read_after ys Plain k) d.0 d.1 d.2
      (plain_cut l k d.0 (codes "else") (b.body ∙ else_body u (keyword_in (content_of (plain_scan l))) l.body ∙ ap (λ (c : Content). take (keyword_in c).at l.body ++ codes "else") d.1)) e
  left_plain ToEndif h s c b e = let d = becomes_endif o (read_after xs Plain l) s in
      left_endif o u (read_after xs Plain l) (read_after ys Plain k) d.0 d.1 d.2
      (plain_cut l k d.0 (codes "endif") (b.body ∙ endif_body u (keyword_in (content_of (plain_scan l))) l.body ∙ ap (λ (c : Content). take (keyword_in c).at l.body ++ codes "endif") d.1)) e

-- C mode.

-- A line that joins nothing doesn't end in a comment.
calm_alone : (run : List Line) (l : Line) → (scan_after_run run l).joins_after ≡ false → is_in_block (scan_after_run run l).comment ≡ false
unfolding scan_after_run
calm_alone run l e = grind (arith, sym (joins_last run l) ∙ e)

-- A state under another name.
leaves_as : {xs : List (Item Reading)} {w v : LexState} {a b c d : Bool} → w ≡ v → a ≡ b → c ≡ d → LeavesOff xs w a c → LeavesOff xs v b d
leaves_as {xs} {w} {v} {a} {b} {c} {d} e f g h = grind arith

-- The bytes of a new keyword.
abbrev NewWord : List ℕ → Type 0
NewWord word = Each IsInert word × ((a : List ℕ) → EndsIn backslash (a ++ word) → ⊥)

new_else : NewWord (codes "else")
new_else = ((quiet_word (codes "else") refl).0, λ a. not_end backslash a (codes "els") 101 refl)

new_endif : NewWord (codes "endif")
new_endif = ((quiet_word (codes "endif") refl).0, λ a. not_end backslash a (codes "endi") 102 refl)

module _ (o : Options) (u : Bool) where
  abbrev with_line : List (Item Reading) → Line → List (Item Reading)
  with_line xs l = xs ++ item_of o (read_after xs C l) ∷ []

  -- After a line that joins nothing, the lines end between lines.
  anew_rests : (ys : List (Item Reading)) (k : Line) → (scan_after (map reading_of ys) C k).joins_after ≡ false → HasEnd k → Rests (ys ++ item_of o (read_after ys C k) ∷ [])
  anew_rests ys k e h = record {
    off = leaves_anew o ys k e h;
    calm = cc (last_comment ys (item_of o (read_after ys C k)), reading_of-item_of o (read_after ys C k), calm_alone (c_run_of (map reading_of ys)) k e);
  }

  module _ (xs ys : List (Item Reading)) (w : LexState) (white on : Bool) (a : LeavesOff xs w white on) (c : LeavesOff ys w white on) (l k : Line) (ending : k.ending ≡ l.ending) where
    has_end : HasEnd l → HasEnd k
    has_end h = subst (λ (e : List ℕ). e ≢ []) (sym ending) h

    -- The case of a line that goes on as before.
    kept_carry : NextAlike w white l k → (scan_after (map reading_of ys) C k).joins_after ≡ (scan_after (map reading_of xs) C l).joins_after → HasEnd l →
        Carry false (with_line xs l) (with_line ys k)
    kept_carry n j h =
        let p : state_after_line (stays_open k) (place_after w (content k)) ≡ state_after_line (stays_open l) (place_after w (content l)) = cc (n.stays_is, n.place_is) in
        let q : white_after_line (stays_open k) (place_after w (content k)) (white_after w white (content k))
        ≡ white_after_line (stays_open l) (place_after w (content l)) (white_after w white (content l)) = cc (n.stays_is, n.place_is, n.white_is) in
        alike (state_after_line (stays_open l) (place_after w (content l))) (white_after_line (stays_open l) (place_after w (content l)) (white_after w white (content l)))
        (scan_after (map reading_of xs) C l).joins_after (leaves_next o xs w white on l a) (leaves_as p q j (leaves_next o ys w white on k c)) (λ e. refl)
        (λ e. anew_rests ys k (j ∙ e) (has_end h))

    -- The case of a line that joins nothing, before and now.
    cut_carry : (scan_after (map reading_of xs) C l).joins_after ≡ false → (scan_after (map reading_of ys) C k).joins_after ≡ false → HasEnd l →
        Carry false (with_line xs l) (with_line ys k)
    cut_carry e f h =
        let r = anew_rests ys k f (has_end h) in alike in_text true false (leaves_anew o xs l e h) r.off (λ g. refl) (λ g. r)

    seen_before : scan_after (map reading_of xs) C l ≡ scan_from w white on l
    seen_before = scan_after_run-from (c_run_of (map reading_of xs)) l w white on a.reads a.joins_on

    seen_now : scan_after (map reading_of ys) C k ≡ scan_from w white on k
    seen_now = scan_after_run-from (c_run_of (map reading_of ys)) k w white on c.reads c.joins_on

    -- The output for a line, and the state that is carried to the next one.
    pub record LeftCode (v : Verdict) : Type 0 where
      pub left : Left o u v (read_after xs C l) (read_after ys C k)
      pub carry : HasEnd l → Carry false (with_line xs l) (with_line ys k)

    cut_code : (d : Directive) (word : List ℕ) → NewWord word → content_of (scan_after (map reading_of xs) C l) ≡ directive d → k.body ≡ take d.keyword.at l.body ++ word →
        SeenCut (scan_after (map reading_of xs) C l) (scan_after (map reading_of ys) C k) d word
    cut_code d word n e b =
        grind (arith, seen_before, seen_now, cut_seen w white on l k d word a.sane (ap content_of (sym seen_before) ∙ e) n.0 (n.1 (take d.keyword.at l.body)) b)

    -- By the line's verdict.
    pub left_code : (v : Verdict) → IsLeft v → Suits v (item_of o (read_after xs C l)) → is_cut (content_of (scan_after (map reading_of xs) C l)) ≡ false →
        (keeps_rest v ≡ false → is_spanning (scan_after (map reading_of xs) C l) ≡ false) →
        LeftLine u v (keyword_in (content_of (scan_after (map reading_of xs) C l))) l k →
        text_of k ≡ piece_by u v (keyword_in (content_of (scan_after (map reading_of xs) C l))) l → LeftCode v
    left_code Remove h s g m b e = absurd h
    left_code Keep h s g m b e =
        let body : k.body ≡ l.body = b.body ∙ kept_body u (keyword_in (content_of (scan_after (map reading_of xs) C l))) l.body in
        let q = kept_scan xs ys C w white on l k a c body b.ending in
        record {
          left = left_kept o u (read_after xs C l) (read_after ys C k) q e g;
          carry = kept_carry (same_next w white l k body b.ending) (ap (λ (r : Scan). r.joins_after) q);
        }
    left_code ToIf h s g m b e = let d = becomes_if o (read_after xs C l) s in
        let f : IfScan u w white on l k d.0 =
        if_scan u w white on l k d.0 a.sane (ap content_of (sym seen_before) ∙ d.1) (subst (λ (p : Span). LeftLine u ToIf p l k) (ap keyword_in d.1) b) in
        let scanned : SeenAsIf u (scan_after (map reading_of xs) C l) (scan_after (map reading_of ys) C k) d.0 = grind (arith, seen_before, seen_now, f.scanned) in
        record {
          left = left_if o u (read_after xs C l) (read_after ys C k) d.0 d.1 d.2 d.3 scanned e;
          carry = kept_carry f.next scanned.joins_is;
        }
    left_code ToElse h s g m b e = let d = becomes_else o (read_after xs C l) s in
        let scanned : SeenCut (scan_after (map reading_of xs) C l) (scan_after (map reading_of ys) C k) d.0 (codes "else") =
        cut_code d.0 (codes "else") new_else d.1
        (b.body ∙ else_body u (keyword_in (content_of (scan_after (map reading_of xs) C l))) l.body ∙ ap (λ (t : Content). take (keyword_in t).at l.body ++ codes "else") d.1) in
        record {
          left = left_else o u (read_after xs C l) (read_after ys C k) d.0 d.1 d.2 scanned e;
          carry = cut_carry (or_parts (scan_after (map reading_of xs) C l).joins_before (scan_after (map reading_of xs) C l).joins_after (m refl)).1 scanned.joins_is;
        }
    left_code ToEndif h s g m b e = let d = becomes_endif o (read_after xs C l) s in
        let scanned : SeenCut (scan_after (map reading_of xs) C l) (scan_after (map reading_of ys) C k) d.0 (codes "endif") =
        cut_code d.0 (codes "endif") new_endif d.1
        (b.body ∙ endif_body u (keyword_in (content_of (scan_after (map reading_of xs) C l))) l.body ∙ ap (λ (t : Content). take (keyword_in t).at l.body ++ codes "endif") d.1) in
        record {
          left = left_endif o u (read_after xs C l) (read_after ys C k) d.0 d.1 d.2 scanned e;
          carry = cut_carry (or_parts (scan_after (map reading_of xs) C l).joins_before (scan_after (map reading_of xs) C l).joins_after (m refl)).1 scanned.joins_is;
        }
