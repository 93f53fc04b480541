-- The end of lines in C mode: the state by which a line after them is scanned.
use Rattle.std.proofs.Common.{◌≡◌, ◌≢◌, ℕ, List, [], ◌∷◌, ◌++◌, map, Bool, true, false, sym, ◌∙◌, ap, ap₂, subst, arith, rules}
use Rattle.std.proofs.lemmas.List.{map-append}
use Rattle.ud_model.specs.text.Lines.{Line}
use Rattle.ud_model.specs.text.Scans.{Reading, plain_scan}
use Rattle.ud_model.specs.text.Splicing.{content, stays_open, spliced_text, c_run_of}
use Rattle.ud_model.specs.text.Scanning.{joins, is_block, scan_after}
use Rattle.ud_model.specs.aids.LexStates.{LexState, in_text, LexesTo, next_state, stays_white, state_after_line, white_after_line}
use Rattle.ud_model.specs.sections.Tree.{Item}
use Rattle.ud_model.specs.sections.Items.{Options, reading_of, item_of, read_after}
use Rattle.ud_model.specs.declared.kind.Mode.{Mode}
use Rattle.ud_model.specs.declared.kind.Mode.TheVariants.{C, Plain}
use Rattle.ud_model.proofs.sections.Soundness.{reading_of-item_of}
use Rattle.ud_model.proofs.text.ScanLaws.{place_after, white_after, scan_from, scan_after_run-from, LexesTo-append, joins_after-code, starts_anew}
use Rattle.ud_model.proofs.output.ExchangedScan.{Sane}
use Rattle.ud_model.proofs.text.ScanLemmas.{kind_at_place, joined_run_last, LexesTo-close, run_of_last}
use Rattle.ud_model.proofs.text.LexStateLemmas.{LexesTo-nil}

-- A sane state is followed by a sane one.
pub sane_step : (w : LexState) (white : Bool) (b : ℕ) → Sane w white → Sane (next_state w b) (stays_white w white b)
sane_step w white b s = grind arith

sane_all : (bytes : List ℕ) (w : LexState) (white : Bool) → Sane w white → Sane (place_after w bytes) (white_after w white bytes)
sane_all [] w white s = s
sane_all (b ∷ bytes) w white s = sane_all bytes (next_state w b) (stays_white w white b) (sane_step w white b s)

sane_close : (stays : Bool) (w : LexState) (white : Bool) → Sane w white → Sane (state_after_line stays w) (white_after_line stays w white)
sane_close stays w white s = grind arith

-- The lines in C mode end in this state, and the last one joins the next one or not.
pub record LeavesOff (xs : List (Item Reading)) (w : LexState) (white joined_on : Bool) : Type 0 where
  pub reads : LexesTo (spliced_text (c_run_of (map reading_of xs))) w white
  pub sane : Sane w white
  pub joins_on : joined_on ≡ joins (c_run_of (map reading_of xs))

-- The line has an ending.
abbrev pub HasEnd : Line → Type 0
HasEnd l = l.ending ≢ []

pub joins_none : joins [] ≡ false
unfolding joins
joins_none = ap is_block (kind_at_place LexesTo-nil)

-- If no line in C mode comes before them, lines end between lines.
pub nowhere : (xs : List (Item Reading)) → c_run_of (map reading_of xs) ≡ [] → LeavesOff xs in_text true false
nowhere xs e = grind (arith, LexesTo-nil, joins_none)

-- Nothing joins the next line there.
pub joins_nothing : (xs : List (Item Reading)) → c_run_of (map reading_of xs) ≡ [] → joins (c_run_of (map reading_of xs)) ≡ true → ⊥
joins_nothing xs e j = let f : true ≡ false = sym j ∙ ap joins e ∙ joins_none in cc

same_line : (w : LexState) (white on : Bool) (l k : Line) → k.body ≡ l.body → k.ending ≡ l.ending → scan_from w white on k ≡ scan_from w white on l
unfolding scan_from
same_line w white on l k e f = ap₂ (λ (b c : List ℕ). scan_from w white on (record { body = b; ending = c; number = 0 })) e f

-- 3. A line that stays is scanned as before.
pub kept_scan : (xs ys : List (Item Reading)) (m : Mode) (w : LexState) (white on : Bool) (l k : Line) → LeavesOff xs w white on → LeavesOff ys w white on →
    k.body ≡ l.body → k.ending ≡ l.ending → scan_after (map reading_of ys) m k ≡ scan_after (map reading_of xs) m l
kept_scan xs ys Plain w white on l k a b e f = ap (λ (t : List ℕ). plain_scan (record { body = t; ending = []; number = 0 })) e
kept_scan xs ys C w white on l k a b e f =
    scan_after_run-from (c_run_of (map reading_of ys)) k w white on b.reads b.joins_on ∙ same_line w white on l k e f
    ∙ sym (scan_after_run-from (c_run_of (map reading_of xs)) l w white on a.reads a.joins_on)

-- The readings of items with one more.
pub readings_last : (o : Options) (xs ys : List (Item Reading)) (m : Mode) (l : Line) →
    map reading_of (ys ++ item_of o (read_after xs m l) ∷ []) ≡ map reading_of ys ++ read_after xs m l ∷ []
readings_last o xs ys m l = simp (map-append, reading_of-item_of)

-- Lines with one more join the next one if that line does.
pub joins_next : (o : Options) (xs : List (Item Reading)) (l : Line) →
    (scan_after (map reading_of xs) C l).joins_after ≡ joins (c_run_of (map reading_of (xs ++ item_of o (read_after xs C l) ∷ [])))
joins_next o xs l = simp (joins_after-code, readings_last, run_of_last)

-- The state after a further line in C mode.
pub leaves_next : (o : Options) (xs : List (Item Reading)) (w : LexState) (white on : Bool) (l : Line) → LeavesOff xs w white on →
    LeavesOff (xs ++ item_of o (read_after xs C l) ∷ []) (state_after_line (stays_open l) (place_after w (content l)))
    (white_after_line (stays_open l) (place_after w (content l)) (white_after w white (content l))) (scan_after (map reading_of xs) C l).joins_after
leaves_next o xs w white on l a = search (rules, place_after, readings_last, joined_run_last, LexesTo-close, LexesTo-append, sane_close, sane_all, joins_next)

-- If a line joins nothing and has an ending, the lines end between lines.
pub leaves_anew : (o : Options) (xs : List (Item Reading)) (l : Line) → (scan_after (map reading_of xs) C l).joins_after ≡ false → HasEnd l →
    LeavesOff (xs ++ item_of o (read_after xs C l) ∷ []) in_text true false
leaves_anew o xs l j e = let last = sym (joins_after-code (c_run_of (map reading_of xs)) l) ∙ j in
    let same : c_run_of (map reading_of (xs ++ item_of o (read_after xs C l) ∷ [])) ≡ c_run_of (map reading_of xs) ++ l ∷ [] =
    ap c_run_of (readings_last o xs xs C l) ∙ run_of_last (map reading_of xs) (read_after xs C l) in record {
      reads = subst (λ (run : List Line). LexesTo (spliced_text run) in_text true) (sym same) (starts_anew (c_run_of (map reading_of xs)) l last e);
      sane = tt;
      joins_on = sym (ap joins same ∙ last);
    }
