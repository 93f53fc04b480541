-- Squeezed flags: only blank lines go, and none without a gap.
use Rattle.std.proofs.Common.{◌≡◌, ℕ, zero, suc, ◌+◌, List, [], ◌∷◌, ◌++◌, length, replicate, Bool}
use Rattle.std.proofs.Common.{true, false, if◌then◌else◌, append_assoc, append-nil, length-append}
use Rattle.std.proofs.Common.{refl, ◌∙◌, ap, arith}
use Rattle.std.specs.List.{list_all}
use Rattle.std.proofs.lemmas.List.{length-replicate, replicate-append-replicate}
use Rattle.ud_model.specs.text.Scans.{Reading}
use Rattle.ud_model.specs.aids.ReadAs.{read_as}
use Rattle.ud_model.specs.declared.kind.Mode.TheVariants.{C}
use Rattle.ud_model.proofs.text.LinesLemmas.{lines_exist}
use Rattle.ud_passes.specs.declared.squeezing.places.Place.{Place}
use Rattle.ud_passes.specs.squeezing.SqueezedTexts.{stays, is_gap, after_stay, is_blank_line, bare_place, place_of, places, parts, left, first_ones, stay_flags, flags_in, first_flag, later_flags, kept_lines, squeezed_text}

-- 1. Only blank lines go.

-- Each of the lines whose flag is false is blank.
unfoldable pub OnlyBlanks : List Bool → List Reading → Type 0
OnlyBlanks flags [] = Unit {0}
OnlyBlanks flags (r ∷ rs) = (first_flag flags ≡ false → is_blank_line r.line.body r.scan ≡ true) × OnlyBlanks (later_flags flags) rs

AllBlank : List Reading → Type 0
AllBlank [] = Unit {0}
AllBlank (r ∷ rs) = (is_blank_line r.line.body r.scan ≡ true) × AllBlank rs

blank_more : (qs : List Reading) (r : Reading) → AllBlank qs → is_blank_line r.line.body r.scan ≡ true → AllBlank (qs ++ r ∷ [])
unfolding AllBlank
blank_more [] r a b = (b, tt)
blank_more (q ∷ qs) r a b = (a.0, blank_more qs r a.1 b)

blanks_both : (fs gs : List Bool) (qs rs : List Reading) → length fs ≡ length qs → AllBlank qs → OnlyBlanks gs rs → OnlyBlanks (fs ++ gs) (qs ++ rs)
unfolding AllBlank OnlyBlanks
blanks_both [] gs [] rs e a b = b
blanks_both [] gs (q ∷ qs) rs e a b = absurd (omega arith)
blanks_both (f ∷ fs) gs [] rs e a b = absurd (omega arith)
blanks_both (f ∷ fs) gs (q ∷ qs) rs e a b = (λ g. a.0, blanks_both fs gs qs rs (omega arith) a.1 b)

length-first_ones : (n k : ℕ) → length (first_ones n k) ≡ n
length-first_ones n k = grind (arith, length-append, length-replicate)

blanks_after : (ms : List ℕ) (rs : List Reading) (above : Place) (gaps : List Bool) (qs : List Reading) → length gaps ≡ length qs → AllBlank qs →
    OnlyBlanks (stay_flags above gaps (places ms rs)) (qs ++ rs)
unfolding AllBlank OnlyBlanks
blanks_after ms [] above gaps qs e a = blanks_both _ (true ∷ []) qs [] (length-first_ones (length gaps) _ ∙ e) a tt
blanks_after ms (r ∷ rs) above gaps qs e a =
    let p : Place = place_of (is_gap ms) r in
    let on = blanks_after (after_stay ms) rs above (gaps ++ p.gap ∷ []) (qs ++ r ∷ []) in
    let new = blanks_after (after_stay ms) rs p [] [] refl tt in
    grind (arith, on, new, length-append, append_assoc, blank_more, blanks_both, length-first_ones)

pub only_blanks : (ms output : List ℕ) → OnlyBlanks (flags_in ms output) (read_as C output)
unfolding AllBlank
only_blanks ms output = blanks_after ms (read_as C output) (bare_place false true) [] [] refl tt

-- 2. Without a gap none goes.

one_part : (n k : ℕ) → parts n (replicate k false) false ≡ (n + k) ∷ []
one_part n zero = grind arith
one_part n (suc k) = grind (arith, one_part (suc n) k)

-- All lines of a stretch without a gap stay.
stretch : (above below : Place) (gap : Bool) → gap ≡ false → (n : ℕ) (fs : List Bool) →
    first_ones (length (replicate n false)) (left above below (parts 0 (replicate n false) gap)) ++ true ∷ fs ≡ replicate n true ++ true ∷ fs
stretch above below gap e n fs = grind (arith, length-replicate, one_part, append-nil)

no_gap : (ms : List ℕ) → list_all stays ms ≡ true → (is_gap ms ≡ false) × (list_all stays (after_stay ms) ≡ true)
no_gap [] h = (refl, refl)
no_gap (m ∷ ms) h = grind arith

all_stay : (ms : List ℕ) (rs : List Reading) → list_all stays ms ≡ true → (above : Place) (n : ℕ) → stay_flags above (replicate n false) (places ms rs) ≡ replicate (n + suc (length rs)) true
all_stay ms [] h above n = stretch above (bare_place (is_gap ms) true) (is_gap ms) (no_gap ms h).0 n [] ∙ replicate-append-replicate n 1 true
all_stay ms (r ∷ rs) h above n = by (place_of (is_gap ms) r).blank (all_stay (after_stay ms) rs (no_gap ms h).1)
  where
    p : Place
    p = place_of (is_gap ms) r

    later : List Place
    later = places (after_stay ms) rs

    none : p.gap ≡ false
    none = let gap : p.gap ≡ is_gap ms = grind arith in gap ∙ (no_gap ms h).0

    by : (b : Bool) → ((above : Place) (n : ℕ) → stay_flags above (replicate n false) later ≡ replicate (n + suc (length rs)) true) → (if b then stay_flags above (replicate n false ++ p.gap ∷ []) later
        else first_ones (length (replicate n false)) (left above p (parts 0 (replicate n false) p.gap)) ++ true ∷ stay_flags p [] later) ≡ replicate (n + suc (suc (length rs))) true
    by true i = ap (λ (gaps : List Bool). stay_flags above gaps later) (ap (λ (g : Bool). replicate n false ++ g ∷ []) none ∙ replicate-append-replicate n 1 false)
        ∙ i above (n + 1) ∙ ap (λ (m : ℕ). replicate m true) (omega arith)
    by false i = stretch above p p.gap none n (stay_flags p [] later) ∙ ap (λ (fs : List Bool). replicate n true ++ true ∷ fs) (i p 0)
        ∙ replicate-append-replicate n (suc (0 + suc (length rs))) true ∙ ap (λ (m : ℕ). replicate m true) (omega arith)

all_kept : (n : ℕ) (ls : List (List ℕ)) → kept_lines (replicate n true) ls ≡ ls
all_kept n [] = refl
all_kept zero (l ∷ ls) = grind (arith, all_kept zero ls)
all_kept (suc n) (l ∷ ls) = grind (arith, all_kept n ls)

pub stays_same : (ms output : List ℕ) → list_all stays ms ≡ true → squeezed_text ms output ≡ output
stays_same ms output h =
    let all = all_stay ms (read_as C output) h (bare_place false true) 0 in
    grind (arith, all, all_kept, (lines_exist output).joined)
