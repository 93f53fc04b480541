-- Squeezed texts: a line more, and a place more.
use Rattle.std.proofs.Common.{◌≡◌, ℕ, suc, ◌+◌, ◌-◌, ◌<◌, ◌≤◌, List, [], ◌∷◌, ◌++◌, length, take}
use Rattle.std.proofs.Common.{drop, take-append-drop, drop-cons, reverse, add-one, length-drop}
use Rattle.std.proofs.Common.{get_or, get_or-drop, slice_range, Bool, true, false, ltb, ◌||◌}
use Rattle.std.proofs.Common.{if◌then◌else◌, append_assoc, append-nil, refl, sym, ◌∙◌, ap, arith}
use Rattle.std.proofs.lemmas.List.{reverse-append, take_more, length-map, map-append, take_all, drop_all}
use Rattle.std.proofs.lemmas.Bool.{lt-ltb, le-ltb}
use Rattle.std.specs.List.{concat}
use Rattle.std.proofs.lemmas.Grind.{common_steps}
use Rattle.ud_model.specs.text.Bytes.{is_white, skip_white, starts_with_byte}
use Rattle.ud_model.specs.text.Lines.{Line, texts_of, split_lines}
use Rattle.ud_model.specs.text.Scans.{Scan}
use Rattle.ud_model.specs.sections.Directives as directives
use Rattle.ud_model.specs.aids.ReadAs.{read_as}
use Rattle.ud_model.specs.declared.kind.Mode.TheVariants.{C}
use Rattle.ud_model.proofs.text.LinesLemmas.{split_lines-line-prefix}
use Rattle.ud_text.specs.lines.LinesState.{UpToNewline}
use Rattle.ud_text.proofs.lemmas.scan.LongerTextLemmas.{one_text}
use Rattle.ud_passes.specs.Walks.{read_after, Walked}
use Rattle.ud_passes.specs.declared.walk.Walk.{Walk}
use Rattle.ud_passes.specs.declared.squeezing.places.Place.{Place}
use Rattle.ud_passes.specs.squeezing.SqueezedTexts.{is_gap, after_stay, bare_place, place_of, places, parts, first_part, last_part, only_part, left, first_ones, stay_flags, kept_lines, first_flag, later_flags}
use Rattle.ud_passes.specs.squeezing.Squeezing.{Placed, gaps_of}
use Rattle.ud_passes.proofs.WalkLemmas.{walk_ends}

-- 1. The first line of a text.

first_text : (rest : List ℕ) (n : ℕ) (w : Bool) → UpToNewline rest n w → 0 < length rest → texts_of rest ≡ take n rest ∷ texts_of (drop n rest)
unfolding split_lines
first_text rest n w up some = by w up
  where
    by : (w : Bool) → UpToNewline rest n w → texts_of rest ≡ take n rest ∷ texts_of (drop n rest)
    by true up = let first = split_lines-line-prefix (take n rest) (drop n rest) (up.line refl) in
        grind (arith, take-append-drop, first)
    by false up = let one = one_text rest n false up some in
        grind (arith, take_all, drop_all, (up.all refl).0, one)

-- 2. Lines that stay.

pub kept_next : (out more : List ℕ) (flags : List Bool) (rest : List ℕ) (n : ℕ) (w : Bool) → UpToNewline rest n w → 0 < length rest → (f : Bool) (fs : List Bool) (line after : List ℕ) →
    f ≡ first_flag flags → fs ≡ later_flags flags → line ≡ take n rest → after ≡ drop n rest → more ≡ out ++ (if f then line else []) →
    more ++ concat (kept_lines fs (texts_of after)) ≡ out ++ concat (kept_lines flags (texts_of rest))
kept_next out more flags rest n w up some f fs line after a b c d e =
    let first = first_text rest n w up some in grind (arith, append_assoc, first)

-- 3. Places.

-- White space before a line doesn't change its last byte.
white_last : (bs : List ℕ) (b : ℕ) → is_white b ≡ true → starts_with_byte 123 (skip_white (bs ++ b ∷ [])) ≡ starts_with_byte 123 (skip_white bs)
white_last [] b w = grind (arith, w)
white_last (c ∷ bs) b w = grind (arith, white_last bs b w)

pub opens_trimmed : (bs : List ℕ) → starts_with_byte 123 (skip_white (reverse (skip_white bs))) ≡ starts_with_byte 123 (skip_white (reverse bs))
opens_trimmed [] = refl
opens_trimmed (b ∷ bs) = grind (arith, common_steps, reverse-append, white_last, opens_trimmed bs)

-- A line that doesn't begin with a hash sign has no directive.
pub no_directive : (s : Scan) → starts_with_byte 35 (skip_white s.masked) ≡ false → directives.content_of s ≡ directives.text
no_directive s e = grind arith

-- The directive of a trimmed line.
pub ruleset place_steps = (opens_trimmed, no_directive)

module _ (text ms : List ℕ) (walk : Walk) (left : List ℕ) (out : List Place) (p : Placed text ms walk left out) (next : Walk) (k : Line) where
  pub line_placed : Walked C text (p.read ++ read_after C p.read k ∷ []) next.rest.now next.scanner → (after : List ℕ) → after ≡ after_stay left → (new : List Place) →
      new ≡ out ++ place_of (is_gap left) (read_after C p.read k) ∷ [] → Placed text ms next after new
  line_placed w after a new e = grind (arith, append_assoc)

pub none_placed : (text ms : List ℕ) (walk : Walk) → Walked C text [] walk.rest.now walk.scanner → Placed text ms walk ms []
none_placed text ms walk w = record { read = []; walked = w; rest = λ rs. refl }

pub all_placed : (text ms : List ℕ) (walk : Walk) (left : List ℕ) (out : List Place) → Placed text ms walk left out → walk.rest.now ≡ [] → (gap : Bool) → gap ≡ is_gap left →
    (place : Place) → place ≡ bare_place gap true → (new : List Place) → new ≡ out ++ place ∷ [] → new ≡ places ms (read_as C text)
all_placed text ms walk left out p e gap g place l new n =
    let end = walk_ends C text p.read walk.rest.now walk.scanner p.walked e in
    grind (arith, append-nil, p.rest [], end)

-- 4. Stretches.

-- The last part isn't the first one, if another follows.
not_last : (n m : ℕ) (gaps : List Bool) (below : Bool) → last_part (n ∷ parts m gaps below) ≡ last_part (parts m gaps below)
not_last n m [] true = refl
not_last n m [] false = refl
not_last n m (true ∷ gaps) below = refl
not_last n m (false ∷ gaps) below = not_last n (suc m) gaps below

pub last_next : (n : ℕ) (gap : Bool) (gaps : List Bool) (below : Bool) → last_part (parts n (gap ∷ gaps) below) ≡ last_part (parts (if gap then 1 else suc n) gaps below)
last_next n true gaps below = not_last n 1 gaps below
last_next n false gaps below = refl

pub last_more : (stretch : List Place) (at n m : ℕ) (d : Place) (below : Bool) → at < length stretch → m ≡ (if (get_or stretch at d).gap then 0 else n) →
    last_part (parts (m + 1) (gaps_of (drop (at + 1) stretch)) below) ≡ last_part (parts n (gaps_of (drop at stretch)) below)
last_more stretch at n m d below h e = let p : Place = get_or stretch at d in
    let gaps : List Bool = gaps_of (drop (at + 1) stretch) in
    let rest : drop at stretch ≡ p ∷ drop (at + 1) stretch = rw add-one (drop-cons stretch at d h) in
    ap (λ (k : ℕ). last_part (parts k gaps below)) (ap (λ (k : ℕ). k + 1) e ∙ by p.gap)
    ∙ sym (ap (λ (qs : List Place). last_part (parts n (gaps_of qs) below)) rest ∙ last_next n p.gap gaps below)
  where
    by : (b : Bool) → (if b then 0 else n) + 1 ≡ (if b then 1 else suc n)
    by true = refl
    by false = omega arith

-- A part isn't the only one, if another follows.
not_only : (n m : ℕ) (gaps : List Bool) (below : Bool) → only_part (n ∷ parts m gaps below) ≡ 0
not_only n m [] true = refl
not_only n m [] false = refl
not_only n m (true ∷ gaps) below = refl
not_only n m (false ∷ gaps) below = not_only n (suc m) gaps below

-- The only part is the first one, if it has all lines.
pub only_all : (n : ℕ) (gaps : List Bool) (below : Bool) →
    only_part (parts n gaps below) ≡ (if below || ltb (first_part (parts n gaps below)) (n + length gaps) then 0 else first_part (parts n gaps below))
only_all n [] true = refl
only_all n [] false = grind (arith, le-ltb)
only_all n (true ∷ gaps) below = grind (arith, lt-ltb, not_only)
only_all n (false ∷ gaps) below = grind (arith, only_all (suc n) gaps below)

module _ (ps : List Place) (a b : ℕ) (d : Place) (h : a ≤ b) (k : b < length ps) where
  abbrev p : Place
  p = get_or ps b d

  slice_more : slice_range ps a (b + 1) ≡ slice_range ps a b ++ p ∷ []
  slice_more = let n : ℕ = b - a in
      let e : (b + 1) - a ≡ n + 1 = omega arith in
      let at : a + n ≡ b = omega arith in
      let size = length-drop a ps in
      ap (λ (m : ℕ). take m (drop a ps)) e ∙ take_more (drop a ps) n d (omega (arith, size))
      ∙ ap (λ (x : Place). take n (drop a ps) ++ x ∷ []) (get_or-drop a ps n d ∙ ap (λ (i : ℕ). get_or ps i d) at)

  rest : drop b ps ≡ p ∷ drop (b + 1) ps
  rest = rw add-one (drop-cons ps b d k)

  -- A blank line belongs to the stretch.
  pub blank_next : (above : Place) → p.blank ≡ true → stay_flags above (gaps_of (slice_range ps a b)) (drop b ps) ≡ stay_flags above (gaps_of (slice_range ps a (b + 1))) (drop (b + 1) ps)
  blank_next above e = grind (arith, rest, slice_more, map-append)

  no_slice : slice_range ps (b + 1) (b + 1) ≡ []
  no_slice = let z : (b + 1) - (b + 1) ≡ 0 = omega arith in ap (λ (m : ℕ). take m (drop (b + 1) ps)) z

  -- Any other line ends it.
  pub other_next : (above : Place) (out new : List Bool) → p.blank ≡ false →
      new ≡ out ++ (first_ones (length (slice_range ps a b)) (left above p (parts 0 (gaps_of (slice_range ps a b)) p.gap)) ++ true ∷ []) →
      new ++ stay_flags p (gaps_of (slice_range ps (b + 1) (b + 1))) (drop (b + 1) ps) ≡ out ++ stay_flags above (gaps_of (slice_range ps a b)) (drop b ps)
  other_next above out new e n = grind (arith, length-map, no_slice, append_assoc, rest)
