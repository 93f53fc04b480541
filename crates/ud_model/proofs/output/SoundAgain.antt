-- The limits that a text without a fault keeps, and those that the output for it keeps. Lines that
-- were read are faultless if they keep the limits, none has a cut keyword, and each stays as it is.
use Rattle.std.proofs.Common.{◌≡◌, ℕ, suc, ◌+◌, ◌<◌, ◌≤◌, List, [], ◌∷◌, ◌++◌, length, map, sym, ◌∙◌, ap, arith, length-append, Bool, true, false, ap₂, subst}
use Rattle.std.proofs.lemmas.List.{map-append, length-map}
use Rattle.ud_model.specs.text.Lines.{Line, text_of, line_at, numbered_from}
use Rattle.ud_model.specs.text.Scans.{Reading}
use Rattle.ud_model.specs.sections.Tree.{Item, Tree, depth, lines, closed, open_section}
use Rattle.ud_model.specs.aids.Height.{height}
use Rattle.ud_model.specs.sections.Items.{Options, line_of, next_item}
use Rattle.ud_model.specs.sections.Faults.{AreFaultless, no_lines, one_more, NoneHolds, cases, ends_removed, is_obfuscated_after}
use Rattle.ud_model.specs.laws.Rereading.{LinesFit, AreRead, no_items, one_item}
use Rattle.ud_model.specs.declared.kind.Mode.{Mode}
use Rattle.ud_model.specs.declared.limits.TheConstants.{MAX_LINE_BYTES, MAX_LINES, MAX_DEPTH}
use Rattle.ud_model.proofs.output.Each.{Each, each_parts}
use Rattle.ud_model.proofs.sections.Growth.{Adds, adds_under}
use Rattle.ud_model.proofs.output.PrunedHeights.{grows_most}
use Rattle.ud_model.proofs.output.OutputPieces.{printed_most}
use Rattle.ud_model.proofs.output.RereadMore.{Again, IsUncut}
use Rattle.ud_model.proofs.sections.Soundness.{sound_lines, read_lines}
use Rattle.ud_model.specs.sections.Pruning.{Mark, marked, marks}
use Rattle.ud_model.specs.declared.verdict.Verdict.TheVariants.{Keep}
use Rattle.ud_model.proofs.sections.Stays.{marks_more}
use Rattle.ud_model.proofs.output.Undecided.{Stays}
use Rattle.ud_model.proofs.sections.Unique as Trees

-- No prefix of a text is higher than the text, and no text is deeper than it is high.

module _ {L : Type 0} where
  -- A text is at least as high as it is deep.
  pub depth_height : (t : Tree L) → depth t ≤ height t
  depth_height (closed ns) = omega arith
  depth_height (open_section ns h t) = let d : depth t ≤ height t = depth_height t in omega arith

  -- One more line makes no text lower.
  pub height_add : {t u : Tree L} {x : Item L} → Adds t x u → height t ≤ height u
  height_add (adds_under {t = t} {u = u} a) = let c : height t ≤ height u = height_add a in omega arith
  height_add h = grind arith

-- The line's number is one that a line of a text may have.
abbrev pub IsFew : Item Reading → Type 0
IsFew y = (line_of y).number ≤ MAX_LINES

-- The line isn't too long.
abbrev pub IsShort : Item Reading → Type 0
IsShort y = length (text_of (line_of y)) ≤ MAX_LINE_BYTES

not_more : (m n : ℕ) → (n < m → ⊥) → m ≤ n
not_more m n h = omega (arith, h)

-- A text without a fault is no higher than sections may be open.
pub sound_low : (o : Options) (xs : List (Item Reading)) (t : Tree Reading) → AreFaultless o xs t → height t ≤ MAX_DEPTH
sound_low o _ _ no_lines = omega arith
sound_low o _ _ (one_more xs t s l u e n) = let x : Item Reading = next_item o xs t l in
    let a : Adds t x u = Trees.grows t u x (e ∙ ap (λ (zs : List (Item Reading)). zs ++ x ∷ []) (sym (sound_lines s))) in
    omega (arith, grows_most a, sound_low o xs t s, not_more (depth u) MAX_DEPTH (λ m. n.1.1.1.1.0 (u, e, m)))

-- The number of the last of numbered lines.
last_numbered : (n : ℕ) (ls : List Line) (l : Line) (ts : List (List ℕ)) → ls ++ l ∷ [] ≡ numbered_from n ts → l.number ≡ n + length ls
last_numbered n [] l [] e = cc
last_numbered n [] l (t ∷ ts) e = let p : l ≡ line_at n t = cc in ap (λ (k : Line). k.number) p ∙ omega arith
last_numbered n (k ∷ ls) l [] e = cc
last_numbered n (k ∷ ls) l (t ∷ ts) e = let p : ls ++ l ∷ [] ≡ numbered_from (suc n) ts = cc in last_numbered (suc n) ls l ts p ∙ omega arith

-- A text without a fault has no more lines than it may have.
pub sound_few : (o : Options) (xs : List (Item Reading)) (t : Tree Reading) (ts : List (List ℕ)) → AreFaultless o xs t → map line_of xs ≡ numbered_from 1 ts → length xs ≤ MAX_LINES
sound_few o xs t ts h g = grind (arith, last_numbered, map-append, length-map, length-append)

numbered_few : (n : ℕ) (ts : List (List ℕ)) (ys : List (Item Reading)) → map line_of ys ≡ numbered_from n ts → n + length ts ≤ suc MAX_LINES → Each IsFew ys
numbered_few n ts [] e h = tt
numbered_few n [] (y ∷ ys) e h = cc
numbered_few n (t ∷ ts) (y ∷ ys) e h = let p : line_of y ≡ line_at n t = cc in
    let q : map line_of ys ≡ numbered_from (suc n) ts = cc in
    let r : (line_of y).number ≡ n = ap (λ (k : Line). k.number) p in
    (omega (arith, r, h), numbered_few (suc n) ts ys q (omega (arith, h)))

-- Neither has the output for it.
pub again_few : (o : Options) (m : Mode) (xs : List (Item Reading)) (t : Tree Reading) (ys : List (Item Reading)) → Again o m xs t ys → length xs ≤ MAX_LINES → Each IsFew ys
again_few o m xs t ys a h = grind (arith, length-map, printed_most, numbered_few)

-- Lines that fit are short.
pub fit_short : (ys : List (Item Reading)) → LinesFit (map line_of ys) → Each IsShort ys
fit_short [] h = tt
fit_short (y ∷ ys) h = (h.0, fit_short ys h.1)

-- Lines that were read.

none_removed : (ms : List Mark) → Each Stays ms → ends_removed ms ≡ false
none_removed (m ∷ n ∷ ms) h = none_removed (n ∷ ms) h.1
none_removed ms h = grind arith

kept_unspoiled : (x : Item Reading) → is_obfuscated_after false x (marked true Keep) ≡ false
kept_unspoiled x = grind arith

module _ (xs : List (Item Reading)) (x : Item Reading) (u : Tree Reading) (are : lines u ≡ xs ++ x ∷ []) (stay : Each Stays (marks u)) where
  unspoiled : (before : List Mark) (m : Mark) (v : Tree Reading) → lines v ≡ xs ++ x ∷ [] → marks v ≡ before ++ m ∷ [] → is_obfuscated_after (ends_removed before) x m ≡ false
  unspoiled before m v e f = let h : Each Stays before × Each Stays (m ∷ []) =
      each_parts Stays before (m ∷ []) (subst (Each Stays) (ap (λ (t : Tree Reading). marks t) (Trees.unique u v (are ∙ sym e)) ∙ f) stay) in
      ap₂ (λ (r : Bool) (k : Mark). is_obfuscated_after r x k) (none_removed before h.0) h.1.0 ∙ kept_unspoiled x

  -- A line that is the last of such lines has no fault.
  none_holds : IsUncut x → IsFew x → IsShort x → height u ≤ MAX_DEPTH → NoneHolds xs x cases
  none_holds c f s h = (
    λ (g : MAX_LINES < (line_of x).number). absurd (omega (arith, g, f)),
    (
      λ (g : MAX_LINE_BYTES < length (text_of (line_of x))). absurd (omega (arith, g, s)),
      (
        λ g. let e : true ≡ false = sym g ∙ c in cc,
        (
          λ g. g.1 (u, are),
          (
            λ g. let d : depth g.0 ≤ height g.0 = depth_height g.0 in
                let e : height g.0 ≡ height u = ap (λ (t : Tree Reading). height t) (Trees.unique g.0 u (g.1 ∙ sym are)) in
                absurd (omega (arith, d, e, h, g.2)),
            (λ g. let e : true ≡ false = sym g.3 ∙ unspoiled g.0 g.1 g.2.0 g.2.1 g.2.2 in cc, tt),
          ),
        ),
      ),
    ),
  )

-- Such lines are faultless.
pub sound_again : (o : Options) (ys : List (Item Reading)) (t : Tree Reading) → AreRead o ys t → Each IsUncut ys → Each IsFew ys → Each IsShort ys → height t ≤ MAX_DEPTH →
    Each Stays (marks t) → AreFaultless o ys t
sound_again o _ _ no_items c f s h k = no_lines
sound_again o _ _ (one_item ys t r l u e) c f s h k = let x : Item Reading = next_item o ys t l in
    let a : Adds t x u = Trees.grows t u x (e ∙ ap (λ (zs : List (Item Reading)). zs ++ x ∷ []) (sym (read_lines r))) in
    let m : (m : Mark) × (marks u ≡ marks t ++ m ∷ []) = marks_more a in
    let cs : Each IsUncut ys × Each IsUncut (x ∷ []) = each_parts IsUncut ys (x ∷ []) c in
    let fs : Each IsFew ys × Each IsFew (x ∷ []) = each_parts IsFew ys (x ∷ []) f in
    let ss : Each IsShort ys × Each IsShort (x ∷ []) = each_parts IsShort ys (x ∷ []) s in
    let low : height t ≤ height u = height_add a in
    one_more ys t
    (sound_again o ys t r cs.0 fs.0 ss.0 (omega (arith, low, h)) (each_parts Stays (marks t) (m.0 ∷ []) (subst (Each Stays) m.1 k)).0)
    l u e (none_holds ys x u e k cs.1.0 fs.1.0 ss.1.0 h)
