-- Other line scans: texts that differ only in lines that join no neighbour. Such a line changes the
-- scan of no other line.
use Rattle.std.proofs.Common.{◌≡◌, ◌≢◌, false, List, [], ◌∷◌, ◌++◌, refl, sym, ◌∙◌, ap}
use Rattle.std.proofs.Common.{append_assoc, append-nil, inl, inr, ◌⊎◌, arith}
use Rattle.ud_model.specs.text.Lines.{Line}
use Rattle.ud_model.specs.text.Scans.{Scan, Reading}
use Rattle.ud_model.specs.text.Scanning.{scan_after, next_reading}
use Rattle.ud_model.specs.declared.kind.Mode.{Mode}
use Rattle.ud_model.specs.declared.kind.Mode.TheVariants.{C}
use Rattle.ud_model.proofs.text.ScanLaws.{with_next, EndsLogicalLine, ends_with, after_end}

-- A line has an ending and joins no line. No line precedes it, or a logical line ends before it.
pub record StandsAlone (before : List Reading) (l : Line) : Type 0 where
  pub begins : (before ≡ []) ⊎ EndsLogicalLine before
  pub alone : (scan_after [] C l).joins_after ≡ false
  pub has_ending : l.ending ≢ []

-- Line for line, both texts have the same line, or different ones that stand alone. All lines are
-- read in C mode.
pub data AreReadAlike : List Reading → List Reading → Type 0 where
  no_lines : AreReadAlike [] []
  same_line : {before after : List Reading} → AreReadAlike before after → (l : Line) →
      AreReadAlike (with_next before C l) (with_next after C l)
  other_line : {before after : List Reading} → AreReadAlike before after → (l k : Line) →
      StandsAlone before l → StandsAlone after k →
      AreReadAlike (with_next before C l) (with_next after C k)

-- A line that stands alone is scanned as if it were the first.
pub scanned_alone : (before : List Reading) (l : Line) → (before ≡ []) ⊎ EndsLogicalLine before → scan_after before C l ≡ scan_after [] C l
scanned_alone before l (inl e) = ap (λ rs. scan_after rs C l) e
scanned_alone before l (inr e) = ap (λ rs. scan_after rs C l) (sym (append-nil before)) ∙ after_end before [] C l e

ends_there : (before : List Reading) (l : Line) → StandsAlone before l → EndsLogicalLine (with_next before C l)
ends_there before l s = ends_with before C l (ap (λ (c : Scan). c.joins_after) (scanned_alone before l s.begins) ∙ s.alone) s.has_ending

-- Whatever follows is scanned alike.
pub scanned_alike : {before after : List Reading} → AreReadAlike before after →
    (group : List Reading) (m : Mode) (l : Line) → scan_after (before ++ group) m l ≡ scan_after (after ++ group) m l
scanned_alike no_lines group m l = refl
scanned_alike (same_line {before = before} {after = after} p k) group m l =
    let same : next_reading before C k ≡ next_reading after C k = cc (append-nil before, scanned_alike p [] C k, append-nil after) in
    ap (λ rs. scan_after rs m l) (append_assoc before (next_reading before C k ∷ []) group)
    ∙ scanned_alike p (next_reading before C k ∷ group) m l
    ∙ ap (λ (r : Reading). scan_after (after ++ r ∷ group) m l) same
    ∙ ap (λ rs. scan_after rs m l) (sym (append_assoc after (next_reading after C k ∷ []) group))
scanned_alike (other_line {before = before} {after = after} p k j s t) group m l = grind (arith, after_end, ends_there)
