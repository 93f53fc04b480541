-- Untouched texts: text lines more, a line more, and the end of the text.
use Rattle.std.proofs.Common.{◌≡◌, ℕ, List, [], ◌∷◌, ◌++◌, map, Bool, true, false, None, if◌then◌else◌, refl, sym, ◌∙◌, ap, subst, append-nil, arith}
use Rattle.std.specs.List.{concat}
use Rattle.std.proofs.lemmas.Simd.{map-map}
use Rattle.std.proofs.lemmas.Slice.Eq.{bytes_eq-Decides}
use Rattle.ud_model.specs.text.Lines.{Line, text_of, lines_of}
use Rattle.ud_model.specs.text.Scans.{Scan, Reading}
use Rattle.ud_model.specs.text.Scanning.{scan_after}
use Rattle.ud_model.specs.conditions.Table.{Argument}
use Rattle.ud_model.specs.conditions.Conditions.{Rules}
use Rattle.ud_model.specs.aids.ReadAs.{read_as}
use Rattle.ud_model.specs.declared.kind.Mode.TheVariants.{C}
use Rattle.ud_model.proofs.output.Changed.{lines_join}
use Rattle.ud_simplified.specs.FoldedTexts.{has_tab, folded_lines}
use Rattle.ud_passes.specs.Passes.{fits}
use Rattle.ud_passes.specs.Walks.{read_after, AreTexts, HaveBytes, Walked}
use Rattle.ud_passes.specs.folding.Folding.{FoldsReading}
use Rattle.ud_passes.specs.folding.LogicalLines.{begins}
use Rattle.ud_passes.specs.pruning.Passing.{Pruned}
use Rattle.ud_passes.specs.pruning.PrunedTexts.{pruned_bytes, edited_among}
use Rattle.ud_passes.specs.UntouchedTexts.{IsUntouched, LeavesLine, StayedTo}
use Rattle.ud_passes.specs.declared.folding.logical.LogicalLine.{LogicalLine}
use Rattle.ud_passes.specs.declared.walk.Walk.{Walk}
use Rattle.ud_passes.proofs.FoldLemmas.{takes_line, long_taken, line_folded, texts_folded, first_folded, all_folded}
use Rattle.ud_passes.proofs.PassLemmas.{texts_more, long_more, line_pruned, first_place}
use Rattle.ud_passes.proofs.RestoreLemmas.{lines_read}
use Rattle.ud_passes.proofs.WalkLemmas.{walk_ends}

-- Lines of which none is edited keep their bytes.
unedited : (table : List Argument) (rules : Rules) (rs : List Reading) → edited_among table rules rs ≡ 0 →
    concat (map (pruned_bytes table rules) rs) ≡ concat (map (λ (r : Reading). text_of r.line) rs)
unedited table rules [] e = refl
unedited table rules (r ∷ rs) e = grind (arith, bytes_eq-Decides, unedited table rules rs)

-- The lines of a text are its bytes.
all_bytes : (bytes : List ℕ) → concat (map (λ (r : Reading). text_of r.line) (read_as C bytes)) ≡ bytes
all_bytes bytes =
    ap concat (sym (map-map text_of (λ (r : Reading). r.line) (read_as C bytes)) ∙ ap (map text_of) (lines_read [] (lines_of bytes))) ∙ lines_join bytes

module _ (table : List Argument) (rules : Rules) (text : List ℕ) where
  pub first_stayed : (walk : Walk) → Walked C text [] walk.rest.now walk.scanner → StayedTo table rules text walk
  first_stayed walk w = record { done = []; pruned = first_place table rules text [] walk w; folded = λ l. first_folded text [] l walk w }

  pub all_untouched : (walk : Walk) → StayedTo table rules text walk → LogicalLine → walk.rest.now ≡ [] → IsUntouched table rules text
  all_untouched walk s l e = record { unfolded = by (has_tab text); unpruned = sym bytes ∙ whole; unedited = sym count }
    where
      all : s.pruned.read ≡ read_as C text
      all = walk_ends C text s.pruned.read walk.rest.now walk.scanner s.pruned.walked e

      bytes : s.done ≡ concat (map (pruned_bytes table rules) (read_as C text))
      bytes = s.pruned.list_is ∙ ap (λ (rs : List Reading). concat (map (pruned_bytes table rules) rs)) all

      count : 0 ≡ edited_among table rules (read_as C text)
      count = s.pruned.count_is ∙ ap (edited_among table rules) all

      whole : s.done ≡ text
      whole = bytes ∙ unedited table rules (read_as C text) (sym count) ∙ all_bytes text

      lines : s.done ≡ folded_lines (read_as C text)
      lines = all_folded text [] l None walk s.done s.done (s.folded l) e (let none = (s.folded l).is_group in grind (arith, append-nil))

      by : (tab : Bool) → (if tab then text else folded_lines (read_as C text)) ≡ text
      by true = refl
      by false = sym lines ∙ whole

  module _ (walk next : Walk) (s : StayedTo table rules text walk) where
    pub texts_stayed : (bytes : List ℕ) →
        ((read : List Reading) → Walked C text read walk.rest.now walk.scanner → (rs : List Reading) × AreTexts rs × HaveBytes bytes rs × Walked C text (read ++ rs) next.rest.now next.scanner) →
        StayedTo table rules text next
    texts_stayed bytes h = record {
      done = s.done ++ bytes;
      pruned = let n = h s.pruned.read s.pruned.walked in texts_more table rules text [] 0 walk s.done s.pruned next (s.done ++ bytes) bytes n.0 n.1 n.2 refl n.3;
      folded = λ l. let f = s.folded l in let n = h f.read f.walked in texts_folded text [] l None walk s.done f l next (s.done ++ bytes) refl bytes n.0 n.1 n.2 n.3 refl;
    }

    module _ (k : Line) (h : (read : List Reading) → Walked C text read walk.rest.now walk.scanner → Walked C text (read ++ read_after C read k ∷ []) next.rest.now next.scanner) where
      line_stayed : Pruned table rules text [] 0 next (s.done ++ text_of k) →
          ((l : LogicalLine) → FoldsReading (read_after C (s.folded l).read k) (s.folded l).group s.done l None (s.done ++ text_of k)) → StayedTo table rules text next
      line_stayed p f = record {
        done = s.done ++ text_of k;
        pruned = p;
        folded = λ l. let g = s.folded l in line_folded text [] l None walk s.done g l next (s.done ++ text_of k) None k (h g.read g.walked) (f l);
      }

      pub long_stayed : fits k ≡ false → StayedTo table rules text next
      long_stayed e = line_stayed (long_more table rules text [] 0 walk s.done s.pruned next (s.done ++ text_of k) k (h s.pruned.read s.pruned.walked) e refl)
          (λ l. let g = s.folded l in long_taken (read_after C g.read k) s.done l None g.group (s.done ++ text_of k) e g.is_group tt (let none = g.is_group in grind (arith, append-nil)) l)

      pub short_stayed : (scan : Scan) → ((read : List Reading) → Walked C text read walk.rest.now walk.scanner → scan ≡ scan_after read C k) → LeavesLine table rules k scan → StayedTo table rules text next
      short_stayed scan q n = line_stayed (line_pruned table rules text [] 0 walk s.done s.pruned next (s.done ++ text_of k) k (h s.pruned.read s.pruned.walked) 0 false refl scan (q s.pruned.read s.pruned.walked) (n.unedited s.done))
          (λ l. let g = s.folded l in subst (λ (x : List Reading). FoldsReading (read_after C g.read k) x s.done l None (s.done ++ text_of k)) (sym g.is_group)
          (takes_line (read_after C g.read k) s.done l (s.done ++ text_of k) refl (ap begins (sym (q g.read g.walked)) ∙ n.unbegun)))
