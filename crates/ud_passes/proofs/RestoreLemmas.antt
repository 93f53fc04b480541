-- Restored texts: a byte more, a line without a vertical tab, and a line more.
use Rattle.std.proofs.Common.{◌≡◌, ℕ, ◌≤◌, List, [], ◌∷◌, ◌++◌, length, map, drop, false, if◌then◌else◌, refl, sym, ◌∙◌, ap, append_assoc, append-nil, arith}
use Rattle.std.specs.List.{flat_map}
use Rattle.std.proofs.lemmas.Grind.{flat_map-append}
use Rattle.std.proofs.lemmas.List.{map-append, at_drop_all}
use Rattle.std.proofs.lemmas.List.Folds.{flat_map-map}
use Rattle.ud_model.specs.text.Lines.{Line, text_of, lines_of}
use Rattle.ud_model.specs.text.Scans.{Scan, Reading}
use Rattle.ud_model.specs.text.Scanning.{next_reading, readings_after}
use Rattle.ud_model.specs.aids.ReadAs.{read_as, in_mode}
use Rattle.ud_simplified.specs.FoldedTexts.{has_tab, fits, restored_body, restored_line, restored_text}
use Rattle.ud_model.specs.declared.kind.Mode.TheVariants.{C}
use Rattle.ud_model.proofs.text.ScanBytes.{scan_after-same}
use Rattle.ud_passes.specs.Walks.{read_after, Walked}
use Rattle.ud_passes.specs.folding.Folding.{Restored}
use Rattle.ud_passes.specs.declared.walk.Walk.{Walk}
use Rattle.ud_passes.proofs.WalkLemmas.{walk_ends}

-- 1. A body.

pub body_ends : (ending bytes : List ℕ) → restored_body ending bytes [] ≡ bytes
body_ends ending [] = refl
body_ends ending (b ∷ bytes) = refl

pub body_done : (ending body masked : List ℕ) (i : ℕ) → length masked ≤ i → i ≤ length masked → restored_body ending (drop i body) (drop i masked) ≡ drop (length masked) body
body_done ending body masked i low high = let e : i ≡ length masked = omega arith in
    at_drop_all (λ (x : List ℕ). restored_body ending (drop i body) x) masked i low ∙ body_ends ending (drop i body) ∙ ap (λ (n : ℕ). drop n body) e

pub without_tab : (ending bytes masked : List ℕ) → has_tab bytes ≡ false → restored_body ending bytes masked ≡ bytes
without_tab ending [] masked h = refl
without_tab ending (b ∷ bytes) [] h = refl
without_tab ending (b ∷ bytes) (m ∷ masked) h = grind (arith, without_tab ending bytes masked)

-- 2. A line.

pub renumbered : (l : Line) (n : ℕ) → restored_line (record l { number = n }) ≡ restored_line l
renumbered l n = let k : Line = record l { number = n } in
    ap (λ (s : Scan). if fits l then restored_body l.ending l.body s.masked ++ l.ending else text_of l) (scan_after-same [] [] C k l refl refl refl)

-- 3. Places of a walk.

pub line_more : (text start : List ℕ) (walk : Walk) (out : List ℕ) (s : Restored text start walk out) (next : Walk) (more : List ℕ) (k : Line) →
    Walked C text (s.read ++ read_after C s.read k ∷ []) next.rest.now next.scanner → more ≡ out ++ restored_line k → Restored text start next more
line_more text start walk out s next more k w e = grind (arith, renumbered, append-nil, append_assoc, flat_map-append)

pub lines_read : (acc : List Reading) (ls : List Line) → map (λ (r : Reading). r.line) (readings_after acc (map (in_mode C) ls)) ≡ map (λ (r : Reading). r.line) acc ++ ls
lines_read acc [] = sym (append-nil (map (λ (r : Reading). r.line) acc))
lines_read acc (l ∷ ls) =
    grind (arith, map-append, append_assoc, lines_read (acc ++ next_reading acc C l ∷ []) ls)

pub all_restored : (text start : List ℕ) (walk : Walk) (out : List ℕ) → Restored text start walk out → walk.rest.now ≡ [] → out ≡ start ++ restored_text text
all_restored text start walk out s e =
    s.list_is ∙ ap (λ (rs : List Reading). start ++ flat_map (λ (r : Reading). restored_line r.line) rs) (walk_ends C text s.read walk.rest.now walk.scanner s.walked e)
    ∙ ap (λ (x : List ℕ). start ++ x) (sym (flat_map-map restored_line (λ (r : Reading). r.line) (read_as C text)) ∙ ap (λ (ls : List Line). flat_map restored_line ls) (lines_read [] (lines_of text)))
