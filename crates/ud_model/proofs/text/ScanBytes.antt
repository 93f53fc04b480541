-- Scans: a masked byte has its position in the body, and the numbers of lines never count.
use Rattle.std.proofs.Common.{◌≡◌, ℕ, zero, suc, ◌-◌, List, [], ◌∷◌, ◌++◌, length, take, drop, map, Bool, true, false, if◌then◌else◌, refl, sym, ◌∙◌, ap, ap₂, append-nil, arith}
use Rattle.std.proofs.lemmas.List.{take_at, drop_at, length-map, take-map, drop-map, map-append, take-append-drop}
use Rattle.ud_model.specs.text.Lines.{Line}
use Rattle.ud_model.specs.text.Scans.{Reading, plain_scan}
use Rattle.ud_model.specs.text.Splicing.{is_spliced, content, newline_of, spliced_part, spliced_text, extended_run, c_run_from, c_run_of, last_is_spliced}
use Rattle.ud_model.specs.text.Lexemes.{LexemeKind, single, Cell, lexeme_at, lex_from, lex, shown}
use Rattle.ud_model.specs.text.Scanning.{joins, content_cells, scan_after_run, scan_after}
use Rattle.ud_model.specs.declared.kind.Mode.{Mode}
use Rattle.ud_model.specs.declared.kind.Mode.TheVariants.{C, Plain}

-- The cells of a text have its bytes, from any state on.
bytes-lex_from : (k : LexemeKind) (n : ℕ) (u : List ℕ) → map (λ (c : Cell). c.byte) (lex_from k n u) ≡ u
unfolding lex_from
bytes-lex_from k n [] = refl
bytes-lex_from k zero (a ∷ u) = ap (λ (l : List ℕ). a ∷ l) (bytes-lex_from (lexeme_at a u).kind (lexeme_at a u).more u)
bytes-lex_from k (suc n) (a ∷ u) = ap (λ (l : List ℕ). a ∷ l) (bytes-lex_from k n u)

-- The cells of a text have its bytes.
pub bytes-lex : (u : List ℕ) → map (λ (c : Cell). c.byte) (lex u) ≡ u
unfolding lex
bytes-lex u = bytes-lex_from single 0 u

-- The cells of a line have the bytes of its content.
pub bytes-content_cells : (run : List Line) (line : Line) → map (λ (c : Cell). c.byte) (content_cells run line) ≡ content line
bytes-content_cells run line =
    sym (take-map (λ (c : Cell). c.byte) (length (content line)) (drop (length (spliced_text run)) (lex (spliced_text run ++ spliced_part line))))
    ∙ ap (λ (l : List ℕ). take (length (content line)) l)
    (sym (drop-map (λ (c : Cell). c.byte) (length (spliced_text run)) (lex (spliced_text run ++ spliced_part line)))
    ∙ ap (λ (l : List ℕ). drop (length (spliced_text run)) l) (bytes-lex (spliced_text run ++ spliced_part line))
    ∙ drop_at (spliced_text run) (spliced_part line) (length (spliced_text run)) refl)
    ∙ take_at (content line) (newline_of line) (length (content line)) refl

-- The masked line shows the cells of the line's content.
pub masked-content_cells : (before : List Reading) (line : Line) → (scan_after before C line).masked ≡ map shown (content_cells (c_run_of before) line)
unfolding scan_after_run
masked-content_cells before line = refl

-- The masked line has as many bytes as the line's content.
pub length-masked : (before : List Reading) (line : Line) → length (scan_after before C line).masked ≡ length (content line)
length-masked before line =
    ap (λ (l : List ℕ). length l) (masked-content_cells before line) ∙ length-map (content_cells (c_run_of before) line) shown
    ∙ sym (length-map (content_cells (c_run_of before) line) (λ (c : Cell). c.byte))
    ∙ ap (λ (l : List ℕ). length l) (bytes-content_cells (c_run_of before) line)

-- The body begins with the line's content.
pub content-prefix : (line : Line) → (rest : List ℕ) × (line.body ≡ content line ++ rest)
content-prefix line = by_splice (is_spliced line)
  where
    by_splice : (t : Bool) → (rest : List ℕ) × (line.body ≡ (if t then take (length line.body - 1) line.body else line.body) ++ rest)
    by_splice true = (drop (length line.body - 1) line.body, sym (take-append-drop (length line.body - 1) line.body))
    by_splice false = ([], sym (append-nil line.body))

-- A line without its number.
abbrev pub unnumbered : Line → Line
unnumbered line = record { body = line.body; ending = line.ending; number = 0 }

-- A reading without the number of its line, and without its scan.
abbrev pub bare : Reading → Reading
bare r = record { line = unnumbered r.line; mode = r.mode; scan = plain_scan (unnumbered r.line) }

c_run_from-bare : (run : List Line) (before : List Reading) → c_run_from (map unnumbered run) (map bare before) ≡ map unnumbered (c_run_from run before)
c_run_from-bare run [] = refl
c_run_from-bare run (r ∷ before) = grind (arith, map-append, c_run_from-bare (extended_run run r.mode r.line) before)

spliced_text-unnumbered : (run : List Line) → spliced_text (map unnumbered run) ≡ spliced_text run
spliced_text-unnumbered [] = refl
spliced_text-unnumbered (line ∷ run) = ap (λ (l : List ℕ). spliced_part line ++ l) (spliced_text-unnumbered run)

last_is_spliced-unnumbered : (run : List Line) → last_is_spliced (map unnumbered run) ≡ last_is_spliced run
last_is_spliced-unnumbered (line ∷ next ∷ run) = last_is_spliced-unnumbered (next ∷ run)
last_is_spliced-unnumbered _ = refl

joins-unnumbered : (run : List Line) → joins (map unnumbered run) ≡ joins run
unfolding joins
joins-unnumbered run = grind (arith, last_is_spliced-unnumbered, spliced_text-unnumbered)

scan_after_run-unnumbered : (run : List Line) (line : Line) → scan_after_run (map unnumbered run) (unnumbered line) ≡ scan_after_run run line
unfolding scan_after_run
scan_after_run-unnumbered run line =
    let text : spliced_text (map unnumbered run) ≡ spliced_text run = spliced_text-unnumbered run in
    let here : joins (map unnumbered run) ≡ joins run = joins-unnumbered run in
    let later : joins (map unnumbered run ++ unnumbered line ∷ []) ≡ joins (run ++ line ∷ []) =
    ap joins (sym (map-append unnumbered run (line ∷ []))) ∙ joins-unnumbered (run ++ line ∷ []) in
    simp (text, here, later) refl

scan_after-bare : (before : List Reading) (m : Mode) (line : Line) → scan_after (map bare before) m (unnumbered line) ≡ scan_after before m line
scan_after-bare before C line = cc (c_run_from-bare [] before, scan_after_run-unnumbered (c_run_of before) line)
scan_after-bare before Plain line = refl

-- A scan depends on the bodies, endings and modes of the lines alone.
pub scan_after-same : (before others : List Reading) (m : Mode) (line other : Line) → map bare before ≡ map bare others →
    line.body ≡ other.body → line.ending ≡ other.ending → scan_after before m line ≡ scan_after others m other
scan_after-same before others m line other same body ending = sym (scan_after-bare before m line)
    ∙ ap₂ (λ (rs : List Reading) (l : Line). scan_after rs m l) same
    (ap₂ (λ (b e : List ℕ). let l : Line = record { body = b; ending = e; number = 0 } in l) body ending)
    ∙ scan_after-bare others m other
