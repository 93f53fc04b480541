-- The lines of a simplified text are the simplified lines, and bytes are only removed.
use Rattle.std.proofs.Common.{◌≡◌, ℕ, suc, ◌-◌, List, [], ◌∷◌, ◌++◌, length, map, take, refl, sym, ◌∙◌, ap, ap₂, subst, ◌⊎◌, inl, inr, length-append, arith, zero, drop, Bool, true, false, if◌then◌else◌}
use Rattle.std.proofs.lemmas.List.{map-append, drop-map, take_at}
use Rattle.ud_model.specs.text.Lines.{Line, NoNewline, IsWhole, IsUnterminated, AreFormed, text_of, ending_of, line_at, numbered_from, lines_of, texts_of}
use Rattle.ud_model.specs.text.Scans.{Scan, Reading}
use Rattle.ud_model.specs.text.Splicing.{content}
use Rattle.ud_model.specs.text.Lexemes.{Cell}
use Rattle.ud_model.specs.text.Scanning.{content_cells}
use Rattle.ud_model.specs.conditions.Table.{Argument}
use Rattle.ud_model.specs.conditions.Conditions.{Rules}
use Rattle.ud_simplified.specs.Sublists.{IsSublist, nothing, without, with_same}
use Rattle.ud_model.specs.sections.Directives.{Directive}
use Rattle.ud_model.specs.aids.ReadAs.{read_as, read_in}
use Rattle.ud_simplified.specs.CommentTexts.{comment_cells}
use Rattle.ud_simplified.specs.ResidualTexts.{simplified_cells}
use Rattle.ud_simplified.specs.SimplifiedTexts.{keyword_end, condition_cells, is_closing, left_cells_of, left_line, simplified_line, simplified_text}
use Rattle.ud_model.specs.declared.kind.Mode.TheVariants.{C}
use Rattle.ud_model.proofs.text.ScanBytes.{bytes-content_cells, content-prefix}
use Rattle.ud_model.proofs.text.LinesLemmas.{no_newline-append, text_of-line_at, lines_exist, map-lines_of}
use Rattle.ud_model.proofs.text.Pushes.{ByPush, none as nothing_pushed, push, by_push}
use Rattle.ud_model.proofs.output.Formed.{whole_ending, end_is_some, ending_none, ended, whole_body, no_feed_cut}
use Rattle.ud_model.proofs.output.OutputPieces.{output_lines}
use Rattle.ud_simplified.proofs.SimplifiedLines.{byte_of, bytes-comment_cells, Becomes, it_stays, it_changes, becomes}
use Rattle.ud_simplified.proofs.ResidualRead.{cells_go, of_parts}
use Rattle.std.specs.List.{concat}
use Rattle.ud_simplified.proofs.ResidualShape.{all_of_it, none_of_it, of_both, of_left}
use Rattle.ud_model.proofs.text.ScanLaws.{read_more}

pub cut_there : (b e : List ℕ) → take (length (b ++ e) - length e) (b ++ e) ≡ b
cut_there b e = take_at b e (length (b ++ e) - length e) (omega (arith, length-append b e))

-- Bytes that are left have no newline.
pub fewer : {xs ys : List ℕ} → IsSublist xs ys → NoNewline ys → NoNewline xs
fewer nothing h = tt
fewer (without p) h = fewer p h.1
fewer (with_same p) h = (h.0, fewer p h.1)

mapped : {xs ys : List Cell} → IsSublist xs ys → IsSublist (map byte_of xs) (map byte_of ys)
mapped nothing = nothing
mapped (without p) = without (mapped p)
mapped (with_same p) = with_same (mapped p)

-- Members after a position of a prefix come after it in the list.
in_longer : {xs : List ℕ} (n : ℕ) (prefix rest : List ℕ) → IsSublist xs (drop n prefix) → IsSublist xs (drop n (prefix ++ rest))
in_longer zero prefix rest p = of_left rest p
in_longer (suc n) [] rest nothing = none_of_it (drop (suc n) rest)
in_longer (suc n) (b ∷ prefix) rest p = in_longer n prefix rest p

-- A line with its own ending is the line of its bytes.
pub own_line : (k : Line) → ending_of (text_of k) ≡ k.ending → k ≡ line_at k.number (text_of k)
own_line k e = grind (arith, cut_there)

module _ (table : List Argument) (rules : Rules) where
  -- After the keyword bytes are only removed.
  pub bytes_after : (l : Line) (d : Directive) → IsSublist (map byte_of (left_cells_of table rules l d)) (drop (keyword_end d) l.body)
  bytes_after l d = by (is_closing d.kind)
    where
      go : (cells : List Cell) (bytes : List ℕ) → map byte_of cells ≡ bytes → IsSublist (map byte_of (simplified_cells table rules cells)) bytes
      go cells bytes e = subst (IsSublist (map byte_of (simplified_cells table rules cells))) e (mapped (cells_go table rules cells))

      by : (b : Bool) → IsSublist (map byte_of (simplified_cells table rules (if b then comment_cells (drop (keyword_end d) l.body) else condition_cells l d))) (drop (keyword_end d) l.body)
      by true = go (comment_cells (drop (keyword_end d) l.body)) (drop (keyword_end d) l.body) (bytes-comment_cells (drop (keyword_end d) l.body))
      by false = let n : ℕ = keyword_end d in
          let p = content-prefix l in
          subst (λ (xs : List ℕ). IsSublist (map byte_of (simplified_cells table rules (condition_cells l d))) (drop n xs)) (sym p.1)
          (in_longer n (content l) p.0 (go (condition_cells l d) (drop n (content l)) (sym (drop-map byte_of n (content_cells [] l)) ∙ ap (λ (xs : List ℕ). drop n xs) (bytes-content_cells [] l))))

  -- An edited line has no newline in its body.
  pub edited_body : (l : Line) (d : Directive) → NoNewline l.body → NoNewline (left_line table rules l d).body
  edited_body l d h = let p = no_feed_cut (keyword_end d) l.body h in
      no_newline-append (take (keyword_end d) l.body) (map byte_of (left_cells_of table rules l d)) p.0 (fewer (bytes_after l d) p.1)

  -- A line of a text, and the line that it becomes.
  record Left (n : ℕ) (t : List ℕ) (k : Line) : Type 0 where
    pub is : k ≡ line_at n (text_of k)
    pub whole : IsWhole t → IsWhole (text_of k)
    pub open_line : IsUnterminated t → IsUnterminated (text_of k)

  left_by : (n : ℕ) (t : List ℕ) (scan : Scan) (k : Line) → Becomes table rules (line_at n t) scan k → IsWhole t ⊎ IsUnterminated t → Left n t k
  left_by n t scan _ it_stays f = search (rules, text_of-line_at)
  left_by n t scan _ (it_changes d i) (inl f) = record {
    is = own_line (left_line table rules (line_at n t) d) i.ends;
    whole = λ g. ended (left_line table rules (line_at n t) d).body (ending_of t) (edited_body (line_at n t) d (whole_body t f)) (whole_ending t f);
    open_line = λ g. absurd (end_is_some (ending_of t) (whole_ending t f) (ending_none t g.1));
  }
  left_by n t scan _ (it_changes d i) (inr f) = absurd (i.some (ending_none t f.1))

  -- The lines that are read, with their numbers and texts.
  data Numbered : ℕ → List (List ℕ) → List Reading → Type 0 where
    none : {n : ℕ} → Numbered n [] []
    next : {n : ℕ} {t : List ℕ} {ts : List (List ℕ)} {r : Reading} {rs : List Reading} → r.line ≡ line_at n t → Numbered (suc n) ts rs → Numbered n (t ∷ ts) (r ∷ rs)

  numbered : (n : ℕ) (ts : List (List ℕ)) (rs : List Reading) → map (λ (r : Reading). r.line) rs ≡ numbered_from n ts → Numbered n ts rs
  numbered n [] [] e = none
  numbered n (t ∷ ts) (r ∷ rs) e = let p : r.line ≡ line_at n t = cc in
      let q : map (λ (r : Reading). r.line) rs ≡ numbered_from (suc n) ts = cc in
      next p (numbered (suc n) ts rs q)
  numbered n _ _ e = cc

  abbrev line_left : Reading → Line
  line_left r = simplified_line table rules r

  abbrev text_left : Reading → List ℕ
  text_left r = text_of (line_left r)

  left : (n : ℕ) (t : List ℕ) (r : Reading) → r.line ≡ line_at n t → IsWhole t ⊎ IsUnterminated t → Left n t (line_left r)
  left n t r e f = left_by n t r.scan (line_left r) (subst (λ (l : Line). Becomes table rules l r.scan (line_left r)) e (becomes table rules r)) f

  either_left : (n : ℕ) (t : List ℕ) (k : Line) → Left n t k → IsWhole t ⊎ IsUnterminated t → IsWhole (text_of k) ⊎ IsUnterminated (text_of k)
  either_left n t k l h = grind arith

  all_left : {n : ℕ} {ts : List (List ℕ)} {rs : List Reading} → Numbered n ts rs → AreFormed ts → AreFormed (map text_left rs) × (map line_left rs ≡ numbered_from n (map text_left rs))
  all_left none f = (tt, refl)
  all_left {n = n} (next {t = t} {r = r} e none) f =
      let l : Left n t (line_left r) = left n t r e f in
      (either_left n t (line_left r) l f, ap (λ (k : Line). k ∷ []) l.is)
  all_left {n = n} (next {t = t} {r = r} e (next {t = u} {ts = ts} {r = s} {rs = rs} g m)) f =
      let l : Left n t (line_left r) = left n t r e (inl f.0) in
      let q : AreFormed (map text_left (s ∷ rs)) × (map line_left (s ∷ rs) ≡ numbered_from (suc n) (map text_left (s ∷ rs))) =
      all_left (next {r = s} {rs = rs} g m) f.1 in
      ((l.whole f.0, q.0), ap₂ (λ (k : Line) (ks : List Line). k ∷ ks) l.is q.1)

  -- The readings of lines are of these lines.
  pub read_back_by : {ls : List Line} → ByPush ls → map (λ (r : Reading). r.line) (read_in C ls) ≡ ls
  read_back_by nothing_pushed = refl
  read_back_by (push {xs = ls} l p) = grind (arith, read_more, map-append, read_back_by p)

  -- The lines of the simplified text.
  pub lines_left : (bytes : List ℕ) → lines_of (simplified_text table rules bytes) ≡ map (simplified_line table rules) (read_as C bytes)
  lines_left bytes =
      let a = all_left (numbered 1 (texts_of bytes) (read_as C bytes) (read_back_by (by_push (lines_of bytes)))) (lines_exist bytes).formed in
      output_lines (map text_left (read_as C bytes)) a.0 ∙ sym a.1

-- Bytes are only removed.

module _ (table : List Argument) (rules : Rules) where
  left_body : (l : Line) (d : Directive) → IsSublist (left_line table rules l d).body l.body
  left_body l d = of_parts (keyword_end d) l.body (all_of_it (take (keyword_end d) l.body)) (bytes_after table rules l d)

  -- Of a line bytes are only removed.
  pub line_bytes : (l : Line) (scan : Scan) (k : Line) → Becomes table rules l scan k → IsSublist (text_of k) (text_of l)
  line_bytes l scan c b = grind (arith, all_of_it, of_both, left_body)

  left_bytes : (rs : List Reading) → IsSublist (concat (map (λ (r : Reading). text_of (simplified_line table rules r)) rs)) (concat (map (λ (r : Reading). text_of r.line) rs))
  left_bytes [] = nothing
  left_bytes (r ∷ rs) = of_both (line_bytes r.line r.scan (simplified_line table rules r) (becomes table rules r)) (left_bytes rs)

  texts_back : (rs : List Reading) → map (λ (r : Reading). text_of r.line) rs ≡ map text_of (map (λ (r : Reading). r.line) rs)
  texts_back [] = refl
  texts_back (r ∷ rs) = ap (λ (ts : List (List ℕ)). text_of r.line ∷ ts) (texts_back rs)

  -- Of a text bytes are only removed.
  pub bytes_left : (bytes : List ℕ) → IsSublist (simplified_text table rules bytes) bytes
  bytes_left bytes = subst (λ (xs : List ℕ). IsSublist (simplified_text table rules bytes) xs)
      (ap concat (texts_back (read_as C bytes) ∙ ap (λ (ls : List Line). map text_of ls)
      (read_back_by table rules (by_push (lines_of bytes))) ∙ map-lines_of bytes) ∙ sym (lines_exist bytes).joined)
      (left_bytes (read_as C bytes))
