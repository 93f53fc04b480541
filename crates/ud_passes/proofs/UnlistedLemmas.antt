-- Unlisted conditions: those of one line more, and of many text lines more.
use Rattle.std.proofs.Common.{◌≡◌, ℕ, ◌+◌, List, [], ◌∷◌, ◌++◌, length, append_assoc, append-nil}
use Rattle.std.proofs.Common.{take, drop, take-append-drop, Bool, true, false, if◌then◌else◌, refl}
use Rattle.std.proofs.Common.{sym, ◌∙◌, ap, arith}
use Rattle.std.specs.List.{filter}
use Rattle.std.proofs.lemmas.List.Elements.{filter-append}
use Rattle.std.proofs.lemmas.List.Sums.{sum_by-append}
use Rattle.std.proofs.lemmas.Grind.{common_steps, flat_map-append}
use Rattle.std.proofs.lemmas.List.{take_all}
use Rattle.std.proofs.Math.Nat.{le_refl}
use Rattle.ud_model.specs.text.Lines.{Line, NoNewline, SplitLines, split_lines, last_line, line_at, numbered_from, lines_of, text_of}
use Rattle.ud_model.proofs.text.LinesLemmas.{split_lines-line-prefix, split_lines-open}
use Rattle.ud_text.specs.lines.LinesState.{UpToNewline}
use Rattle.ud_simplified.specs.FoldedTexts.{restored_line}
use Rattle.ud_model.specs.text.Scans.{Reading}
use Rattle.ud_passes.specs.Passes.{numbered_line}
use Rattle.ud_passes.specs.Walks.{read_after, AreTexts, HaveBytes, Walked}
use Rattle.ud_passes.specs.folding.LogicalLines.{plain_lines}
use Rattle.ud_passes.specs.declared.names.texts.File.{File}
use Rattle.ud_passes.specs.declared.names.texts.Found.{Found}
use Rattle.ud_passes.specs.declared.walk.Walk.{Walk}
use Rattle.ud_passes.specs.names.UnlistedConditions.{is_unlisted_line, breaks, first_body}
use Rattle.ud_passes.specs.names.UnlistedConditions.{shown_body, listed_from}
use Rattle.ud_passes.specs.names.UnlistedLines.{Listed}
use Rattle.ud_passes.proofs.RestoreLemmas.{renumbered}
use Rattle.ud_passes.proofs.FoldLemmas.{plain_bytes}

pub texts_unlisted : (rs : List Reading) → AreTexts rs → filter is_unlisted_line rs ≡ []
texts_unlisted [] h = refl
texts_unlisted (r ∷ rs) h = grind (arith, texts_unlisted rs h.1)

unlisted-append : (before rs : List Reading) → filter is_unlisted_line (before ++ rs) ≡ filter is_unlisted_line before ++ filter is_unlisted_line rs
unlisted-append before rs = filter-append is_unlisted_line before rs

breaks-append : (folded : Bool) (xs ys : List ℕ) → breaks folded (xs ++ ys) ≡ breaks folded xs + breaks folded ys
breaks-append folded xs ys = sum_by-append _ xs ys

lines-append : (before rs : List Reading) → plain_lines (before ++ rs) ≡ plain_lines before ++ plain_lines rs
lines-append before rs = flat_map-append (λ (r : Reading). text_of r.line) before rs

breaks-lines : (folded : Bool) (before rs : List Reading) → breaks folded (plain_lines (before ++ rs)) ≡ breaks folded (plain_lines before) + breaks folded (plain_lines rs)
breaks-lines folded before rs = ap (λ (x : List ℕ). breaks folded x) (lines-append before rs) ∙ breaks-append folded (plain_lines before) (plain_lines rs)

-- The list of lines, and then of others.
from-append : (file : List ℕ) (folded : Bool) (n : ℕ) (before rs : List Reading) →
    listed_from file folded n (before ++ rs) ≡ listed_from file folded n before ++ listed_from file folded (n + breaks folded (plain_lines before)) rs
from-append file folded n [] rs = grind arith
from-append file folded n (r ∷ before) rs = let m = n + breaks folded (text_of r.line) in
    let e = breaks-append folded (text_of r.line) (plain_lines before) in
    grind (arith, append_assoc, e, from-append file folded m before rs)

-- Text lines aren't listed.
texts_from : (file : List ℕ) (folded : Bool) (n : ℕ) (rs : List Reading) → AreTexts rs → listed_from file folded n rs ≡ []
texts_from file folded n [] h = refl
texts_from file folded n (r ∷ rs) h =
    grind (arith, texts_from file folded (n + breaks folded (text_of r.line)) rs h.1)

shown_renumbered : (folded : Bool) (k : Line) (n : ℕ) → shown_body folded (record k { number = n }) ≡ shown_body folded k
shown_renumbered true k n = grind (arith, renumbered)
shown_renumbered false k n = refl

-- The first line of a text.
first_of_all : (s : List ℕ) → NoNewline s → first_body (lines_of s) ≡ (line_at 1 s).body
unfolding split_lines
first_of_all [] none = refl
first_of_all (b ∷ bs) none = ap (λ (q : SplitLines). first_body (numbered_from 1 (q.whole ++ last_line q.rest))) (split_lines-open (b ∷ bs) none)

first_of_up_to : (s : List ℕ) (used : ℕ) (whole : Bool) → UpToNewline s used whole → first_body (lines_of s) ≡ (line_at 1 (take used s)).body
first_of_up_to s used true up =
    let first = split_lines-line-prefix (take used s) (drop used s) (up.line refl) in
    grind (arith, take-append-drop, first)
first_of_up_to s used false up = grind (arith, first_of_all, take_all, le_refl)

pub first_shown : (l k : Line) (s : List ℕ) (used : ℕ) (whole : Bool) → s ≡ restored_line l → UpToNewline s used whole → k ≡ line_at 1 (take used s) → k.body ≡ shown_body true l
first_shown l k s used whole e up is = grind (arith, is, first_of_up_to s used whole up, e)

-- The place of a walk after more lines.
module _ (file : File) (text start : List ℕ) (found : Found) (walk : Walk) (out : List ℕ) (l : Listed file text start found walk out) (next : Walk) where
  -- After the lines `rs`.
  more_lines : (rs : List Reading) → Walked file.mode text (l.read ++ rs) next.rest.now next.scanner → (after : Found) →
      after.count ≡ found.count + length (filter is_unlisted_line rs) → (file.lists ≡ true → after.number ≡ found.number + breaks file.folded (plain_lines rs)) →
      (more : List ℕ) → more ≡ out ++ (if file.lists then listed_from file.name.now file.folded found.number rs else []) → Listed file text start after next more
  more_lines rs w after counts numbers more m =
      grind (arith, common_steps, unlisted-append, from-append, breaks-lines, append_assoc)

  pub texts_more : (bytes : List ℕ) (rs : List Reading) → AreTexts rs → HaveBytes bytes rs → Walked file.mode text (l.read ++ rs) next.rest.now next.scanner → (n : ℕ) →
      (file.lists ≡ true → n ≡ breaks file.folded bytes) → Listed file text start (record { count = found.count; number = found.number + n }) next out
  texts_more bytes rs h b w n m = more_lines rs w (record { count = found.count; number = found.number + n }) (grind (arith, texts_unlisted rs h))
      (λ t. grind (arith, m t, plain_bytes, b.bytes_are)) out (grind (arith, append-nil, texts_from file.name.now file.folded found.number rs h))

  module _ (k : Line) (w : Walked file.mode text (l.read ++ read_after file.mode l.read k ∷ []) next.rest.now next.scanner) (after : Found)
      (numbers : file.lists ≡ true → after.number ≡ found.number + breaks file.folded (text_of k)) where
    abbrev r : Reading
    r = read_after file.mode l.read k

    number_after : file.lists ≡ true → after.number ≡ found.number + breaks file.folded (plain_lines (r ∷ []))
    number_after t = numbers t ∙ ap (λ (x : List ℕ). found.number + breaks file.folded x) (sym (append-nil (text_of k)))

    pub line_more : is_unlisted_line r ≡ false → after.count ≡ found.count → Listed file text start after next out
    line_more e same = more_lines (r ∷ []) w after (grind arith) number_after out (grind (arith, append-nil))

    pub line_found : is_unlisted_line r ≡ true → after.count ≡ found.count + 1 → (more : List ℕ) →
        more ≡ out ++ (if file.lists then numbered_line file.name.now found.number (shown_body file.folded k) else []) → Listed file text start after next more
    line_found e counts more m = more_lines (r ∷ []) w after (grind arith) number_after more
        (grind (arith, append-nil, shown_renumbered file.folded k (1 + length l.read)))

pub first_place : (file : File) (all start : List ℕ) (walk : Walk) → Walked file.mode all [] walk.rest.now walk.scanner → Listed file all start (record { count = 0; number = 1 }) walk start
first_place file all start walk w = grind (arith, append-nil)
