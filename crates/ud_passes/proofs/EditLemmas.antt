-- Edited lines: the line that is edited, and the line that is read.
use Rattle.std.proofs.Common.{◌≡◌, ℕ, ◌-◌, List, [], ◌++◌, length, map, take, drop, Bool, true}
use Rattle.std.proofs.Common.{false, if◌then◌else◌, bytes_eq, refl, sym, ◌∙◌, ap, subst, ◌⊎◌, arith}
use Rattle.std.proofs.Common.{take-append-drop}
use Rattle.std.proofs.lemmas.List.{take_all}
use Rattle.std.proofs.lemmas.Bool.{and_right}
use Rattle.std.proofs.lemmas.Slice.Eq.{bytes_eq-Decides}
use Rattle.ud_model.specs.text.Lines.{Line, NoNewline, IsWhole, text_of, ending_of, line_at, is_ending}
use Rattle.ud_model.specs.text.Scans.{Scan, Reading}
use Rattle.ud_model.specs.text.Splicing.{is_empty}
use Rattle.ud_model.specs.text.Lexemes.{Cell, shown}
use Rattle.ud_model.specs.text.Scanning.{scan_after_run}
use Rattle.ud_model.specs.sections.Directives.{Content, directive, Directive, content_of}
use Rattle.ud_model.specs.conditions.Table.{Argument}
use Rattle.ud_model.specs.conditions.Conditions.{Rules}
use Rattle.ud_simplified.specs.ResidualTexts.{simplified_cells}
use Rattle.ud_simplified.specs.CommentTexts.{comment_cells}
use Rattle.ud_simplified.specs.SimplifiedTexts.{keyword_end, condition_cells, is_closing}
use Rattle.ud_simplified.specs.SimplifiedTexts.{text_cells, same_kind, has_directive, is_lone}
use Rattle.ud_simplified.specs.SimplifiedTexts.{left_cells_of, left_line, is_read_alone, line_by}
use Rattle.ud_simplified.specs.SimplifiedTexts.{simplified_line}
use Rattle.ud_model.proofs.text.LinesLemmas.{text_of-line_at}
use Rattle.ud_model.proofs.output.Formed.{IsEnd, ended}
use Rattle.ud_simplified.proofs.SimplifiedLines.{after_is, condition_text, text_bytes}
use Rattle.ud_text.specs.lines.LinesState.{UpToNewline}
use Rattle.ud_text.proofs.lemmas.lines.NewlineLemmas.{up_to_newline-once}
use Rattle.ud_passes.specs.pruning.Cells.{AreCells, byte_of}
use Rattle.ud_passes.specs.pruning.EditedLines.{c_reading, IsScannedAlone, is_meant, IsAlone, line_if_read, IsEditedAt}
use Rattle.ud_model.proofs.text.ScanLaws.{unspliced}
use Rattle.ud_simplified.proofs.SimplifiedLineTexts.{edited_body, cut_there}

-- 1. Sublists.

pub same_cut : (b a c : List ℕ) → b ++ c ≡ a ++ c → b ≡ a
same_cut b a c q = sym (cut_there b c) ∙ ap (λ (x : List ℕ). take (length x - length c) x) q ∙ cut_there a c

same_line : (a b : Line) → a.body ≡ b.body → a.ending ≡ b.ending → a.number ≡ b.number → a ≡ b
same_line a b p q r = grind arith

-- The line `e` that is read of the bytes of a whole line `k`.
module _ (k : Line) (no : NoNewline k.body) (end : IsEnd k.ending) (bytes : List ℕ)
    (bytes_are : bytes ≡ text_of k) (n : ℕ) (e : Line) (w : Bool)
    (to : UpToNewline bytes (length (text_of e)) w)
    (is : e ≡ line_at n (take (length (text_of e)) bytes)) where
  whole : IsWhole bytes
  whole = subst IsWhole (sym bytes_are) (ended k.body k.ending no end)

  line_read : e ≡ line_at n bytes
  line_read =
      let all : UpToNewline bytes (length bytes) true = grind (arith, whole, take_all) in
      let once = up_to_newline-once bytes (length (text_of e)) (length bytes) w true to all in
      grind (arith, take_all, once)

  pub ending_read : e.ending ≡ ending_of (text_of k)
  ending_read = grind (arith, line_read)

  -- With the same ending, it has the same body.
  pub body_read : e.ending ≡ k.ending → e.body ≡ k.body
  body_read same = same_cut e.body k.body k.ending (ap (λ (x : List ℕ). e.body ++ x) (sym same)
      ∙ ap text_of line_read ∙ text_of-line_at n bytes ∙ bytes_are)

-- 2. Other directives.

no_directive : (d : Directive) (bytes : List ℕ) (k : Line) (c : Content) → same_kind d.kind d.kind ≡ false → has_directive d bytes k c ≡ false
no_directive d bytes k c e = grind arith

module _ (table : List Argument) (rules : Rules) (l : Line) where
  -- A directive of another kind stays.
  pub other_stays : (scan : Scan) (d : Directive) → same_kind d.kind d.kind ≡ false → line_by table rules scan l (directive d) ≡ l
  other_stays scan d e = grind (arith, and_right, no_directive)

-- 3. A line with a directive.

module _ (table : List Argument) (rules : Rules) (l : Line) (d : Directive) (i : IsAlone l d) where
  bytes_after_are : map byte_of (text_cells l d) ≡ drop (keyword_end d) l.body
  bytes_after_are = text_bytes table rules l d (unspliced l i.lone)

  pub cells_are : {text : List ℕ} → map shown (text_cells l d) ≡ text → AreCells (text_cells l d) (drop (keyword_end d) l.body) text
  cells_are e = record { bytes_are = bytes_after_are; shown_are = e }

  -- The text of a condition comes after the keyword.
  pub condition_shown : is_closing d.kind ≡ false → map shown (text_cells l d) ≡ d.after
  condition_shown e = ap (map shown) (condition_text table rules l d e) ∙ after_is table rules l (scan_after_run [] l) d refl i.has

  same_either : (b : Bool) (k : Line) → text_of k ≡ text_of l → text_of (if b then k else l) ≡ text_of l
  same_either b k e = grind arith

  -- If all cells are left, the line stays.
  pub all_left : simplified_cells table rules (text_cells l d) ≡ text_cells l d → text_of (line_if_read table rules l d) ≡ text_of l
  all_left e = let n : ℕ = keyword_end d in
      let whole : (left_line table rules l d).body ≡ l.body =
      ap (λ (cells : List Cell). take n l.body ++ map byte_of cells) e ∙ ap (λ (x : List ℕ). take n l.body ++ x) bytes_after_are ∙ take-append-drop n l.body in
      same_either (is_read_alone table rules l d) (left_line table rules l d) (ap (λ (x : List ℕ). x ++ l.ending) whole)

  abbrev k : Line
  k = left_line table rules l d

  -- The text of a comment.
  pub comment_shown : is_closing d.kind ≡ true → map shown (text_cells l d) ≡ map shown (comment_cells (drop (keyword_end d) l.body))
  comment_shown e = ap (λ (b : Bool). map shown (if b then comment_cells (drop (keyword_end d) l.body) else condition_cells l d)) e

  module _ (no : NoNewline l.body) (end : IsEnd l.ending) (bytes : List ℕ) (bytes_are : bytes ≡ text_of k) where
    no_newline : NoNewline k.body
    no_newline = edited_body table rules l d no

    -- The line that is read of these bytes.
    module _ (e : Line) (w : Bool) (to : UpToNewline bytes (length (text_of e)) w) (is : e ≡ line_at l.number (take (length (text_of e)) bytes)) where
      read_ending : e.ending ≡ ending_of (text_of k)
      read_ending = ending_read k no_newline end bytes bytes_are l.number e w to is

      -- Another ending.
      pub other_ending : bytes_eq e.ending l.ending ≡ false → text_of (line_if_read table rules l d) ≡ text_of l
      other_ending f = grind (arith, read_ending)

      module _ (same : e.ending ≡ l.ending) where
        body_same : e.body ≡ k.body
        body_same = body_read k no_newline end bytes bytes_are l.number e w to is same

        number_is : e.number ≡ l.number
        number_is = grind arith

        e_is : e ≡ k
        e_is = same_line e k body_same same number_is

        -- An edited line with the same bytes stays.
        pub same_bytes : bytes_eq e.body l.body ≡ true → text_of (line_if_read table rules l d) ≡ text_of l
        same_bytes f = grind (arith, bytes_eq-Decides, same_either, e_is)

        -- Other bytes, if they are read so.
        pub edited_if : bytes_eq e.body l.body ≡ false → (b : Bool) → b ≡ is_meant d (map shown (left_cells_of table rules l d)) e (scan_after_run [] e) → IsEditedAt table rules l d b bytes
        edited_if f b m =
            grind (arith, e_is, read_ending, same_cut, ap text_of e_is ∙ sym bytes_are, bytes_eq-Decides)

-- 4. A line that joins no other one.

pub is_end : (e : List ℕ) → is_ending e ≡ true → is_empty e ≡ false → IsEnd e
is_end e h n = grind (arith, IsEnd, bytes_eq-Decides)

module _ (table : List Argument) (rules : Rules) (l : Line) (scan : Scan) where
  abbrev r : Reading
  r = c_reading l scan

  -- A line that joins another one, or has no ending, stays.
  pub joined_stays : is_lone scan l ≡ false → text_of (simplified_line table rules r) ≡ text_of l
  joined_stays e = grind arith

  pub joins_by : (scan.joins_before ≡ true) ⊎ ((scan.joins_after ≡ true) ⊎ (is_empty l.ending ≡ true)) → is_lone scan l ≡ false
  joins_by h = grind arith

  module _ (d : Directive) (alone : IsScannedAlone scan l) (before : scan.joins_before ≡ false) (after : scan.joins_after ≡ false) (some : is_empty l.ending ≡ false) (h : content_of scan ≡ directive d) where
    pub alone_is : IsAlone l d
    alone_is = grind arith

    pub simplified_is : simplified_line table rules r ≡ line_if_read table rules l d
    simplified_is = grind arith
