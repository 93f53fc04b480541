-- Squeezed readings: the lines of an output are read as those of its squeezed text, but for blank
-- lines.
use Rattle.std.proofs.Common.{◌≡◌, ℕ, suc, List, [], ◌∷◌, ◌++◌, map, Bool, true, false, if◌then◌else◌, ◌⊎◌, inl, inr, append_assoc, append-nil, refl, sym, ◌∙◌, ap, ap₂, subst, arith}
use Rattle.ud_model.specs.text.Lines.{Line, line_at, numbered_from, texts_of, lines_of, ending_of, IsWhole, IsUnterminated, AreFormed}
use Rattle.ud_model.specs.text.Scans.{Scan, Reading, plain_scan}
use Rattle.ud_model.specs.text.Splicing.{content, stays_open}
use Rattle.ud_model.specs.text.Scanning.{scan_after, scan_after_run, readings_after}
use Rattle.ud_model.specs.aids.LexStates.{LexState, in_text, state_after_line, white_after_line}
use Rattle.ud_model.specs.aids.ReadAs.{read_as, in_mode}
use Rattle.ud_model.specs.sections.Tree.{Item, Nodes, closed, lines_of_nodes}
use Rattle.ud_model.specs.sections.Items.{Options, reading_of, item_of, read_after, mode_by}
use Rattle.ud_model.specs.answer.CommandLine.{options_of}
use Rattle.ud_model.specs.laws.Rereading.{IsPlainC, IsTreeOf}
use Rattle.ud_model.specs.declared.kind.Mode.{Mode}
use Rattle.ud_model.specs.declared.kind.Mode.TheVariants.{C}
use Rattle.ud_model.proofs.text.LinesLemmas.{lines_exist, body-ending}
use Rattle.ud_model.proofs.text.Pushes.{by_push}
use Rattle.ud_model.proofs.text.ScanLaws.{place_after, white_after}
use Rattle.ud_model.proofs.sections.Soundness.{read_lines}
use Rattle.ud_model.proofs.output.Each.{Each}
use Rattle.ud_model.proofs.output.Formed.{whole_ending, ending_none, end_is_some, formed_more}
use Rattle.ud_model.proofs.output.Heeding.{ReadIn, are_read}
use Rattle.ud_model.proofs.output.LeavesOff.{LeavesOff, HasEnd, nowhere, kept_scan, readings_last, leaves_next, leaves_anew}
use Rattle.ud_model.proofs.output.OutputPieces.{output_lines}
use Rattle.ud_laws.specs.output.InsertedLines.{IsBlankLine}
use Rattle.ud_laws.specs.output.InsertedNodes.{IsSame, LinesWithInserted, no_lines, same_line, inserted_line}
use Rattle.ud_laws.proofs.output.InsertedSelected.{inserted_in_selected}
use Rattle.ud_laws.proofs.output.InsertedText.{read_items, lines_back, items_are}
use Rattle.ud_laws.proofs.output.InsertedTree.{items, alike_by, put_item}
use Rattle.ud_laws.proofs.output.LoneLines.{Quiet, IsQuiet, lone_scan}
use Rattle.ud_model.proofs.output.WovenTrees.{none, same, put}
use Rattle.ud_passes.specs.squeezing.SqueezedTexts.{is_blank_line, first_flag, later_flags, flags_in, kept_lines, squeezed_text}
use Rattle.ud_tree_laws.specs.SqueezedSelection.{SelectsButBlanks}
use Rattle.ud_tree_laws.proofs.SqueezedTree.{Blanks, unweave}
use Rattle.ud_passes.proofs.SqueezedFlags.{OnlyBlanks, only_blanks}

-- 1. Both texts side by side.

-- The squeezed lines `ys` and the lines `zs` of the output end in the same state. If the last line
-- joins nothing, both end between lines.
record Beside (ys zs : List (Item Reading)) : Type 0 where
  place : LexState
  white : Bool
  on : Bool
  first : LeavesOff ys place white on
  second : LeavesOff zs place white on
  rests : on ≡ false → LeavesOff ys in_text true false × LeavesOff zs in_text true false

not_empty : (c : ℕ) (x : List ℕ) (s : Scan) → is_blank_line (c ∷ x) s ≡ false
not_empty c x s = grind arith

module _ (o : Options) where
  abbrev next : List (Item Reading) → Line → List (Item Reading)
  next zs l = zs ++ item_of o (read_after zs C l) ∷ []

  module _ (ys zs : List (Item Reading)) (b : Beside ys zs) (k n : ℕ) (t : List ℕ) where
    same_scan : scan_after (map reading_of zs) C (line_at n t) ≡ scan_after (map reading_of ys) C (line_at k t)
    same_scan = kept_scan ys zs C b.place b.white b.on (line_at k t) (line_at n t) b.first b.second refl refl

    same_reading : IsSame (read_after ys C (line_at k t)) (read_after zs C (line_at n t))
    same_reading = record { bytes = refl; scanned = same_scan }

    -- A line of both.
    both_next : HasEnd (line_at n t) → Beside (next ys (line_at k t)) (next zs (line_at n t))
    both_next h = let l : Line = line_at n t in
        let j = ap (λ (s : Scan). s.joins_after) same_scan in
        record {
          place = state_after_line (stays_open l) (place_after b.place (content l));
          white = white_after_line (stays_open l) (place_after b.place (content l)) (white_after b.place b.white (content l));
          on = (scan_after (map reading_of ys) C (line_at k t)).joins_after;
          first = leaves_next o ys b.place b.white b.on (line_at k t) b.first;
          second = subst (λ (x : Bool). LeavesOff (next zs l) (state_after_line (stays_open l) (place_after b.place (content l)))
              (white_after_line (stays_open l) (place_after b.place (content l)) (white_after b.place b.white (content l))) x) j (leaves_next o zs b.place b.white b.on l b.second);
          rests = λ f. (leaves_anew o ys (line_at k t) f h, leaves_anew o zs l (j ∙ f) h);
        }

  module _ (ys zs : List (Item Reading)) (b : Beside ys zs) (n : ℕ) (t : List ℕ) (some : IsWhole t ⊎ IsUnterminated t)
      (blank : is_blank_line (line_at n t).body (scan_after (map reading_of zs) C (line_at n t)) ≡ true) where
    abbrev l : Line
    l = line_at n t

    no_body : l.body ≡ []
    no_body = by l.body refl
      where
        by : (x : List ℕ) → l.body ≡ x → l.body ≡ []
        by [] e = e
        by (c ∷ x) e = let z : is_blank_line l.body (scan_after (map reading_of zs) C l) ≡ false = ap (λ (y : List ℕ). is_blank_line y (scan_after (map reading_of zs) C l)) e ∙ not_empty c x (scan_after (map reading_of zs) C l) in
            absurd (let f : true ≡ false = sym blank ∙ z in cc)

    not_before : (scan_after (map reading_of zs) C l).joins_before ≡ false
    not_before = grind arith

    off : b.on ≡ false
    unfolding scan_after_run
    off = b.second.joins_on ∙ not_before

    whole : IsWhole t
    whole = by some
      where
        by : IsWhole t ⊎ IsUnterminated t → IsWhole t
        by (inl w) = w
        by (inr u) = absurd (u.0 (sym (body-ending t) ∙ ap₂ (λ (x y : List ℕ). x ++ y) no_body (ending_none t u.1)))

    quiet : IsQuiet l
    quiet = record { quiet = subst (λ (x : List ℕ). Each Quiet x) (sym no_body) tt; end = whole_ending t whole }

    alone : scan_after (map reading_of zs) C l ≡ plain_scan l
    alone = lone_scan zs C l (b.rests off).1 quiet

    is_blank : IsBlankLine (read_after zs C l)
    is_blank = (no_body, alone)

    blank_next : Beside ys (next zs l)
    blank_next = let ends : HasEnd l = end_is_some l.ending (whole_ending t whole) in
        let z = leaves_anew o zs l (ap (λ (s : Scan). s.joins_after) alone) ends in
        record { place = in_text; white = true; on = false; first = (b.rests off).0; second = z; rests = λ f. ((b.rests off).0, z) }

  -- 2. The lines, one at a time.

  -- The readings of the lines `ts`, numbered from `n`, after `zs`.
  later : List (Item Reading) → ℕ → List (List ℕ) → List Reading
  later zs n [] = []
  later zs n (t ∷ ts) = read_after zs C (line_at n t) ∷ later (next zs (line_at n t)) (suc n) ts

  one_left : (ys zs : List (Item Reading)) → Beside ys zs → (fs : List Bool) (k n : ℕ) (t : List ℕ) → IsWhole t ⊎ IsUnterminated t → OnlyBlanks fs (later zs n (t ∷ [])) →
      LinesWithInserted IsBlankLine (later ys k (kept_lines fs (t ∷ []))) (later zs n (t ∷ []))
  unfolding later OnlyBlanks
  one_left ys zs b fs k n t w h = by (first_flag fs) refl
    where
      by : (f : Bool) → first_flag fs ≡ f → LinesWithInserted IsBlankLine (later ys k (if f then t ∷ [] else [])) (later zs n (t ∷ []))
      by true e = same_line (same_reading ys zs b k n t) no_lines
      by false e = inserted_line (is_blank ys zs b n t w (h.0 e)) no_lines

  all_left : (ys zs : List (Item Reading)) → Beside ys zs → (fs : List Bool) (k n : ℕ) (ts : List (List ℕ)) → AreFormed ts → OnlyBlanks fs (later zs n ts) →
      LinesWithInserted IsBlankLine (later ys k (kept_lines fs ts)) (later zs n ts)
  unfolding later OnlyBlanks
  all_left ys zs b fs k n [] w h = no_lines
  all_left ys zs b fs k n (t ∷ []) w h = one_left ys zs b fs k n t w h
  all_left ys zs b fs k n (t ∷ u ∷ ts) w h =
      by (first_flag fs) refl
      (λ more. all_left (next ys (line_at k t)) (next zs (line_at n t)) more (later_flags fs) (suc k) (suc n) (u ∷ ts) w.1 h.1)
      (λ more. all_left ys (next zs (line_at n t)) more (later_flags fs) k (suc n) (u ∷ ts) w.1 h.1)
    where
      ends : HasEnd (line_at n t)
      ends = end_is_some (ending_of t) (whole_ending t w.0)

      kept : List (List ℕ)
      kept = kept_lines (later_flags fs) (u ∷ ts)

      after : List Reading
      after = later (next zs (line_at n t)) (suc n) (u ∷ ts)

      by : (f : Bool) → first_flag fs ≡ f →
          (Beside (next ys (line_at k t)) (next zs (line_at n t)) → LinesWithInserted IsBlankLine (later (next ys (line_at k t)) (suc k) kept) after) →
          (Beside ys (next zs (line_at n t)) → LinesWithInserted IsBlankLine (later ys k kept) after) →
          LinesWithInserted IsBlankLine (later ys k (if f then t ∷ kept else kept)) (later zs n (t ∷ u ∷ ts))
      by true e on over = same_line (same_reading ys zs b k n t) (on (both_next ys zs b k n t ends))
      by false e on over = inserted_line (is_blank ys zs b n t (inl w.0) (h.0 e)) (over (blank_next ys zs b n t (inl w.0) (h.0 e)))

  later_read : (zs : List (Item Reading)) (n : ℕ) (ts : List (List ℕ)) → readings_after (map reading_of zs) (map (in_mode C) (numbered_from n ts)) ≡ map reading_of zs ++ later zs n ts
  unfolding later
  later_read zs n [] = sym (append-nil (map reading_of zs))
  later_read zs n (t ∷ ts) = let r : Reading = read_after zs C (line_at n t) in
      ap (λ (rs : List Reading). readings_after rs (map (in_mode C) (numbered_from (suc n) ts))) (sym (readings_last o zs zs C (line_at n t)))
      ∙ later_read (next zs (line_at n t)) (suc n) ts
      ∙ ap (λ (rs : List Reading). rs ++ later (next zs (line_at n t)) (suc n) ts) (readings_last o zs zs C (line_at n t))
      ∙ append_assoc (map reading_of zs) (r ∷ []) (later (next zs (line_at n t)) (suc n) ts)

-- 3. Texts.

formed_kept : (fs : List Bool) (ts : List (List ℕ)) → AreFormed ts → AreFormed (kept_lines fs ts)
formed_kept fs [] f = tt
formed_kept fs (t ∷ []) f = by (first_flag fs)
  where
    by : (b : Bool) → AreFormed (if b then t ∷ [] else [])
    by true = f
    by false = tt
formed_kept fs (t ∷ u ∷ ts) f = by (first_flag fs) (formed_kept (later_flags fs) (u ∷ ts) f.1)
  where
    by : (b : Bool) → AreFormed (kept_lines (later_flags fs) (u ∷ ts)) → AreFormed (if b then t ∷ kept_lines (later_flags fs) (u ∷ ts) else kept_lines (later_flags fs) (u ∷ ts))
    by true g = formed_more t (kept_lines (later_flags fs) (u ∷ ts)) f.0 g
    by false g = g

pub all_read : (ms output : List ℕ) → LinesWithInserted IsBlankLine (read_as C (squeezed_text ms output)) (read_as C output)
all_read ms output =
    let o : Options = options_of [] in
    let fs : List Bool = flags_in ms output in
    let ts : List (List ℕ) = texts_of output in
    let f = (lines_exist output).formed in
    let all : read_as C output ≡ later o [] 1 ts = later_read o [] 1 ts in
    let squeezed : read_as C (squeezed_text ms output) ≡ later o [] 1 (kept_lines fs ts) =
    ap (λ (ls : List Line). readings_after [] (map (in_mode C) ls)) (output_lines (kept_lines fs ts) (formed_kept fs ts f)) ∙ later_read o [] 1 (kept_lines fs ts) in
    let start : Beside [] [] = record {
      place = in_text;
      white = true;
      on = false;
      first = nowhere [] refl;
      second = nowhere [] refl;
      rests = λ e. (nowhere [] refl, nowhere [] refl);
    } in
    subst (λ (rs : List Reading). LinesWithInserted IsBlankLine rs (read_as C output)) (sym squeezed)
    (subst (λ (ss : List Reading). LinesWithInserted IsBlankLine (later o [] 1 (kept_lines fs ts)) ss) (sym all)
    (all_left o [] [] start fs 1 1 ts f (subst (λ (rs : List Reading). OnlyBlanks fs rs) all (only_blanks ms output))))

-- 4. Trees.

inserted_blanks : (o : Options) {rs ss : List Reading} → LinesWithInserted IsBlankLine rs ss → Blanks (items o rs) (items o ss)
inserted_blanks o no_lines = none
inserted_blanks o (same_line {r = r} {s = s} k w) =
    same (grind (arith, alike_by)) (inserted_blanks o w)
inserted_blanks o (inserted_line {d = d} {rs = rs} {ss = ss} k w) =
    subst (λ (z : Item Reading). Blanks (items o rs) (z ∷ items o ss)) (sym (put_item o d (inl k))) (put k (inserted_blanks o w))

pub selects_same : (o : Options) → IsPlainC o → (ms output : List ℕ) (ns : Nodes Reading) → IsTreeOf o output (closed ns) → SelectsButBlanks o (squeezed_text ms output) ns
selects_same o p ms output ns a =
    let text : List ℕ = squeezed_text ms output in
    let ys : List (Item Reading) = items o (read_as C text) in
    let m = ap mode_by p.in_c in
    let all : lines_of_nodes ns ≡ items o (read_as C output) = grind (arith, items_are o p.plain.none_ignores a.read, m, read_lines a.read, a.are) in
    let u = unweave ns ys (subst (λ (zs : List (Item Reading)). Blanks ys zs) (sym all) (inserted_blanks o (all_read ms output))) in record {
      nodes = u.nodes;
      is_tree = record {
        items = ys;
        read = are_read o p.plain.none_ignores ys (subst (λ (k : Mode). ReadIn o k ys) (sym m) (read_items o C (lines_of text) (by_push (lines_of text)))) (closed u.nodes) u.lines;
        are = sym (lines_back o C (lines_of text) (by_push (lines_of text)));
      };
      inserted = u.alike;
      selects = λ v w same. inserted_in_selected IsBlankLine v w u.alike same;
    }
