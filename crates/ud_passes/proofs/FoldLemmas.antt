-- Folding: the line that lines form, and the folded lines after a line more.
use Rattle.std.proofs.Common.{◌≡◌, ℕ, ◌≤◌, List, [], ◌∷◌, ◌++◌, length, map, Bool, true, false, not}
use Rattle.std.proofs.Common.{◌&&◌, if◌then◌else◌, bytes_eq, Option, Some, None, is_some, IfSome}
use Rattle.std.proofs.Common.{refl, sym, ◌∙◌, ap, subst, append_assoc, append-nil, length-append}
use Rattle.std.proofs.Common.{arith}
use Rattle.std.specs.List.{concat, flat_map}
use Rattle.std.proofs.lemmas.Grind.{common_steps, flat_map-append}
use Rattle.std.proofs.lemmas.List.{append_cancel_left}
use Rattle.std.proofs.lemmas.List.Folds.{list_all-append}
use Rattle.std.proofs.lemmas.Bool.{false≢true, leb-true, leb-false}
use Rattle.std.proofs.lemmas.Slice.Eq.{bytes_eq-Decides}
use Rattle.ud_model.specs.text.Lines.{Line, NoNewline, text_of, is_ending, lines_of}
use Rattle.ud_model.specs.aids.LineViews.{as_line, as_scan}
use Rattle.ud_model.specs.text.Splicing.{is_empty, is_spliced, c_run_of}
use Rattle.ud_model.specs.text.Scans.{Scan, Reading}
use Rattle.ud_model.specs.text.Scanning.{joins, scan_after, scan_after_run, next_reading, readings_after}
use Rattle.ud_model.specs.sections.Directives.{content_of}
use Rattle.ud_simplified.specs.FoldedTexts.{vertical_tab, continued, continued_part, folded_body, last_ending, folded_line, shown_break, shown_lines, is_directive, begins_directive, are_alike, fits, is_shown_as, is_foldable, folded_bytes, folded_lines}
use Rattle.ud_simplified.specs.SimplifiedTexts.{keeps_ending}
use Rattle.ud_model.specs.aids.ReadAs.{read_as, in_mode}
use Rattle.ud_model.specs.declared.line.Line.{Line as ReadLine}
use Rattle.ud_model.specs.declared.scan.Scan.{Scan as ReadScan}
use Rattle.ud_model.specs.declared.kind.Mode.TheVariants.{C}
use Rattle.ud_model.proofs.text.LinesLemmas.{no_newline-append}
use Rattle.ud_model.proofs.text.ScanBytes.{scan_after-same}
use Rattle.ud_model.proofs.text.ScanLemmas.{run_of_last}
use Rattle.ud_model.proofs.text.ScanLaws.{joins_before-code, joins_after-code, readings_after-prefix}
use Rattle.ud_text.proofs.lemmas.scan.MaskLemmas.{no_newline-take}
use Rattle.ud_passes.specs.Walks.{reading_at, read_after, AreTexts, HaveBytes, Walked}
use Rattle.ud_passes.specs.folding.LogicalLines.{plain_lines, is_line_shown, IsLast, IsLogical, IsGroup}
use Rattle.ud_passes.specs.folding.Folding.{FollowsBy, rest_from, FoldsReading, Folded}
use Rattle.ud_passes.specs.declared.folding.logical.Last.{Last}
use Rattle.ud_passes.specs.declared.folding.logical.LogicalLine.{LogicalLine}
use Rattle.ud_passes.specs.declared.walk.Walk.{Walk}
use Rattle.ud_passes.proofs.WalkLemmas.{walk_ends}
use Rattle.ud_simplified.proofs.FoldedReadings.{not_foldable}
use Rattle.ud_model.proofs.output.LeavesOff.{joins_none}

-- 1. The line that lines form.

pub folded_body_last : (front : List Reading) (r : Reading) → folded_body (front ++ r ∷ []) ≡ flat_map continued_part front ++ r.line.body
folded_body_last [] r = refl
folded_body_last (q ∷ []) r = grind (arith, append-nil)
folded_body_last (q ∷ s ∷ front) r = grind (arith, append_assoc, folded_body_last (s ∷ front) r)

pub last_ending_last : (front : List Reading) (r : Reading) → last_ending (front ++ r ∷ []) ≡ r.line.ending
last_ending_last [] r = refl
last_ending_last (q ∷ []) r = refl
last_ending_last (q ∷ s ∷ front) r = last_ending_last (s ∷ front) r

pub shown_lines_more : (front : List Reading) (q r : Reading) → shown_lines ((front ++ q ∷ []) ++ r ∷ []) ≡ shown_lines (front ++ q ∷ []) ++ (shown_break q.scan ++ r.scan.masked)
shown_lines_more [] q r = grind (arith, append_assoc)
shown_lines_more (x ∷ []) q r = grind (arith, append_assoc, shown_lines_more [] q r)
shown_lines_more (x ∷ y ∷ front) q r = grind (arith, append_assoc, shown_lines_more (y ∷ front) q r)

-- 2. Lines that form no line.

alike_there : (xs : List Reading) (r : Reading) (more : List Reading) (e : List ℕ) → are_alike (xs ++ r ∷ more) e ≡ true → r.line.ending ≡ e
alike_there [] r more e h = grind (arith, bytes_eq-Decides)
alike_there (x ∷ xs) r more e h = alike_there xs r more e (grind arith)

body_length : (xs : List Reading) (r : Reading) (more : List Reading) → length r.line.body ≤ length (folded_body (xs ++ r ∷ more))
body_length [] r [] = omega arith
body_length [] r (m ∷ more) = grind (arith, common_steps, length-append)
body_length (x ∷ []) r more = grind (arith, length-append, body_length [] r more)
body_length (x ∷ y ∷ xs) r more = grind (arith, length-append, body_length (y ∷ xs) r more)

both : (b n a f k s : Bool) → (a ≡ true → f ≡ true → ⊥) → (b && n && a && f && k && s) ≡ false
both b n a f k s h = grind arith

neither : (group : List Reading) → (are_alike group (last_ending group) ≡ true → fits (folded_line group) ≡ true → ⊥) → is_foldable group ≡ false
neither group h =
    both (begins_directive group) (not (is_empty (last_ending group))) (are_alike group (last_ending group)) (fits (folded_line group)) (keeps_ending (folded_line group))
    (is_shown_as (scan_after_run [] (folded_line group)) (shown_lines group)) h

pub long_stays : (xs : List Reading) (r : Reading) (more : List Reading) → fits r.line ≡ false → is_foldable (xs ++ r ∷ more) ≡ false
long_stays xs r more f = neither (xs ++ r ∷ more) (λ a s.
    let same = alike_there xs r more (last_ending (xs ++ r ∷ more)) a in
    grind (arith, s, same, body_length xs r more, length-append, leb-true, leb-false))

pub other_stays : (front : List Reading) (q r : Reading) (more : List Reading) → bytes_eq r.line.ending q.line.ending ≡ false → is_foldable ((front ++ q ∷ []) ++ r ∷ more) ≡ false
other_stays front q r more n = neither ((front ++ q ∷ []) ++ r ∷ more) (λ a s.
    let e : List ℕ = last_ending ((front ++ q ∷ []) ++ r ∷ more) in
    let there : r.line.ending ≡ e = alike_there (front ++ q ∷ []) r more e a in
    let here : q.line.ending ≡ e = alike_there front q (r ∷ more) e (subst (λ (x : List Reading). are_alike x e ≡ true) (append_assoc front (q ∷ []) (r ∷ more)) a) in
    false≢true (sym n ∙ (bytes_eq-Decides r.line.ending q.line.ending).1 (there ∙ sym here)))

stays : (group : List Reading) → is_foldable group ≡ false → folded_bytes group ≡ plain_lines group
stays group e = grind arith

-- 3. The folded lines after a line more.

rest_of : (group rs : List Reading) → begins_directive group ≡ true → folded_bytes (group ++ continued rs) ++ folded_lines rs ≡ rest_from group rs
rest_of group rs b = grind arith

pub begins_more : (group : List Reading) (r : Reading) → begins_directive group ≡ true → begins_directive (group ++ r ∷ []) ≡ true
begins_more group r b = grind arith

-- A line that continues lines which form no line with it.
pub rest_given_up : (group : List Reading) (r : Reading) (rs : List Reading) → begins_directive group ≡ true → r.scan.joins_before ≡ true →
    is_foldable (group ++ r ∷ continued rs) ≡ false → rest_from group (r ∷ rs) ≡ (plain_lines group ++ text_of r.line) ++ rest_from [] rs
rest_given_up group r rs b j f = grind (arith, append_assoc, flat_map-append)

-- A line after no group, which stays.
pub rest_first : (r : Reading) (rs : List Reading) → is_foldable (r ∷ continued rs) ≡ false → rest_from [] (r ∷ rs) ≡ text_of r.line ++ rest_from [] rs
rest_first r rs f = grind (arith, append_assoc, stays)

-- A line that no line continues.
rest_alone : (r : Reading) (rs : List Reading) → continued rs ≡ [] → r.scan.joins_before ≡ false → rest_from [] (r ∷ rs) ≡ text_of r.line ++ rest_from [] rs
rest_alone r rs e j = grind (arith, no_newline-take, append-nil)

-- 4. A line is taken.

pub begins_parts : (b a d : Bool) → (not b && a && d) ≡ true → (b ≡ false) × (a ≡ true) × (d ≡ true)
begins_parts b a d h = grind arith

module _ (r : Reading) (old : List ℕ) (l : LogicalLine) where
  pub takes_none : (group : List Reading) (more new : List ℕ) → new ≡ old ++ more → ((rs : List Reading) → FollowsBy r.scan.joins_after rs → rest_from group (r ∷ rs) ≡ more ++ rest_from [] rs) →
      FoldsReading r group old l None new
  takes_none group more new e h = grind arith

  -- No logical line of several lines begins on the line.
  pub takes_line : (new : List ℕ) → new ≡ old ++ text_of r.line → (not r.scan.joins_before && r.scan.joins_after && is_directive (content_of r.scan)) ≡ false → FoldsReading r [] old l None new
  takes_line new e n =
      grind (arith, takes_none, append_assoc, false≢true, rest_first, not_foldable, rest_alone)

  pub takes_begun : (b : Last) → IsLogical l b (r ∷ []) → r.scan.joins_before ≡ false → r.scan.joins_after ≡ true → FoldsReading r [] old l (Some b) old
  takes_begun b i j a = grind (arith, common_steps, append-nil)

  -- The line continues a group.
  module _ (group : List Reading) (begins : begins_directive group ≡ true) (j : r.scan.joins_before ≡ true) where
    pub takes_stays : (new : List ℕ) → new ≡ (old ++ plain_lines group) ++ text_of r.line → ((more : List Reading) → is_foldable (group ++ r ∷ more) ≡ false) → FoldsReading r group old l None new
    takes_stays new e f = grind (arith, takes_none, append_assoc, rest_given_up)

    pub takes_more : (b : Last) → IsLogical l b (group ++ r ∷ []) → r.scan.joins_after ≡ true → FoldsReading r group old l (Some b) old
    takes_more b i a = record {
      more = [];
      appended = sym (append-nil old);
      next = group ++ r ∷ [];
      is_group = i;
      goes_on = a;
      rest = λ rs f. (grind (arith, append_assoc, begins, j)) ∙ rest_of (group ++ r ∷ []) rs (begins_more group r begins);
    }

    pub takes_all : (new : List ℕ) → new ≡ old ++ folded_bytes (group ++ r ∷ []) → r.scan.joins_after ≡ false → FoldsReading r group old l None new
    takes_all new e a = grind arith

-- 5. The lines that go on.

pub last_is : (b : Last) (line : ReadLine) (scan : ReadScan) (n : ℕ) → b ≡ record { line = line; comment = scan.comment; spliced = scan.spliced } →
    scan.spliced ≡ is_spliced (as_line line) → NoNewline line.body.now → IsLast b (reading_at C (as_line line) (as_scan scan) n)
last_is b line scan n e s o = grind arith

pub logical_begins : (l : LogicalLine) (b : Last) (r : Reading) → IsLast b r → begins_directive (r ∷ []) ≡ true → l.plain.items ≡ text_of r.line → l.body.items ≡ [] → l.shown.items ≡ r.scan.masked → IsLogical l b (r ∷ [])
logical_begins l b r i d p o m = record {
  front = [];
  last = r;
  is = refl;
  is_last = i;
  begins = d;
  alike = grind (arith, bytes_eq-Decides);
  plain_is = grind (arith, append-nil);
  body_is = o;
  shown_is = m;
  one_line = grind (arith, o);
}

pub logical_more : (l m : LogicalLine) (b c : Last) (group : List Reading) (r : Reading) (part break : List ℕ) → IsLogical l b group → IsLast c r → r.line.ending ≡ b.line.ending.now →
    ((q : Reading) → IsLast b q → part ++ vertical_tab ∷ [] ≡ continued_part q) → ((q : Reading) → IsLast b q → break ≡ shown_break q.scan) →
    m.plain.items ≡ l.plain.items ++ text_of r.line → m.body.items ≡ (l.body.items ++ part) ++ vertical_tab ∷ [] → m.shown.items ≡ (l.shown.items ++ break) ++ r.scan.masked → IsLogical m c (group ++ r ∷ [])
logical_more l m b c group r part break i j e p k pl bo sh =
    let shown = shown_lines_more i.front i.last r in
    let part : NoNewline (continued_part i.last) =
    grind (arith, no_newline-append, no_newline-take, i.is_last.one_line) in
    let one = no_newline-append l.body.items (continued_part i.last) i.one_line part in
    grind (arith, append_assoc, list_all-append, flat_map-append, append-nil, shown, one)

-- The lines that have ended.
pub folded_as : (l : LogicalLine) (b : Last) (group : List Reading) (bytes : List ℕ) (shown : Bool) → IsLogical l b group → bytes ≡ (l.body.items ++ b.line.body.now) ++ b.line.ending.now →
    ((k : Line) → bytes ≡ text_of k → b.line.ending.now ≡ k.ending → NoNewline k.body → is_ending k.ending ≡ true → shown ≡ is_line_shown k l.shown.items) →
    is_ending b.line.ending.now ≡ true → (if shown then bytes else l.plain.items) ≡ folded_bytes group
folded_as l b group bytes shown i e h n = grind (arith, folded_body_last, last_ending_last, no_newline-append)

-- 6. Places of a walk.

pub is_spliced_by : (run : List Line) (line : Line) → (scan_after_run run line).spliced ≡ is_spliced line
unfolding scan_after_run
is_spliced_by run line = refl

pub if_some : {A : Type 0} {P Q : Type 0} (o : Option A) → (P → Q) → IfSome o (λ _. P) → IfSome o (λ _. Q)
if_some o f h = grind arith

next_joins : (read : List Reading) (k : Line) → joins (c_run_of (read ++ read_after C read k ∷ [])) ≡ (scan_after read C k).joins_after
next_joins read k = let r : Reading = read_after C read k in
    ap joins (run_of_last read r) ∙ sym (joins_after-code (c_run_of read) r.line) ∙ ap (λ (s : Scan). s.joins_after) (scan_after-same read read C r.line k refl refl refl)

first_same : (r q : Reading) (rs qs : List Reading) → r ∷ rs ≡ q ∷ qs → r ≡ q
first_same r q rs qs e = cc

-- A line that was read has the scan after the lines before it.
placed : (acc : List Reading) (ls : List Line) (mid : List Reading) (r : Reading) (rest : List Reading) →
    (acc ++ mid) ++ r ∷ rest ≡ readings_after acc (map (in_mode C) ls) → r.scan ≡ scan_after (acc ++ mid) C r.line
placed acc [] mid r rest e =
    let n : length ((acc ++ mid) ++ r ∷ rest) ≡ length acc = ap (λ (x : List Reading). length x) e in
    absurd (omega (arith, n, length-append (acc ++ mid) (r ∷ rest), length-append acc mid))
placed acc (l ∷ ls) [] r rest e = let q : Reading = next_reading acc C l in
    let p = readings_after-prefix (acc ++ q ∷ []) (map (in_mode C) ls) in
    let both : acc ++ (r ∷ rest) ≡ acc ++ (q ∷ p.0) = sym (append_assoc acc [] (r ∷ rest)) ∙ e ∙ p.1 ∙ append_assoc acc (q ∷ []) p.0 in
    let same : r ≡ q = first_same r q rest p.0 (append_cancel_left acc (r ∷ rest) (q ∷ p.0) both) in
    subst (λ (x : Reading). x.scan ≡ scan_after (acc ++ []) C x.line) (sym same) (ap (λ (x : List Reading). scan_after x C l) (sym (append-nil acc)))
placed acc (l ∷ ls) (m ∷ mid) r rest e = let q : Reading = next_reading acc C l in
    let p = readings_after-prefix (acc ++ q ∷ []) (map (in_mode C) ls) in
    let both : acc ++ (m ∷ (mid ++ r ∷ rest)) ≡ acc ++ (q ∷ p.0) = sym (append_assoc acc (m ∷ mid) (r ∷ rest)) ∙ e ∙ p.1 ∙ append_assoc acc (q ∷ []) p.0 in
    let same : m ≡ q = first_same m q (mid ++ r ∷ rest) p.0 (append_cancel_left acc (m ∷ (mid ++ r ∷ rest)) (q ∷ p.0) both) in
    let more : (acc ++ q ∷ []) ++ mid ≡ acc ++ m ∷ mid = append_assoc acc (q ∷ []) mid ∙ ap (λ (x : Reading). acc ++ x ∷ mid) (sym same) in
    placed (acc ++ q ∷ []) ls mid r rest (ap (λ (x : List Reading). x ++ r ∷ rest) more ∙ e) ∙ ap (λ (x : List Reading). scan_after x C r.line) more

follows : (done : List ℕ) (read rs more : List Reading) → read ++ rs ≡ read_as C done → FollowsBy (joins (c_run_of (read ++ rs))) more → FollowsBy (joins (c_run_of read)) (rs ++ more)
follows done read [] more e f = grind (arith, append-nil)
follows done read (r ∷ rs) more e f = ap (λ (s : Scan). s.joins_before) (placed [] (lines_of done) read r rs e) ∙ joins_before-code (c_run_of read) r.line

pub plain_bytes : (rs : List Reading) → plain_lines rs ≡ concat (map (λ (r : Reading). text_of r.line) rs)
plain_bytes [] = refl
plain_bytes (r ∷ rs) = grind (arith, plain_bytes rs)

-- Text lines stay.
texts_rest : (rs : List Reading) → AreTexts rs → (more : List Reading) → rest_from [] (rs ++ more) ≡ plain_lines rs ++ rest_from [] more
texts_rest [] h more = refl
texts_rest (r ∷ rs) h more = grind (arith, rest_first, not_foldable, append_assoc, texts_rest rs h.1 more)

-- A line over the limit stays, and so do the lines before it.
pub long_taken : (r : Reading) (old : List ℕ) (l : LogicalLine) (b : Option Last) (group : List Reading) (new : List ℕ) → fits r.line ≡ false → IsGroup l b group → IfSome b (λ _. r.scan.joins_before ≡ true) →
    new ≡ (old ++ plain_lines group) ++ text_of r.line → (m : LogicalLine) → FoldsReading r group old m None new
long_taken r old l None group new f g j e m =
    subst (λ (x : List Reading). FoldsReading r x old m None new) (sym g)
    (takes_none r old m [] (text_of r.line) new (e ∙ ap (λ (x : List Reading). (old ++ plain_lines x) ++ text_of r.line) g ∙ ap (λ (x : List ℕ). x ++ text_of r.line) (append-nil old)) (λ rs h. rest_first r rs (long_stays [] r (continued rs) f)))
long_taken r old l (Some b) group new f g j e m = grind (arith, takes_stays, long_stays)

module _ (text start : List ℕ) (l : LogicalLine) (b : Option Last) (walk : Walk) (out : List ℕ) (s : Folded text start l b walk out) (m : LogicalLine) (next : Walk) (more : List ℕ) where
  pub line_folded : (d : Option Last) (k : Line) → Walked C text (s.read ++ read_after C s.read k ∷ []) next.rest.now next.scanner → FoldsReading (read_after C s.read k) s.group out m d more → Folded text start m d next more
  line_folded d k w t = grind (arith, if_some, next_joins, append_assoc, joins_before-code)

  pub texts_folded : is_some b ≡ false → (bytes : List ℕ) (rs : List Reading) → AreTexts rs → HaveBytes bytes rs → Walked C text (s.read ++ rs) next.rest.now next.scanner → more ≡ out ++ bytes → Folded text start m None next more
  texts_folded none bytes rs h t w e = grind (arith, plain_bytes, append_assoc, follows, texts_rest)

pub first_folded : (text start : List ℕ) (l : LogicalLine) (walk : Walk) → Walked C text [] walk.rest.now walk.scanner → Folded text start l None walk start
first_folded text start l walk w = grind (arith, append-nil, joins_none)

pub all_folded : (text start : List ℕ) (l : LogicalLine) (b : Option Last) (walk : Walk) (out new : List ℕ) → (s : Folded text start l b walk out) → walk.rest.now ≡ [] → new ≡ out ++ rest_from s.group [] →
    new ≡ start ++ folded_lines (read_as C text)
all_folded text start l b walk out new s e n = grind (arith, append_assoc, append-nil, walk_ends)
