-- Marks: the lines of a text one after another, and the marks that are read from a printer's output.
use Rattle.std.proofs.Common.{◌≡◌, ◌≢◌, ℕ, suc, ◌+◌, ◌-◌, ◌≤◌, ◌==◌, Bool, true, false, not, ◌&&◌, if◌then◌else◌, List, [], ◌∷◌, ◌++◌, length, take, drop, map, replicate, nat_le, refl, sym, ◌∙◌, ap, ap₂, subst, inl, inr, append_assoc, take-append-drop, take-take, length-take, arith, bytes_eq, ◌⊎◌, Option, None}
use Rattle.std.specs.Prelude.{slice_index}
use Rattle.std.specs.List.{concat}
use Rattle.std.proofs.lemmas.Grind.{common_steps}
use Rattle.std.proofs.lemmas.List.{take_all, drop_all, replicate-append-replicate}
use Rattle.std.proofs.lemmas.Bool.Decides.{nat_tests}
use Rattle.std.proofs.lemmas.Simd.{map-map}
use Rattle.std.proofs.lemmas.Slice.Eq.{bytes_eq-Decides}
use Rattle.std.proofs.Math.Nat.{le_refl}
use Rattle.ud_model.specs.text.Lines.{NoNewline, IsWhole, IsUnterminated, AreFormed, SplitLines, split_lines, texts_of, last_line, text_of, whole_lines, partial_line}
use Rattle.ud_model.specs.text.Lines.{lines_of}
use Rattle.ud_model.specs.text.Scans.{Reading}
use Rattle.ud_model.specs.sections.Tree.{Item, Tree}
use Rattle.ud_model.specs.sections.Items.{Options, line_of}
use Rattle.ud_model.specs.sections.Pruning.{is_removed, marks}
use Rattle.ud_model.specs.sections.Faults.{Fault}
use Rattle.ud_model.specs.answer.Printing.{Judged, judged_lines, pieces_by}
use Rattle.ud_model.specs.answer.Outcomes.{Outcome, HasOutcome, ReadsAs, ran_as, stops, ends}
use Rattle.ud_model.specs.declared.settings.Settings.{Settings}
use Rattle.ud_model.proofs.answer.Onward.{read_lines, judged_all}
use Rattle.ud_model.proofs.sections.Soundness.{reads_once}
use Rattle.ud_model.proofs.sections.Stays.{length_marks}
use Rattle.ud_model.proofs.text.LinesLemmas.{split_lines-append, split_lines-append-line, split_lines-line-prefix, split_lines-open, texts_of-formed, lines_exist, map-lines_of}
use Rattle.ud_text.specs.lines.LinesState.{UpToNewline}
use Rattle.ud_text.specs.bulk.BulkLexemes.{IsLineStart, at_start, after_newline}
use Rattle.ud_passes.specs.declared.diff.script.TheConstants.{SAME}
use Rattle.ud_replace.specs.Marks.{AreMarks, judged_by, mark_by, plain_piece, mark_of, stays_by, mark_piece, first_text, later_texts, read_mark, read_marks}
use Rattle.ud_replace.specs.FoldedMarks.{first_stay}

-- A line that a text begins with is its first one.
first_line : (s line rest : List ℕ) → s ≡ line ++ rest → IsWhole line → texts_of s ≡ line ∷ texts_of rest
first_line s line rest e whole = ap texts_of e ∙ ap (λ (q : SplitLines). q.whole ++ last_line q.rest) (split_lines-line-prefix line rest whole)

no_line : (s : List ℕ) → NoNewline s → (first_text (texts_of s) ≡ s) × (later_texts (texts_of s) ≡ [])
unfolding split_lines
no_line [] none = (refl, refl)
no_line (b ∷ bs) none =
    let e : texts_of (b ∷ bs) ≡ (b ∷ bs) ∷ [] = ap (λ (q : SplitLines). q.whole ++ last_line q.rest) (split_lines-open (b ∷ bs) none) in
    (ap first_text e, ap later_texts e)

nothing_after : (s : List ℕ) (n : ℕ) → n ≡ length s → texts_of (drop n s) ≡ []
unfolding split_lines
nothing_after s n e = ap (λ (k : ℕ). texts_of (drop k s)) e ∙ ap texts_of (drop_all (length s) s (le_refl (length s)))

-- The bytes up to the first newline are the first line.
pub first_up_to : (s : List ℕ) (used : ℕ) (whole : Bool) → UpToNewline s used whole → first_text (texts_of s) ≡ take used s
first_up_to s used true up = ap first_text (first_line s (take used s) (drop used s) (sym (take-append-drop used s)) (up.line refl))
first_up_to s used false up = (no_line s (up.all refl).1).0 ∙ sym (ap (λ (k : ℕ). take k s) (up.all refl).0 ∙ take_all (length s) s (le_refl (length s)))

-- The bytes after the first newline have the later lines.
pub later_up_to : (s : List ℕ) (used : ℕ) (whole : Bool) → UpToNewline s used whole → texts_of (drop used s) ≡ later_texts (texts_of s)
later_up_to s used true up = sym (ap later_texts (first_line s (take used s) (drop used s) (sym (take-append-drop used s)) (up.line refl)))
later_up_to s used false up = nothing_after s used (up.all refl).0 ∙ sym (no_line s (up.all refl).1).1

-- A number within the first bytes is within all.
pub within_cut : (n r : ℕ) (s : List ℕ) → r ≤ length (take n s) → (r ≤ n) × (r ≤ length s)
within_cut n r s h = let e = length-take n s in (omega arith, omega arith)

-- Texts that begin alike do so up to any earlier byte.
pub same_cut : (n r : ℕ) (s t : List ℕ) → take n s ≡ take n t → r ≤ length (take n s) → take r s ≡ take r t
same_cut n r s t same within =
    sym (take-take r n s (within_cut n r s within).0) ∙ ap (take r) same ∙ take-take r n t (within_cut n r s within).0

-- A number within the same first bytes of two texts is within both.
pub within_both : (n r : ℕ) (s t : List ℕ) → take n s ≡ take n t → r ≤ length (take n s) → (r ≤ length s) × (r ≤ length t)
within_both n r s t same h = ((within_cut n r s h).1, (within_cut n r t (subst (λ (x : List ℕ). r ≤ length x) same h)).1)

-- The lines of a text that begins with whole lines.
texts_of-after : (x r : List ℕ) → partial_line x ≡ [] → texts_of (x ++ r) ≡ whole_lines x ++ texts_of r
texts_of-after x r none = grind (arith, split_lines-append, append_assoc)

-- A line starts after bytes that have no partial line.
no_part : (x : List ℕ) → IsLineStart x → partial_line x ≡ []
unfolding split_lines
no_part _ at_start = refl
no_part _ (after_newline p) = ap (λ (q : SplitLines). q.rest) (split_lines-append-line p [] tt)

-- The marks of lines that stay.
marks_same : (ls xs ys : List (List ℕ)) → read_marks (ls ++ xs) (ls ++ ys) ≡ replicate (length ls) SAME ++ read_marks xs ys
marks_same [] xs ys = refl
marks_same (l ∷ ls) xs ys = grind (arith, common_steps, bytes_eq-Decides, marks_same ls xs ys)

-- The marks of texts that begin with the same whole lines.
pub marks_after : (n : ℕ) (s t : List ℕ) → take n s ≡ take n t → IsLineStart (take n s) →
    replicate (length (whole_lines (take n s))) SAME ++ read_marks (texts_of (drop n s)) (texts_of (drop n t)) ≡ read_marks (texts_of s) (texts_of t)
marks_after n s t same starts =
    sym (marks_same (whole_lines (take n s)) (texts_of (drop n s)) (texts_of (drop n t)))
    ∙ ap₂ read_marks (sym (texts_of-after (take n s) (drop n s) (no_part _ starts)) ∙ ap texts_of (take-append-drop n s))
    (ap (λ (x : List ℕ). whole_lines x ++ texts_of (drop n t)) same ∙ sym (texts_of-after (take n t) (drop n t) (no_part _ (subst IsLineStart same starts))) ∙ ap texts_of (take-append-drop n t))

-- The mark of the line after `n` others, of which the first `stay` stay.
abbrev pub mark_after : ℕ → ℕ → List ℕ
mark_after n stay = (if (stay - n) == 0 then 0 else 61) ∷ []

-- The marks of one line more.
pub first_stay-more : (n stay : ℕ) → first_stay n stay ++ mark_after n stay ≡ first_stay (n + 1) stay
unfolding first_stay
first_stay-more n stay = by_order (nat_le (suc n) stay) refl
  where
    more : (k b : ℕ) → replicate k b ++ b ∷ [] ≡ replicate (k + 1) b
    more k b = replicate-append-replicate k 1 b

    by_order : (t : Bool) → nat_le (suc n) stay ≡ t → first_stay n stay ++ mark_after n stay ≡ first_stay (n + 1) stay
    by_order true e = grind (arith, common_steps, nat_tests, more)
    by_order false e = grind (arith, common_steps, nat_tests, more, append_assoc)

-- No line has no mark.
pub first_stay-none : (stay : ℕ) → first_stay 0 stay ≡ []
unfolding first_stay
first_stay-none stay = grind (arith, common_steps)

-- The lines of a text that isn't empty.
pub texts_of-next : (s : List ℕ) → ¬ (length s ≡ 0) → texts_of s ≡ first_text (texts_of s) ∷ later_texts (texts_of s)
texts_of-next s h = by_lines (texts_of s) refl
  where
    no_bytes : (t : List ℕ) → ¬ (length t ≡ 0) → t ≡ [] → ⊥
    no_bytes t k e = k (ap length e)

    by_lines : (ls : List (List ℕ)) → texts_of s ≡ ls → ls ≡ first_text ls ∷ later_texts ls
    by_lines (l ∷ ls) e = refl
    by_lines [] e = absurd (no_bytes s h ((lines_exist s).joined ∙ ap concat e))

-- The marks that are read of a text that isn't empty.
pub read_marks-next : (marks : List ℕ) (m : ℕ) (ls : List (List ℕ)) (s line shown rest after : List ℕ) → ¬ (length s ≡ 0) →
    line ≡ first_text ls → shown ≡ first_text (texts_of s) → texts_of rest ≡ later_texts ls → texts_of after ≡ later_texts (texts_of s) →
    m ≡ read_mark line shown → (marks ++ m ∷ []) ++ read_marks (texts_of rest) (texts_of after) ≡ marks ++ read_marks ls (texts_of s)
read_marks-next marks m ls s line shown rest after some l p r a is =
    append_assoc marks (m ∷ []) (read_marks (texts_of rest) (texts_of after))
    ∙ ap (λ (x : List ℕ). marks ++ x) (ap₂ (λ (x : ℕ) (y : List ℕ). x ∷ y) (is ∙ ap₂ read_mark l p) (ap₂ read_marks r a)
    ∙ ap (read_marks ls) (sym (texts_of-next s some)))

-- No mark is read of a text without bytes.
pub read_marks-none : (ls : List (List ℕ)) (s : List ℕ) → length s ≡ 0 → read_marks ls (texts_of s) ≡ []
unfolding split_lines
read_marks-none ls [] e = refl
read_marks-none ls (b ∷ bs) e = cc

-- The bytes printed for judged lines are read back.
read_each : {X : Type 0} (line shown : X → List ℕ) (mark : X → ℕ) → ((x : X) → read_mark (line x) (shown x) ≡ mark x) → (xs : List X) →
    read_marks (map line xs) (map shown xs) ≡ map mark xs
read_each line shown mark h [] = refl
read_each line shown mark h (x ∷ xs) = ap₂ (λ (m : ℕ) (ms : List ℕ). m ∷ ms) (h x) (read_each line shown mark h xs)

-- The bytes printed for a line are the line, perhaps after a mark.
data Shows (line shown : List ℕ) : Type 0 where
  same : shown ≡ line → Shows line shown
  other : (mark : ℕ) → mark ≢ 10 → shown ≡ mark ∷ line → Shows line shown

shows_whole : (line shown : List ℕ) → Shows line shown → IsWhole line → IsWhole shown
shows_whole line shown (same e) whole = subst IsWhole (sym e) whole
shows_whole line shown (other mark n e) whole = (mark ∷ whole.0, (n, whole.1), e ∙ ap (λ (x : List ℕ). mark ∷ x) whole.2)

shows_formed : (line shown : List ℕ) → Shows line shown → IsWhole line ⊎ IsUnterminated line → IsWhole shown ⊎ IsUnterminated shown
shows_formed line shown s (inl whole) = inl (shows_whole line shown s whole)
shows_formed line shown (same e) (inr rest) = inr (subst IsUnterminated (sym e) rest)
shows_formed line shown (other mark n e) (inr rest) = inr (subst IsUnterminated (sym e) (λ q. absurd cc, (n, rest.1)))

-- The bytes printed in place of the lines of a text are lines.
all_formed : {X : Type 0} (line shown : X → List ℕ) (shows : (x : X) → Shows (line x) (shown x)) (xs : List X) → AreFormed (map line xs) → AreFormed (map shown xs)
all_formed line shown shows [] h = tt
all_formed line shown shows (x ∷ []) h = shows_formed (line x) (shown x) (shows x) h
all_formed line shown shows (x ∷ y ∷ xs) h = (shows_whole (line x) (shown x) (shows x) h.0, all_formed line shown shows (y ∷ xs) h.1)

-- A line that differs from what is printed for it has its mark.
shows_judged : (blank : Bool) (j : Judged) → Shows (text_of j.line) (mark_piece blank j)
shows_judged blank j = by_test (bytes_eq (plain_piece blank j) (text_of j.line)) refl
  where
    no_newline : (b : Bool) (m : ℕ) → m ≡ (if b then 0 else 126) → m ≢ 10
    no_newline true m is e = absurd (omega arith)
    no_newline false m is e = absurd (omega arith)

    by_test : (b : Bool) → bytes_eq (plain_piece blank j) (text_of j.line) ≡ b →
        Shows (text_of j.line) (if b then plain_piece blank j else mark_of blank j ∷ text_of j.line)
    by_test true e = same ((bytes_eq-Decides (plain_piece blank j) (text_of j.line)).0 e)
    by_test false e = other (mark_of blank j) (no_newline (is_removed j.verdict && not blank) (mark_of blank j) refl) refl

shows_by : (s : Settings) (j : Judged) → Shows (text_of j.line) (mark_piece s.blank (judged_by s j))
shows_by s j = shows_judged s.blank (judged_by s j)

-- A line after a mark isn't the line.
longer : (m : ℕ) (line : List ℕ) → bytes_eq (m ∷ line) line ≡ false
longer m line = by_test (bytes_eq (m ∷ line) line) refl
  where
    by_test : (b : Bool) → bytes_eq (m ∷ line) line ≡ b → b ≡ false
    by_test false e = refl
    by_test true e = absurd (let q : suc (length line) ≡ length line = ap length ((bytes_eq-Decides (m ∷ line) line).0 e) in omega arith)

-- A judged line's mark is read from what is printed for it.
read_judged : (s : Settings) (j : Judged) → read_mark (text_of j.line) (mark_piece s.blank (judged_by s j)) ≡ mark_by s j
read_judged s j = by_test (stays_by s.blank (judged_by s j)) refl
  where
    by_test : (b : Bool) → stays_by s.blank (judged_by s j) ≡ b →
        read_mark (text_of j.line) (if b then plain_piece s.blank (judged_by s j) else mark_of s.blank (judged_by s j) ∷ text_of j.line)
        ≡ (if b then SAME else mark_of s.blank (judged_by s j))
    by_test true e = ap (λ (t : Bool). if t then SAME else slice_index (plain_piece s.blank (judged_by s j)) 0) e
    by_test false e = ap (λ (t : Bool). if t then SAME else mark_of s.blank (judged_by s j)) (longer (mark_of s.blank (judged_by s j)) (text_of j.line))

-- The marks of judged lines are read from what is printed for them.
marks_read : (s : Settings) (js : List Judged) (text : List ℕ) → map (λ (j : Judged). text_of j.line) js ≡ texts_of text →
    read_marks (texts_of text) (texts_of (concat (map (λ (j : Judged). mark_piece s.blank (judged_by s j)) js))) ≡ map (mark_by s) js
marks_read s js text lines =
    ap₂ read_marks (sym lines) (sym (texts_of-formed (map piece js) (all_formed line piece (shows_by s) js (subst AreFormed (sym lines) (lines_exist text).formed))))
    ∙ read_each line piece (mark_by s) (read_judged s) js
  where
    line : Judged → List ℕ
    line j = text_of j.line

    piece : Judged → List ℕ
    piece j = mark_piece s.blank (judged_by s j)

-- The pieces of a printer that looks at one line alone.
pieces_alone : (piece : List Judged → Judged → List ℕ) (alone : Judged → List ℕ) → ((before : List Judged) → (j : Judged) → piece before j ≡ alone j) →
    (before js : List Judged) → pieces_by piece before js ≡ map alone js
pieces_alone piece alone h before [] = refl
pieces_alone piece alone h before (j ∷ js) = ap₂ (λ (x : List ℕ) (xs : List (List ℕ)). x ∷ xs) (h before j) (pieces_alone piece alone h (before ++ j ∷ []) js)

-- A text without a fault is read as all of its lines.
read_all : {o : Options} {text : List ℕ} {xs : List (Item Reading)} {t : Tree Reading} (f : Option Fault) → f ≡ None → ReadsAs o text xs t f →
    map line_of xs ≡ lines_of text
read_all f e (stops xs t g h) = cc
read_all f e (ends xs t h) = sym h.are

judged_texts : {o : Options} {text : List ℕ} {xs : List (Item Reading)} {t : Tree Reading} → ReadsAs o text xs t None →
    map (λ (j : Judged). text_of j.line) (judged_lines xs (marks t)) ≡ texts_of text
judged_texts {o} {text} {xs} {t} h =
    sym (map-map text_of (λ (j : Judged). j.line) (judged_lines xs (marks t)))
    ∙ ap (map text_of) (judged_all xs (marks t) (length_marks true t ∙ ap length (read_lines h)) ∙ read_all None refl h)
    ∙ map-lines_of text

-- A text without a fault has marks.
pub marks_exist : (o : Options) (text : List ℕ) {a : Outcome} → HasOutcome o text a → a.fault ≡ None → (ms : List ℕ) × AreMarks o text ms
marks_exist o text (ran_as {xs} {t} reads) none =
    let faultless = subst (λ (f : Option Fault). ReadsAs o text xs t f) none reads in
    (map (mark_by o.settings) (judged_lines xs (marks t)), record { items = xs; tree = t; reads = faultless; all = judged_texts faultless; each = refl })

-- A text has one list of marks.
pub one_marks : (o : Options) (text : List ℕ) {ms ns : List ℕ} → AreMarks o text ms → AreMarks o text ns → ms ≡ ns
one_marks o text a b =
    let same = reads_once a.reads b.reads in
    a.each ∙ ap₂ (λ (xs : List (Item Reading)) (t : Tree Reading). map (mark_by o.settings) (judged_lines xs (marks t))) same.0 same.1 ∙ sym b.each

-- The marks of a text, read from what a printer of marks prints for it.
pub are_marks : (o : Options) (piece : List Judged → Judged → List ℕ) (text new ms : List ℕ) {xs : List (Item Reading)} {t : Tree Reading} → ReadsAs o text xs t None →
    ((before : List Judged) → (j : Judged) → piece before j ≡ mark_piece o.settings.blank (judged_by o.settings j)) →
    new ≡ concat (pieces_by piece [] (judged_lines xs (marks t))) → ms ≡ read_marks (texts_of text) (texts_of new) → AreMarks o text ms
are_marks o piece text new ms {xs} {t} reads alone printed read = record {
  items = xs;
  tree = t;
  reads = reads;
  all = judged_texts reads;
  each = read
      ∙ ap (λ (x : List ℕ). read_marks (texts_of text) (texts_of x)) (printed ∙ ap concat (pieces_alone piece (λ (j : Judged). mark_piece o.settings.blank (judged_by o.settings j)) alone [] (judged_lines xs (marks t))))
      ∙ marks_read o.settings (judged_lines xs (marks t)) text (judged_texts reads);
}
