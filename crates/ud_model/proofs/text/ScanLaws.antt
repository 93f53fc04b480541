-- Scans: a scan depends on its logical line alone, and its masked bytes are those of the line.
use Rattle.std.proofs.Common.{◌≡◌, ◌≢◌, ℕ, List, [], ◌∷◌, ◌++◌, length, Bool, true, false, ◌||◌, if◌then◌else◌, refl, sym, ◌∙◌, ap, ap₂, subst, append_assoc, append-nil, arith, ne_eqb}
use Rattle.std.proofs.lemmas.Bool.{or_parts}
use Rattle.ud_model.specs.text.Bytes.{newline}
use Rattle.ud_model.specs.text.Lines.{Line}
use Rattle.ud_model.specs.text.Scans.{Scan, Reading}
use Rattle.ud_model.specs.text.Splicing.{is_spliced, is_empty, content, stays_open, spliced_part, spliced_text, extended_run, c_run_from, c_run_of, last_is_spliced}
use Rattle.ud_model.specs.text.Lexemes.{kind_at_end}
use Rattle.ud_model.specs.text.Scanning.{is_block, joins, comment_at, scan_after_run, scan_after}
use Rattle.ud_model.specs.text.Scanning.{next_reading, readings_after, readings_of}
use Rattle.ud_model.specs.aids.LexStates.{LexState, in_text, LexesTo, next_state, opens_comment, masked_byte, stays_white, kind_in_state, fresh_at, state_after_line, white_after_line, blank_last, Masks}
use Rattle.ud_model.specs.declared.kind.Mode.{Mode}
use Rattle.ud_model.specs.declared.kind.Mode.TheVariants.{C}
use Rattle.ud_model.proofs.text.LexStateLemmas.{LexesTo-nil, Masks-step}
use Rattle.ud_model.proofs.text.ScanLemmas.{LexesTo-same, LexesTo-close, Masks-start, kind_at_place, spliced_text-append, joined_last, joins_last, scan_after_is, run_of_last}
use Rattle.ud_model.specs.aids.ReadAs.{read_in}
use Rattle.std.proofs.lemmas.List.{map-append}

-- The state after further bytes.
abbrev pub place_after : LexState → List ℕ → LexState
place_after w [] = w
place_after w (b ∷ bytes) = place_after (next_state w b) bytes

-- The last logical line is white with the further bytes.
abbrev pub white_after : LexState → Bool → List ℕ → Bool
white_after w white [] = white
white_after w white (b ∷ bytes) = white_after (next_state w b) (stays_white w white b) bytes

-- The masked text with the further bytes.
abbrev pub masked_after : LexState → List ℕ → List ℕ → List ℕ
masked_after w masked [] = masked
masked_after w masked (b ∷ bytes) = masked_after (next_state w b) ((if opens_comment w b then blank_last masked else masked) ++ masked_byte w b ∷ []) bytes

-- A masked text goes on with further bytes.
pub Masks-append : {n : ℕ} (bytes text : List ℕ) (w : LexState) (white : Bool) (masked : List ℕ) → Masks n text w white masked →
    Masks n (text ++ bytes) (place_after w bytes) (white_after w white bytes) (masked_after w masked bytes)
Masks-append {n} [] text w white masked m = subst (λ (t : List ℕ). Masks n t w white masked) (sym (append-nil text)) m
Masks-append {n} (b ∷ bytes) text w white masked m = let v : Bool = stays_white w white b in
    let now : List ℕ = (if opens_comment w b then blank_last masked else masked) ++ masked_byte w b ∷ [] in
    grind (arith, append_assoc, Masks-append bytes (text ++ b ∷ []) (next_state w b) v now (Masks-step b m))

-- A text with further bytes ends in a state.
pub LexesTo-append : (text : List ℕ) (w : LexState) (white : Bool) (bytes : List ℕ) → LexesTo text w white →
    LexesTo (text ++ bytes) (place_after w bytes) (white_after w white bytes)
LexesTo-append text w white bytes r = (Masks-append bytes text w white [] (Masks-start r)).reads

-- Each text ends in a state.
pub LexesTo-all : (text : List ℕ) → LexesTo text (place_after in_text text) (white_after in_text true text)
LexesTo-all text = LexesTo-append [] in_text true text LexesTo-nil

-- The scan of a line, by the state after the text before it and whether the line before joins it.
unfoldable pub scan_from : LexState → Bool → Bool → Line → Scan
scan_from w white before line = let v = place_after w (content line) in
    record {
      masked = masked_after w [] (content line);
      fresh = fresh_at w white (content line);
      joins_before = before;
      joins_after = is_spliced line || is_block (kind_in_state (state_after_line (stays_open line) v));
      spliced = is_spliced line;
      comment = comment_at (is_spliced line) (kind_in_state (state_after_line (stays_open line) v));
    }

-- A scan after a C run is the scan from the state after the run's spliced text.
pub scan_after_run-from : (run : List Line) (line : Line) (w : LexState) (white before : Bool) → LexesTo (spliced_text run) w white → before ≡ joins run →
    scan_after_run run line ≡ scan_from w white before line
unfolding scan_from
scan_after_run-from run line w white before r j =
    scan_after_is run line (masked_after w [] (content line)) w (place_after w (content line)) white
    (white_after w white (content line)) before r j (Masks-append (content line) (spliced_text run) w white [] (Masks-start r))

-- After a newline at which no block comment is open, a text ends between lexemes.
ended : (w : LexState) → is_block (kind_in_state (next_state w newline)) ≡ false → (next_state w newline ≡ in_text) × ((white : Bool) → stays_white w white newline ≡ true)
ended w e = grind arith

pub not_empty : (bytes : List ℕ) → bytes ≢ [] → is_empty bytes ≡ false
not_empty [] some = absurd (some refl)
not_empty (b ∷ bytes) some = ne_eqb (length (b ∷ bytes)) 0 (λ e. omega arith)

-- After lines of which the last has an ending and joins nothing, the spliced text ends between
-- lexemes.
pub starts_anew : (run : List Line) (last : Line) → joins (run ++ last ∷ []) ≡ false → last.ending ≢ [] → LexesTo (spliced_text (run ++ last ∷ [])) in_text true
starts_anew run last alone some =
    let parts : (is_spliced last ≡ false) × (is_block (kind_at_end (spliced_text run ++ spliced_part last)) ≡ false) =
    or_parts (is_spliced last) (is_block (kind_at_end (spliced_text run ++ spliced_part last))) (sym (joins_last run last) ∙ alone) in
    let closed : stays_open last ≡ false = ap₂ (λ (s t : Bool). s || t) parts.0 (not_empty last.ending some) in
    let v : LexState = place_after (place_after in_text (spliced_text run)) (content last) in
    let white = white_after (place_after in_text (spliced_text run)) (white_after in_text true (spliced_text run)) (content last) in
    let inside : LexesTo (spliced_text run ++ content last) v white = grind (arith, LexesTo-append, place_after, LexesTo-all) in
    let read : LexesTo (spliced_text run ++ spliced_part last) (next_state v newline) (stays_white v white newline) =
    LexesTo-same refl (ap (λ (o : Bool). state_after_line o v) closed) (ap (λ (o : Bool). white_after_line o v white) closed) (LexesTo-close (spliced_text run) last v white inside) in
    let end : (next_state v newline ≡ in_text) × ((u : Bool) → stays_white v u newline ≡ true) =
    ended v (ap is_block (sym (kind_at_place read)) ∙ parts.1) in
    LexesTo-same (sym (joined_last run last)) end.0 (end.1 white) read

pub last_is_spliced-append : (run : List Line) (l : Line) (more : List Line) → last_is_spliced (run ++ l ∷ more) ≡ last_is_spliced (l ∷ more)
last_is_spliced-append (k ∷ m ∷ run) l more = last_is_spliced-append (m ∷ run) l more
last_is_spliced-append _ _ _ = refl

kind_from : (run group : List Line) → LexesTo (spliced_text run) in_text true → kind_at_end (spliced_text (run ++ group)) ≡ kind_at_end (spliced_text group)
kind_from run group r =
    ap kind_at_end (spliced_text-append run group) ∙ kind_at_place (LexesTo-append (spliced_text run) in_text true (spliced_text group) r)
    ∙ sym (kind_at_place (LexesTo-all (spliced_text group)))

-- Lines before a group that don't join it never change whether the group joins the next line.
pub group_joins : (run group : List Line) → LexesTo (spliced_text run) in_text true → joins run ≡ false → joins (run ++ group) ≡ joins group
unfolding joins
group_joins run [] r j = cc (append-nil run, j, kind_at_place LexesTo-nil)
group_joins run (l ∷ group) r j = grind (arith, last_is_spliced-append, kind_from)

-- A scan doesn't depend on lines before its logical line.
pub own_logical_line : (run group : List Line) (line : Line) → LexesTo (spliced_text run) in_text true → joins run ≡ false →
    scan_after_run (run ++ group) line ≡ scan_after_run group line
own_logical_line run group line r j = let w : LexState = place_after in_text (spliced_text group) in
    let white : Bool = white_after in_text true (spliced_text group) in
    scan_after_run-from (run ++ group) line w white (joins group)
    (LexesTo-same (sym (spliced_text-append run group)) refl refl (LexesTo-append (spliced_text run) in_text true (spliced_text group) r))
    (sym (group_joins run group r j))
    ∙ sym (scan_after_run-from group line w white (joins group) (LexesTo-all (spliced_text group)) refl)

c_run_from-append : (run : List Line) (before more : List Reading) → c_run_from run (before ++ more) ≡ c_run_from (c_run_from run before) more
c_run_from-append run [] more = refl
c_run_from-append run (r ∷ before) more = c_run_from-append (extended_run run r.mode r.line) before more

-- A C run that starts anew goes on like an empty one.
scan_from_run : (run rest : List Line) (group : List Reading) (line : Line) → LexesTo (spliced_text run) in_text true → joins run ≡ false →
    scan_after_run (c_run_from (run ++ rest) group) line ≡ scan_after_run (c_run_from rest group) line
scan_from_run run rest [] line r j = own_logical_line run rest line r j
scan_from_run run rest (q ∷ group) line r j = by_mode q.mode (λ ls. scan_from_run run ls group line r j)
  where
    by_mode : (m : Mode) → ((ls : List Line) → scan_after_run (c_run_from (run ++ ls) group) line ≡ scan_after_run (c_run_from ls group) line) →
        scan_after_run (c_run_from (extended_run (run ++ rest) m q.line) group) line ≡ scan_after_run (c_run_from (extended_run rest m q.line) group) line
    by_mode m more = grind (arith, append_assoc)

pub joins_before-code : (run : List Line) (line : Line) → (scan_after_run run line).joins_before ≡ joins run
unfolding scan_after_run
joins_before-code run line = refl

pub joins_after-code : (run : List Line) (line : Line) → (scan_after_run run line).joins_after ≡ joins (run ++ line ∷ [])
unfolding scan_after_run
joins_after-code run line = refl

anew_code : (prefix group : List Reading) (last line : Line) → (scan_after_run (c_run_of prefix) last).joins_after ≡ false → last.ending ≢ [] →
    scan_after_run (c_run_of ((prefix ++ next_reading prefix C last ∷ []) ++ group)) line ≡ scan_after_run (c_run_of group) line
anew_code prefix group last line alone some = let run : List Line = c_run_of prefix ++ last ∷ [] in
    let j : joins run ≡ false = sym (joins_after-code (c_run_of prefix) last) ∙ alone in
    ap (λ (ls : List Line). scan_after_run ls line)
    (c_run_from-append [] (prefix ++ next_reading prefix C last ∷ []) group
    ∙ ap (λ (ls : List Line). c_run_from ls group) (run_of_last prefix (next_reading prefix C last) ∙ sym (append-nil run)))
    ∙ scan_from_run run [] group line (starts_anew (c_run_of prefix) last j some) j

-- After a line that has an ending and doesn't join the next one, lines are scanned as if no line
-- came before them.
pub scan_alone : (prefix group : List Reading) (m n : Mode) (last line : Line) → (scan_after prefix m last).joins_after ≡ false → last.ending ≢ [] →
    scan_after ((prefix ++ next_reading prefix m last ∷ []) ++ group) n line ≡ scan_after group n line
scan_alone prefix group m n last line alone some = grind (arith, anew_code, c_run_from-append)

-- The readings before, and the one of a line in this mode.
abbrev pub with_next : List Reading → Mode → Line → List Reading
with_next before mode line = before ++ next_reading before mode line ∷ []

-- A logical line ends with the last of the readings: that line has an ending, and doesn't join the
-- next line.
pub data EndsLogicalLine : List Reading → Type 0 where
  ends_with : (before : List Reading) (mode : Mode) (line : Line) →
      (scan_after before mode line).joins_after ≡ false → line.ending ≢ [] →
      EndsLogicalLine (with_next before mode line)

-- After a logical line a scan doesn't depend on what came before.
pub after_end : (before group : List Reading) (m : Mode) (l : Line) → EndsLogicalLine before → scan_after (before ++ group) m l ≡ scan_after group m l
after_end before group m l (ends_with prefix n last alone some) = scan_alone prefix group n m last l alone some

-- Lines are read after those before them.
pub readings_after-append : (before : List Reading) (lines more : List (Mode × Line)) →
    readings_after before (lines ++ more) ≡ readings_after (readings_after before lines) more
readings_after-append before [] more = refl
readings_after-append before (l ∷ lines) more = readings_after-append (before ++ next_reading before l.0 l.1 ∷ []) lines more

-- The readings before stay as they are.
pub readings_after-prefix : (before : List Reading) (lines : List (Mode × Line)) → (rest : List Reading) × (readings_after before lines ≡ before ++ rest)
readings_after-prefix before [] = ([], sym (append-nil before))
readings_after-prefix before (l ∷ lines) =
    let later = readings_after-prefix (before ++ next_reading before l.0 l.1 ∷ []) lines in
    (next_reading before l.0 l.1 ∷ later.0, later.1 ∙ append_assoc before (next_reading before l.0 l.1 ∷ []) later.0)

-- A longer list of lines begins with the readings of the shorter one.
pub readings_grow : (lines more : List (Mode × Line)) → (rest : List Reading) × (readings_of (lines ++ more) ≡ readings_of lines ++ rest)
readings_grow lines more = let later = readings_after-prefix (readings_of lines) more in
    (later.0, readings_after-append [] lines more ∙ later.1)

-- The readings of lines with one more.
pub read_more : (m : Mode) (ls : List Line) (l : Line) → read_in m (ls ++ l ∷ []) ≡ read_in m ls ++ next_reading (read_in m ls) m l ∷ []
read_more m ls l = grind (arith, map-append, readings_after-append)

-- A line that doesn't join the next one has no splice.
pub unspliced : (l : Line) → (scan_after_run [] l).joins_after ≡ false → is_spliced l ≡ false
unspliced l h =
    (or_parts (is_spliced l) (is_block (kind_at_end (spliced_text [] ++ spliced_part l))) (sym (joins_last [] l) ∙ sym (joins_after-code [] l) ∙ h)).0
