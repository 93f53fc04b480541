-- Scans: the scan of a line, from the state after the text before it.
use Rattle.std.proofs.Common.{◌≡◌, ℕ, ◌+◌, List, [], ◌∷◌, ◌++◌, length, take, drop, map, Bool, true, false, ◌&&◌, ◌||◌, if◌then◌else◌, refl, sym, ◌∙◌, ap, append_assoc, append-nil, arith, length-append, length-drop}
use Rattle.std.proofs.lemmas.List.{take_at, take_all, take-map, drop-map, drop-append-le, drop_all}
use Rattle.std.proofs.lemmas.Grind.{flat_map-append}
use Rattle.ud_model.specs.text.Bytes.{newline, slash, star, space, starts_with_byte}
use Rattle.ud_model.specs.text.Lines.{Line}
use Rattle.ud_model.specs.text.Scans.{Scan, Reading}
use Rattle.ud_model.specs.text.Splicing.{is_spliced, content, stays_open, newline_of, spliced_part, spliced_text, extended_run, c_run_from, c_run_of, last_is_spliced}
use Rattle.ud_model.specs.text.Lexemes.{LexemeKind, Cell, lexeme_at, lex_from, lex, shown, open_line, last_kind, kind_at_end}
use Rattle.ud_model.specs.text.Scanning.{is_block, joins, comment_at, is_blank, scan_after_run}
use Rattle.ud_model.specs.aids.LexStates.{LexState, in_text, at_slash, in_block, at_star, in_line, in_literal, at_backslash, cells_after, LexesTo, opens_comment, masked_byte, kind_in_state, fresh_at, state_after_line, white_after_line, blank_last, mask, Masks}
use Rattle.ud_model.specs.declared.kind.Mode.TheVariants.{C}
use Rattle.ud_model.specs.declared.kind.CommentAt.{CommentAt}
use Rattle.ud_model.proofs.text.Steps.{cell}
use Rattle.ud_model.proofs.text.LexStateLemmas.{length-lex, length-mask, open_line-append, is_blank_last, LexesTo-step, mask_step}

-- The facts of a state, rewritten along equalities.
pub LexesTo-same : {t u : List ℕ} {w x : LexState} {b c : Bool} → t ≡ u → w ≡ x → b ≡ c → LexesTo t w b → LexesTo u x c
LexesTo-same {t} {u} {w} {x} {b} {c} e f g r = grind arith

-- The kind of the last of cells, and of further ones.
pub last_kind-append : (k : LexemeKind) (xs ys : List Cell) → last_kind k (xs ++ ys) ≡ last_kind (last_kind k xs) ys
last_kind-append k [] ys = refl
last_kind-append k (c ∷ xs) ys = last_kind-append c.kind xs ys

last_space : (k : LexemeKind) (w : LexState) → last_kind k (cells_after w (space ∷ [])) ≡ kind_in_state w
unfolding cells_after lex_from lexeme_at
last_space k w = grind arith

-- The kind at the end of a text, from its state.
pub kind_at_place : {text : List ℕ} {w : LexState} {white : Bool} → LexesTo text w white → kind_at_end text ≡ kind_in_state w
unfolding kind_at_end
kind_at_place {text} {w} r = grind (arith, last_kind-append, last_space)

-- The settled cells, and a slash that isn't settled, are as many as the text has bytes.
pub settled_all : {text : List ℕ} {w : LexState} {white : Bool} (r : LexesTo text w white) → length r.settled + length (cells_after w []) ≡ length text
settled_all {text} {w} r = grind (arith, length-append, length-lex, append-nil)

fresh_clean : (text : List ℕ) (w : LexState) (white : Bool) (s : List ℕ) (r : LexesTo text w white) → cells_after w [] ≡ [] →
    is_blank (open_line [] (take (length text) (lex (text ++ s)))) ≡ white
fresh_clean text w white s r none =
    let size : length r.settled ≡ length text = omega (arith, settled_all r, ap (λ (cells : List Cell). length cells) none) in
    cc (r.splits s, take_at r.settled (cells_after w s) (length text) size, r.white_is)

fresh_slash : (text : List ℕ) (white : Bool) (s : List ℕ) (r : LexesTo text at_slash white) →
    is_blank (open_line [] (take (length text) (lex (text ++ s)))) ≡ (white && (starts_with_byte star s || starts_with_byte slash s))
unfolding cells_after lex_from lexeme_at
fresh_slash text white s r = let first : List Cell = cell (lexeme_at slash s).kind slash ∷ [] in
    let rest : List Cell = lex_from (lexeme_at slash s).kind (lexeme_at slash s).more s in
    let size : length (r.settled ++ first) ≡ length text = length-append r.settled first ∙ settled_all r in
    ap (λ (cells : List Cell). is_blank (open_line [] (take (length text) cells))) (r.splits s ∙ sym (append_assoc r.settled first rest))
    ∙ ap (λ (cells : List Cell). is_blank (open_line [] cells)) (take_at (r.settled ++ first) rest (length text) size)
    ∙ ap is_blank (open_line-append [] r.settled first)
    ∙ (grind (arith, is_blank_last))
    ∙ ap (λ (v : Bool). v && (starts_with_byte star s || starts_with_byte slash s)) (sym r.white_is)

-- The line that follows a text is fresh, or it isn't, by the state after the text.
pub fresh_at_place : (text : List ℕ) (w : LexState) (white : Bool) (s : List ℕ) → LexesTo text w white →
    is_blank (open_line [] (take (length text) (lex (text ++ s)))) ≡ fresh_at w white s
unfolding cells_after lex_from lexeme_at
fresh_at_place text in_text white s r = fresh_clean text in_text white s r refl
fresh_at_place text at_slash white s r = fresh_slash text white s r
fresh_at_place text in_block white s r = fresh_clean text in_block white s r refl
fresh_at_place text at_star white s r = fresh_clean text at_star white s r refl
fresh_at_place text in_line white s r = fresh_clean text in_line white s r refl
fresh_at_place text (in_literal q) white s r = fresh_clean text (in_literal q) white s r refl
fresh_at_place text (at_backslash q) white s r = fresh_clean text (at_backslash q) white s r refl

opens_comment-feed : (w : LexState) → opens_comment w newline ≡ false
opens_comment-feed w = grind arith

-- The state after a line's content and its newline.
pub LexesTo-close : (text : List ℕ) (line : Line) (w : LexState) (white : Bool) → LexesTo (text ++ content line) w white →
    LexesTo (text ++ spliced_part line) (state_after_line (stays_open line) w) (white_after_line (stays_open line) w white)
LexesTo-close text line w white r = grind (arith, append_assoc, append-nil, LexesTo-step)

shown_at_end : (o : Bool) (text c : List ℕ) (w : LexState) (white : Bool) → LexesTo (text ++ c) w white →
    take (length c) (drop (length text) (mask ((text ++ c) ++ (if o then [] else newline ∷ [])))) ≡ drop (length text) (mask (text ++ c))
shown_at_end true text c w white r = grind (arith, append-nil, take_all, length-drop, length-mask, length-append)
shown_at_end false text c w white r = ap (λ (l : List ℕ). take (length c) (drop (length text) l))
    (mask_step (text ++ c) w white newline r
    ∙ ap (λ (t : Bool). (if t then blank_last (mask (text ++ c)) else mask (text ++ c)) ++ masked_byte w newline ∷ []) (opens_comment-feed w))
    ∙ ap (λ (l : List ℕ). take (length c) l)
    (drop-append-le (length text) (mask (text ++ c)) (masked_byte w newline ∷ []) (omega (arith, length-mask (text ++ c), length-append text c)))
    ∙ take_at (drop (length text) (mask (text ++ c))) (masked_byte w newline ∷ []) (length c)
    (omega (arith, length-drop (length text) (mask (text ++ c)), length-mask (text ++ c), length-append text c))

-- The masked line is the masked text up to the end of the line's content.
pub masked_is : (text : List ℕ) (line : Line) {w : LexState} {white : Bool} {masked : List ℕ} → Masks (length text) (text ++ content line) w white masked →
    map shown (take (length (content line)) (drop (length text) (lex (text ++ spliced_part line)))) ≡ masked
unfolding mask
masked_is text line {w} {white} {masked} m =
    sym (take-map shown (length (content line)) (drop (length text) (lex (text ++ spliced_part line))))
    ∙ ap (λ (l : List ℕ). take (length (content line)) l) (sym (drop-map shown (length text) (lex (text ++ spliced_part line))))
    ∙ ap (λ (t : List ℕ). take (length (content line)) (drop (length text) (mask t))) (sym (append_assoc text (content line) (newline_of line)))
    ∙ shown_at_end (stays_open line) text (content line) w white m.reads ∙ sym m.masked_is

-- The spliced text of lines, and of further ones.
pub spliced_text-append : (lines more : List Line) → spliced_text (lines ++ more) ≡ spliced_text lines ++ spliced_text more
spliced_text-append lines more = flat_map-append spliced_part lines more

-- The spliced text of lines with one more.
pub joined_last : (lines : List Line) (line : Line) → spliced_text (lines ++ line ∷ []) ≡ spliced_text lines ++ spliced_part line
joined_last lines line = grind (arith, spliced_text-append, append-nil)

-- The last of lines with one more is spliced if that one is.
pub last_is_spliced_last : (lines : List Line) (line : Line) → last_is_spliced (lines ++ line ∷ []) ≡ is_spliced line
last_is_spliced_last (l ∷ m ∷ lines) line = last_is_spliced_last (m ∷ lines) line
last_is_spliced_last _ _ = refl

run_from_last : (run : List Line) (readings : List Reading) (r : Reading) → c_run_from run (readings ++ r ∷ []) ≡ extended_run (c_run_from run readings) r.mode r.line
run_from_last run [] r = refl
run_from_last run (q ∷ readings) r = run_from_last (extended_run run q.mode q.line) readings r

-- The C run after readings with one more.
pub run_of_last : (readings : List Reading) (r : Reading) → c_run_of (readings ++ r ∷ []) ≡ extended_run (c_run_of readings) r.mode r.line
run_of_last readings r = run_from_last [] readings r

-- The spliced text after a further line in C mode.
pub joined_run_last : (readings : List Reading) (r : Reading) → r.mode ≡ C → spliced_text (c_run_of (readings ++ r ∷ [])) ≡ spliced_text (c_run_of readings) ++ spliced_part r.line
joined_run_last readings r e = grind (arith, run_of_last, joined_last)

-- Lines with one more join the next line by the splice of that one, or by the lexeme at their end.
pub joins_last : (lines : List Line) (line : Line) → joins (lines ++ line ∷ []) ≡ (is_spliced line || is_block (kind_at_end (spliced_text lines ++ spliced_part line)))
unfolding joins
joins_last lines line = grind (arith, last_is_spliced_last, joined_last)

-- Two scans with equal parts are equal.
same_scan : {m n : List ℕ} {f f' b b' a a' : Bool} {s : Bool} {k k' : CommentAt} → m ≡ n → f ≡ f' → b ≡ b' → a ≡ a' → k ≡ k' →
    ◌≡◌ {A = Scan} (record { masked = m; fresh = f; joins_before = b; joins_after = a; spliced = s; comment = k })
    (record { masked = n; fresh = f'; joins_before = b'; joins_after = a'; spliced = s; comment = k' })
same_scan e f g h i = cc

-- The scan of a line: by the state after the text before it, by the masked content of the line, and
-- by the state after the text with it.
pub scan_after_is : (run : List Line) (line : Line) (masked : List ℕ) (w v : LexState) (white now_white : Bool) (before : Bool) →
    LexesTo (spliced_text run) w white → before ≡ joins run → Masks (length (spliced_text run)) (spliced_text run ++ content line) v now_white masked →
    scan_after_run run line ≡ record {
      masked = masked;
      fresh = fresh_at w white (content line);
      joins_before = before;
      joins_after = is_spliced line || is_block (kind_in_state (state_after_line (stays_open line) v));
      spliced = is_spliced line;
      comment = comment_at (is_spliced line) (kind_in_state (state_after_line (stays_open line) v));
    }
unfolding scan_after_run
scan_after_is run line masked w v white now_white before r j m =
    let at_end : kind_at_end (spliced_text run ++ spliced_part line) ≡ kind_in_state (state_after_line (stays_open line) v) =
    kind_at_place (LexesTo-close (spliced_text run) line v now_white m.reads) in
    same_scan (masked_is (spliced_text run) line m)
    (fresh_at_place (spliced_text run) w white (spliced_part line) r ∙ (grind arith))
    (sym j)
    (joins_last run line ∙ ap (λ (k : LexemeKind). is_spliced line || is_block k) at_end)
    (ap (λ (k : LexemeKind). comment_at (is_spliced line) k) at_end)

-- Nothing is shown yet after the text itself.
pub Masks-start : {text : List ℕ} {w : LexState} {white : Bool} → LexesTo text w white → Masks (length text) text w white []
Masks-start {text} r = grind (arith, drop_all, length-mask)
