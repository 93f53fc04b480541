-- Quiet lines: a whole line that is read without a stop is text, and what is carried from it; many
-- of them at once.
use Rattle.std.proofs.Common.{◌≡◌, ◌≤◌, ℕ, suc, ◌+◌, ◌-◌, nat_eq, List, [], ◌∷◌, ◌++◌, length, take, Bool, true, false, ◌||◌, if◌then◌else◌, refl, sym, ◌∙◌, ap, subst, append_assoc, append-nil, arith, length-append}
use Rattle.std.specs.List.{concat, ends_with}
use Rattle.std.proofs.lemmas.Bool.Decides.{Decides-eqb}
use Rattle.std.proofs.lemmas.Slice.Eq.{ends_is}
use Rattle.std.proofs.lemmas.List.{take-append-le}
use Rattle.ud_model.specs.text.Lines.{NoNewline, IsWhole, ending_of, Line, line_at, numbered_from, whole_lines, split_lines}
use Rattle.ud_model.specs.text.Scans.{Scan, Reading}
use Rattle.ud_model.specs.text.Splicing.{is_spliced, content, stays_open, spliced_text, c_run_of}
use Rattle.ud_model.specs.text.Scanning.{is_block, comment_at, scan_after, next_reading, readings_after}
use Rattle.ud_model.specs.aids.LexStates.{LexState, in_text, at_slash, in_block, at_star, in_line, in_literal, at_backslash, kind_in_state, fresh_at, state_after_line, white_after_line, Masks}
use Rattle.ud_model.specs.sections.Directives.{content_of, text, skip_white_and_hash}
use Rattle.ud_model.specs.declared.kind.Mode.{Mode}
use Rattle.ud_model.specs.declared.kind.Mode.TheVariants.{C}
use Rattle.ud_model.proofs.text.LinesLemmas.{AreWhole, body-ending, parts_joined, are_whole}
use Rattle.ud_model.proofs.text.ScanLaws.{place_after, white_after, masked_after, Masks-append}
use Rattle.ud_model.proofs.text.ScanLemmas.{Masks-start}
use Rattle.ud_text.specs.scan.ScannerState.{ScannerState, ScannerRepresents}
use Rattle.ud_text.specs.bulk.BulkScanning.{lines_in_mode, HaveNoDirective, AreWholeLines, SkipsText}
use Rattle.ud_text.specs.bulk.BulkStates.{line_state, BulkState, bulk_state_after, is_other_word, Skipped, HasNoStop, can_start, continues_line, scanner_state_at, AtLine}
use Rattle.ud_text.specs.bulk.BulkLexemes.{IsLineStart, at_start}
use Rattle.ud_text.proofs.lemmas.bulk.BulkPlainLemmas.{begins_ends}
use Rattle.ud_text.proofs.lemmas.lines.ConsumeLemmas.{lines_joined, ends_joined}
use Rattle.ud_text.proofs.lemmas.scan.MaskLemmas.{no_newline-take}
use Rattle.ud_text.proofs.lemmas.scan.ScannerLemmas.{scan_carried, represents_code, no_newline-content}
use Rattle.ud_text.proofs.lemmas.bulk.QuietLemmas.{bulk_state_after-append, bulk_state_after-place, bulk_state_after-white, HasNoStop-feed, HasNoStop-rest}
use Rattle.ud_text.proofs.lemmas.bulk.TextLemmas.{Unsigned, text_unsigned, unsigned, NoWord}
use Rattle.ud_model.specs.text.Bytes.{newline, carriage_return, backslash}
use Rattle.std.proofs.lemmas.Grind.{common_steps}

-- `IsTail spliced tail`: what follows a line's content, by whether the line is spliced
pub data IsTail : Bool → List ℕ → Type 0 where
  feed : IsTail false (newline ∷ [])
  return_feed : IsTail false (carriage_return ∷ newline ∷ [])
  splice_newline : IsTail true (backslash ∷ newline ∷ [])
  splice_return_feed : IsTail true (backslash ∷ carriage_return ∷ newline ∷ [])

-- `Shape line bytes`: a whole line is its content and a tail
pub record Shape (line : Line) (bytes : List ℕ) : Type 0 where
  pub tail : List ℕ
  pub is : bytes ≡ content line ++ tail
  pub kind : IsTail (is_spliced line) tail
  pub closes : stays_open line ≡ is_spliced line
  pub one_line : NoNewline (content line)

-- `IsFeed bytes`: the ending of a whole line
pub data IsFeed : List ℕ → Type 0 where
  one : IsFeed (newline ∷ [])
  two : IsFeed (carriage_return ∷ newline ∷ [])

pub whole_ending : (l : List ℕ) → IsWhole l → IsFeed (ending_of l)
whole_ending l (prefix, none, is) =
    by_tests (ends_with nat_eq l (carriage_return ∷ newline ∷ [])) (ends_with nat_eq l (newline ∷ []))
    ((ends_is Decides-eqb l (newline ∷ []) (ends_with nat_eq l (newline ∷ [])) refl).1 prefix is)
  where
    by_tests : (a b : Bool) → b ≡ true → IsFeed (if a then carriage_return ∷ newline ∷ [] else if b then newline ∷ [] else [])
    by_tests true b e = two
    by_tests false true e = one
    by_tests false false e = cc

pub feed_length : (e : List ℕ) → IsFeed e → 1 ≤ length e
feed_length e h = grind arith

pub body_one_line : (l : List ℕ) (k : ℕ) → IsWhole l → 1 ≤ k → NoNewline (take (length l - k) l)
body_one_line l k h m = grind (arith, take-append-le, length-append, no_newline-take)

body_split : (line : Line) → line.body ≡ content line ++ (if is_spliced line then backslash ∷ [] else [])
body_split line = grind (arith, common_steps)

feed_closes : (line : Line) → IsFeed line.ending → stays_open line ≡ is_spliced line
feed_closes line h = grind arith

tail_kind : (s : Bool) (e : List ℕ) → IsFeed e → IsTail s ((if s then backslash ∷ [] else []) ++ e)
tail_kind true _ one = splice_newline
tail_kind true _ two = splice_return_feed
tail_kind false _ one = feed
tail_kind false _ two = return_feed

-- each whole line is a content and a tail
pub shape_of : (n : ℕ) (l : List ℕ) → IsWhole l → Shape (line_at n l) l
shape_of n l whole = let line : Line = line_at n l in
    let f : IsFeed (ending_of l) = whole_ending l whole in
    record {
      tail = (if is_spliced line then backslash ∷ [] else []) ++ ending_of l;
      is = sym (body-ending l) ∙ ap (λ (b : List ℕ). b ++ ending_of l) (body_split line)
          ∙ append_assoc (content line) (if is_spliced line then backslash ∷ [] else []) (ending_of l);
      kind = tail_kind (is_spliced line) (ending_of l) f;
      closes = feed_closes line f;
      one_line = no_newline-content line (body_one_line l (length (ending_of l)) whole (feed_length (ending_of l) f));
    }

-- `Leads v white spliced now`: the state after a line is that of the definitions, by the state
-- after its content and whether it is spliced
pub record Leads (v : LexState) (white : Bool) (spliced : Bool) (now : BulkState) : Type 0 where
  pub state : now.state ≡ state_after_line spliced v
  pub white_is : now.white ≡ white_after_line spliced v white
  pub unspliced : now.spliced ≡ false
  pub begins : can_start now.state ≡ true
  pub in_comment : spliced ≡ true → now.state ≡ in_block
  pub begins_white : is_block (kind_in_state now.state) ≡ false → now.white ≡ true

tail_leads : (s : BulkState) (spliced : Bool) (tail : List ℕ) → IsTail spliced tail → HasNoStop s tail → Leads s.state s.white spliced (bulk_state_after s tail)
tail_leads s spliced tail h k = grind arith

-- a tail ends the line's word
tail_names : (spliced : Bool) (tail : List ℕ) → IsTail spliced tail → (is_other_word tail ≡ false) × NoWord tail
tail_names spliced tail h = grind arith

-- `QuietLine w white before line now`: a line that is read without a stop is text, and leads to the
-- state `now`
pub record QuietLine (w : LexState) (white : Bool) (before : List Reading) (line : Line) (now : BulkState) : Type 0 where
  pub represents : ScannerRepresents (scanner_state_at now.state now.white) (before ++ next_reading before C line ∷ [])
  pub is_text : content_of (scan_after before C line) ≡ text
  pub at_line : AtLine now

module _ (w : LexState) (white : Bool) (before : List Reading) (line : Line) (carried : ScannerRepresents (scanner_state_at w white) before) where
  -- how the line is shown
  pub shown : Masks (length (spliced_text (c_run_of before))) (spliced_text (c_run_of before) ++ content line) (place_after w (content line)) (white_after w white (content line)) (masked_after w [] (content line))
  shown = Masks-append (content line) (spliced_text (c_run_of before)) w white [] (Masks-start carried.reads)

  -- the scan of the line
  abbrev pub scan_is : Scan
  scan_is = record {
    masked = masked_after w [] (content line);
    fresh = fresh_at w white (content line);
    joins_before = continues_line w white;
    joins_after = is_spliced line || is_block (kind_in_state (state_after_line (stays_open line) (place_after w (content line))));
    spliced = is_spliced line;
    comment = comment_at (is_spliced line) (kind_in_state (state_after_line (stays_open line) (place_after w (content line))));
  }

  pub scanned : scan_after before C line ≡ scan_is
  unfolding shown
  scanned = scan_carried (scanner_state_at w white) before line (masked_after w [] (content line)) (place_after w (content line)) (white_after w white (content line)) carried shown

  sign : (p : LexState) (tail : List ℕ) → can_start p ≡ true → NoNewline (content line) → is_other_word tail ≡ false → NoWord tail →
      HasNoStop (line_state p true) (content line ++ tail) → Unsigned (skip_white_and_hash (masked_after p [] (content line)))
  sign in_text tail e o f n q = unsigned (content line) tail in_text false tt o q f n
  sign in_block tail e o f n q = unsigned (content line) tail in_block false tt o q f n
  sign at_slash tail e o f n q = cc
  sign at_star tail e o f n q = cc
  sign in_line tail e o f n q = cc
  sign (in_literal r) tail e o f n q = cc
  sign (at_backslash r) tail e o f n q = cc

  -- the line is text, if its content is read without a stop and no word continues after it
  pub line_is_text : (tail : List ℕ) → can_start w ≡ true → NoNewline (content line) → is_other_word tail ≡ false → NoWord tail →
      HasNoStop (line_state w white) (content line ++ tail) → content_of (scan_after before C line) ≡ text
  line_is_text tail at o f n q = grind (arith, scanned, text_unsigned, sign)

module _ (w : LexState) (white : Bool) (before : List Reading) (line : Line) (bytes : List ℕ) (shape : Shape line bytes)
    (at : can_start w ≡ true) (quiet : HasNoStop (line_state w white) bytes) (carried : ScannerRepresents (scanner_state_at w white) before) where
  quiet_split : HasNoStop (line_state w white) (content line ++ shape.tail)
  quiet_split = subst (λ (b : List ℕ). HasNoStop (line_state w white) b) shape.is quiet

  led : Leads (place_after w (content line)) (white_after w white (content line)) (is_spliced line) (bulk_state_after (line_state w white) bytes)
  unfolding quiet_split
  led = grind (
    arith,
    bulk_state_after-append (line_state w white) (content line) shape.tail,
    bulk_state_after-place (line_state w white) (content line),
    bulk_state_after-white (line_state w white) (content line),
    tail_leads (bulk_state_after (line_state w white) (content line)) (is_spliced line) shape.tail shape.kind (HasNoStop-rest (line_state w white) (content line) shape.tail quiet_split),
  )

  place_now : (bulk_state_after (line_state w white) bytes).state ≡ state_after_line (stays_open line) (place_after w (content line))
  place_now = led.state ∙ ap (λ (o : Bool). state_after_line o (place_after w (content line))) (sym shape.closes)

  white_now : (bulk_state_after (line_state w white) bytes).white ≡ white_after_line (stays_open line) (place_after w (content line)) (white_after w white (content line))
  white_now = grind (arith, led, place_after, white_after)

  joins_now : (s : Bool) (p : LexState) (u : Bool) → (s ≡ true → p ≡ in_block) → (is_block (kind_in_state p) ≡ false → u ≡ true) → continues_line p u ≡ (s || is_block (kind_in_state p))
  joins_now s p u h k = grind arith

  line_stands : ScannerRepresents (scanner_state_at (bulk_state_after (line_state w white) bytes).state (bulk_state_after (line_state w white) bytes).white) (before ++ next_reading before C line ∷ [])
  line_stands =
      represents_code (scanner_state_at w white) before line (masked_after w [] (content line)) (place_after w (content line)) (white_after w white (content line))
      (scanner_state_at (bulk_state_after (line_state w white) bytes).state (bulk_state_after (line_state w white) bytes).white) carried (shown w white before line carried) place_now white_now
      (joins_now (is_spliced line) (bulk_state_after (line_state w white) bytes).state (bulk_state_after (line_state w white) bytes).white led.in_comment led.begins_white)

  -- the line is text, and the state after it is carried
  pub line_read : QuietLine w white before line (bulk_state_after (line_state w white) bytes)
  line_read = record {
    represents = line_stands;
    is_text = line_is_text w white before line carried shape.tail at shape.one_line (tail_names (is_spliced line) shape.tail shape.kind).0
        (tail_names (is_spliced line) shape.tail shape.kind).1 quiet_split;
    at_line = record {
      is = ap (λ (u : Bool). record { state = (bulk_state_after (line_state w white) bytes).state; white = (bulk_state_after (line_state w white) bytes).white; spliced = u }) led.unspliced;
      starts = led.begins;
    };
  }

-- `QuietLines before n ls now`: lines that are read without a stop are text, and lead to the state
-- `now`
pub record QuietLines (before : List Reading) (n : ℕ) (ls : List (List ℕ)) (now : BulkState) : Type 0 where
  pub represents : ScannerRepresents (scanner_state_at now.state now.white) (readings_after before (lines_in_mode C n ls))
  pub texts : HaveNoDirective C before (numbered_from n ls)

-- lines that are read without a stop, one after another
pub lines_read : (ls : List (List ℕ)) (n : ℕ) (w : LexState) (white : Bool) (before : List Reading) → AreWhole ls → can_start w ≡ true →
    HasNoStop (line_state w white) (concat ls) → ScannerRepresents (scanner_state_at w white) before → QuietLines before n ls (bulk_state_after (line_state w white) (concat ls))
lines_read [] n w white before whole at quiet carried = record { represents = carried; texts = tt }
lines_read (l ∷ ls) n w white before whole at quiet carried = let prefix : List ℕ = whole.0.0 in
    let split : l ++ concat ls ≡ prefix ++ newline ∷ concat ls = grind (arith, append_assoc) in
    let parts : HasNoStop (line_state w white) (prefix ++ newline ∷ []) × HasNoStop (bulk_state_after (line_state w white) (prefix ++ newline ∷ [])) (concat ls) =
    HasNoStop-feed (line_state w white) prefix (concat ls) (subst (λ (x : List ℕ). HasNoStop (line_state w white) x) split quiet) in
    let first : HasNoStop (line_state w white) l = subst (λ (x : List ℕ). HasNoStop (line_state w white) x) (sym whole.0.2) parts.0 in
    let rest : HasNoStop (bulk_state_after (line_state w white) l) (concat ls) = subst (λ (x : List ℕ). HasNoStop (bulk_state_after (line_state w white) x) (concat ls)) (sym whole.0.2) parts.1 in
    let ran : QuietLine w white before (line_at n l) (bulk_state_after (line_state w white) l) =
    line_read w white before (line_at n l) l (shape_of n l whole.0) at first carried in
    let now : BulkState = bulk_state_after (line_state w white) l in
    let more : QuietLines (before ++ next_reading before C (line_at n l) ∷ []) (suc n) ls (bulk_state_after (line_state now.state now.white) (concat ls)) =
    lines_read ls (suc n) now.state now.white (before ++ next_reading before C (line_at n l) ∷ []) whole.1 ran.at_line.starts
    (subst (λ (s : BulkState). HasNoStop s (concat ls)) ran.at_line.is rest) ran.represents in
    let there : bulk_state_after (line_state now.state now.white) (concat ls) ≡ bulk_state_after (line_state w white) (l ++ concat ls) =
    ap (λ (s : BulkState). bulk_state_after s (concat ls)) (sym ran.at_line.is) ∙ sym (bulk_state_after-append (line_state w white) l (concat ls)) in
    record {
      represents = subst (λ (s : BulkState). ScannerRepresents (scanner_state_at s.state s.white) (readings_after (before ++ next_reading before C (line_at n l) ∷ []) (lines_in_mode C (suc n) ls))) there more.represents;
      texts = (ran.is_text, more.texts);
    }

-- bytes that end a line are their whole lines
pub ended_lines : (bytes : List ℕ) → AreWholeLines bytes → bytes ≡ concat (whole_lines bytes)
ended_lines bytes e = parts_joined bytes ∙ ap (λ (r : List ℕ). concat (whole_lines bytes) ++ r) e ∙ append-nil (concat (whole_lines bytes))

-- no lines change nothing
pub passes_none : (mode : Mode) (c : ScannerState) → SkipsText mode c c []
unfolding split_lines
passes_none mode c = record { represents = λ n before h. h; texts = λ n before h. tt }

-- no lines lead to the same state
pub passed_none : (start : BulkState) → AtLine start → Skipped start [] start
passed_none start at = record { ends = begins_ends [] at_start; skips = passes_none C (scanner_state_at start.state start.white); at_line = at }

quiet_passes : (w : LexState) (white : Bool) (bytes : List ℕ) → can_start w ≡ true → AreWholeLines bytes → HasNoStop (line_state w white) bytes →
    SkipsText C (scanner_state_at w white) (scanner_state_at (bulk_state_after (line_state w white) bytes).state (bulk_state_after (line_state w white) bytes).white) bytes
quiet_passes w white bytes at ends quiet = let ls : List (List ℕ) = whole_lines bytes in
    let is : bytes ≡ concat ls = ended_lines bytes ends in
    let on : HasNoStop (line_state w white) (concat ls) = subst (λ (x : List ℕ). HasNoStop (line_state w white) x) is quiet in
    record {
      represents = λ n before h. subst (λ (x : List ℕ). ScannerRepresents (scanner_state_at (bulk_state_after (line_state w white) x).state (bulk_state_after (line_state w white) x).white) (readings_after before (lines_in_mode C n ls))) (sym is)
          (lines_read ls n w white before (are_whole bytes) at on h).represents;
      texts = λ n before h. (lines_read ls n w white before (are_whole bytes) at on h).texts;
    }

-- whole lines that are read without a stop are skipped
pub passed_quiet : (start : BulkState) (bytes : List ℕ) → AtLine start → IsLineStart bytes → HasNoStop start bytes → Skipped start bytes (bulk_state_after start bytes)
passed_quiet start bytes at b quiet =
    grind (arith, begins_ends, quiet_passes, bulk_state_after-append)

stands_append : (mode : Mode) (n : ℕ) (before : List Reading) (ls ms : List (List ℕ)) →
    readings_after before (lines_in_mode mode n (ls ++ ms)) ≡ readings_after (readings_after before (lines_in_mode mode n ls)) (lines_in_mode mode (n + length ls) ms)
stands_append mode n before [] ms = grind arith
stands_append mode n before (l ∷ ls) ms = grind (arith, stands_append mode (suc n) (before ++ next_reading before mode (line_at n l) ∷ []) ls ms)

pub texts_append : (mode : Mode) (n : ℕ) (before : List Reading) (ls ms : List (List ℕ)) → HaveNoDirective mode before (numbered_from n ls) →
    HaveNoDirective mode (readings_after before (lines_in_mode mode n ls)) (numbered_from (n + length ls) ms) → HaveNoDirective mode before (numbered_from n (ls ++ ms))
texts_append mode n before [] ms h k = grind arith
texts_append mode n before (l ∷ ls) ms h k =
    let e : n + length (l ∷ ls) ≡ suc n + length ls = omega arith in (
      h.0,
      texts_append mode (suc n) (before ++ next_reading before mode (line_at n l) ∷ []) ls ms h.1
          (subst (λ (m : ℕ). HaveNoDirective mode (readings_after before (lines_in_mode mode n (l ∷ ls))) (numbered_from m ms)) e k),
    )

pub Skipped-append : {start now later : BulkState} (p q : List ℕ) → Skipped start p now → Skipped now q later → Skipped start (p ++ q) later
Skipped-append p q h k = grind (arith, ends_joined, lines_joined, stands_append, texts_append)
