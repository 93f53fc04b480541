-- Steps over many lines: the engine's state after them.
use Rattle.std.proofs.Common.{◌≡◌, ℕ, suc, ◌+◌, ◌-◌, ◌<◌, ◌≤◌, Bool, true, false, if◌then◌else◌, List, [], ◌++◌, length, take, drop, refl, sym, ◌∙◌, ap, ap₂, subst, append_assoc, append-nil, arith, rules}
use Rattle.std.proofs.lemmas.List.{map-append, take-take}
use Rattle.std.proofs.Math.ListN.{length-take, length-drop}
use Rattle.ud_model.specs.text.Lines.{Line, SplitLines, text_of, whole_lines, numbered_from, split_lines}
use Rattle.ud_model.specs.sections.Items.{Options}
use Rattle.ud_model.specs.answer.Printing.{Judged}
use Rattle.ud_model.specs.answer.Outcomes.{lines_so_far}
use Rattle.ud_model.proofs.text.LinesLemmas.{numbered_from-append}
use Rattle.ud_text.specs.lines.LinesState.{LinesState, LinesRepresent, UpToNewline}
use Rattle.ud_text.specs.lines.Borrowing.{CanBorrow}
use Rattle.ud_text.specs.bulk.BulkScanning.{AreWholeLines}
use Rattle.ud_text.specs.lines.Consuming.{CanConsume}
use Rattle.ud_text.proofs.lemmas.lines.ConsumeLemmas.{lines_joined, can_consume_rest}
use Rattle.ud_text.proofs.lemmas.lines.NewlineLemmas.{up_to_newline-some}
use Rattle.ud_engine.specs.declared.engine.Cursor.{Cursor}
use Rattle.ud_engine.specs.declared.line_processor.SkippedText.{SkippedText}
use Rattle.ud_engine.specs.Advancing.{EngineAdvances, IsCursor, IsNext, slice_between, measure}
use Rattle.ud_engine.specs.Feeding.{EngineState, EngineRepresentsBuffered}
use Rattle.ud_engine.specs.ProcessedLines.{PrintsBulk, printed_of}
use Rattle.ud_engine.specs.DecidedLines.{consumed}
use Rattle.ud_io.specs.Streams.{Stream, TakesAllBut}
use Rattle.ud_engine.proofs.SkipLemmas.{can_skip_take}
use Rattle.ud_io.proofs.StreamLemmas.{stream_buffered}
use Rattle.ud_engine.proofs.StepLemmas.{between_none, between_more}
use Rattle.ud_engine.proofs.LinePartLemmas.{before_is, rest_is, split_lines-front_of}

-- After the first of some lines that can be consumed, the others can be consumed.
pub ready_after : (lines new : LinesState) (bytes : List ℕ) (at end whole : ℕ) → at ≤ end → end < whole → CanConsume lines (slice_between bytes at whole) →
    AreWholeLines (slice_between bytes at end) → new ≡ consumed lines (slice_between bytes at end) → CanConsume new (slice_between bytes end whole)
ready_after lines new bytes at end whole ordered later can ends is =
    subst (λ k. CanConsume k (slice_between bytes end whole)) (sym is)
    (can_consume_rest lines (slice_between bytes at end) (slice_between bytes end whole) ends
    (subst (CanConsume lines) (between_more bytes at end whole ordered (omega (arith, later))) can))

-- The prefix of a chunk up to its first newline is one line.
pub one_line_front : (rest : List ℕ) (used : ℕ) → UpToNewline rest used true → (AreWholeLines (take used rest)) × (length (whole_lines (take used rest)) ≡ 1)
unfolding split_lines
one_line_front rest used to =
    let parts = split_lines-front_of [] [] rest used true refl to in (
      ap (λ (q : SplitLines). q.rest) parts,
      ap (λ (q : SplitLines). length q.whole) parts,
    )

flag_small : (b : Bool) → (if b then 0 else 1) ≤ 1
flag_small b = grind arith

-- After a line, less is left to do.
pub line_done : (bytes : List ℕ) (r next : Cursor) → r.pos < next.pos → next.pos ≤ length bytes → measure bytes next < measure bytes r
line_done bytes r next forth within = let f = flag_small next.bulk_tried in omega (arith, forth, within, f)

module _ {S : Type 0} (represents : S → List Judged → Type 0) (piece_of : S → List Judged → Judged → List ℕ) (o : Options) (piece : List Judged → Judged → List ℕ)
    (e : EngineState S) (text printed : List ℕ) (h : EngineRepresentsBuffered represents piece_of e o piece text printed) (f : EngineState S) (bytes more : List ℕ)
    (can : CanConsume e.lines bytes) (symbols : f.symbols ≡ e.symbols) (given_up : f.lines ≡ consumed e.lines bytes) (took : LinesRepresent f.lines (text ++ bytes))
    (prints : PrintsBulk represents piece_of f.printer o piece h.items h.tree (numbered_from (suc e.lines.before) (whole_lines bytes)) more) where
  all_lines : lines_so_far (text ++ bytes) ≡ lines_so_far text ++ numbered_from (suc e.lines.before) (whole_lines bytes)
  all_lines = grind (arith, lines_joined, rest_is, numbered_from-append, before_is)

  -- The lines of `bytes` were also taken.
  pub run_taken : EngineRepresentsBuffered represents piece_of f o piece (text ++ bytes) (printed ++ more)
  run_taken = grind (arith, all_lines, map-append)

-- Skipped lines in a chunk.
module _ {S : Type 0} (represents : S → List Judged → Type 0) (piece_of : S → List Judged → Judged → List ℕ) (o : Options) (piece : List Judged → Judged → List ℕ)
    (text printed : List ℕ) (a b : Stream) (f : EngineState S) (g : List ℕ) (bytes : List ℕ) (from at end : ℕ) (ordered : from ≤ at) (later : at ≤ end) where
  -- Copied lines extend the pending bytes.
  pub run_kept : EngineRepresentsBuffered represents piece_of f o piece (text ++ slice_between bytes at end) (printed ++ slice_between bytes at end) → f.buffered ≡ g →
      EngineAdvances represents piece_of f o piece text printed (slice_between bytes at end) a a (g ++ slice_between bytes from at) (f.buffered ++ slice_between bytes from end)
  run_kept h k = grind (arith, between_more, append_assoc, stream_buffered)

  -- Before dropped lines, the pending bytes are appended.
  pub run_dropped : EngineRepresentsBuffered represents piece_of f o piece (text ++ slice_between bytes at end) (printed ++ []) → TakesAllBut a b (g ++ slice_between bytes from at) f.buffered →
      EngineAdvances represents piece_of f o piece text printed (slice_between bytes at end) a b (g ++ slice_between bytes from at) (f.buffered ++ slice_between bytes end end)
  run_dropped h k = grind (arith, between_none, append-nil)

-- The first bytes of a slice are a slice.
pub first_between : (bytes : List ℕ) (at whole n : ℕ) → n ≤ length (slice_between bytes at whole) → take n (slice_between bytes at whole) ≡ slice_between bytes at (at + n)
first_between bytes at whole n h = grind (arith, length-take, take-take)

-- The cursor after skipped lines, with the bytes from `pending_start` pending.
module _ (room : ℕ) (lines new : LinesState) (bytes : List ℕ) (r : Cursor) (place : IsCursor room lines bytes r) (some : r.pos < r.whole_end) (n : ℕ)
    (within : n ≤ length (slice_between bytes r.pos r.whole_end)) (ends : AreWholeLines (take n (slice_between bytes r.pos r.whole_end)))
    (given_up : new ≡ consumed lines (take n (slice_between bytes r.pos r.whole_end))) where
  cut : take n (slice_between bytes r.pos r.whole_end) ≡ slice_between bytes r.pos (r.pos + n)
  cut = first_between bytes r.pos r.whole_end n within

  place_after : (from : ℕ) → from ≤ r.pos + n → IsCursor room new bytes (record { pending_start = from; pos = r.pos + n; whole_end = r.whole_end; bulk_tried = true })
  place_after from ordered = record {
    from = ordered;
    at = grind (arith, length-take);
    whole = place.whole;
    ready = λ later.
        ready_after lines new bytes r.pos (r.pos + n) r.whole_end (omega arith) later (place.ready some) (subst AreWholeLines cut ends)
        (given_up ∙ ap (consumed lines) cut);
    fits = λ small. let f = place.fits small in let z = ap (λ (k : LinesState). length k.held) given_up in omega (arith, f, z);
  }

  -- After a try to skip text, the cursor is the next one.
  pub next_after : r.bulk_tried ≡ false → (from : ℕ) → from ≤ r.pos + n →
      IsNext room new bytes r (record { pending_start = from; pos = r.pos + n; whole_end = r.whole_end; bulk_tried = true })
  next_after untried from ordered = grind (arith, place_after from ordered)

-- The cursor after a line.
place_after_line : (room : ℕ) (lines new : LinesState) (bytes rest : List ℕ) (r : Cursor) → rest ≡ drop r.pos bytes → IsCursor room lines bytes r → (l : Line) →
    CanBorrow lines rest (length (text_of l)) → (end : ℕ) → end ≡ r.pos + length (text_of l) → new ≡ record lines { before = lines.before + 1 } →
    (from : ℕ) → from ≤ end → IsCursor room new bytes (record { pending_start = from; pos = end; whole_end = r.whole_end; bulk_tried = false })
place_after_line room lines new bytes rest r rest_from place l lends end ends counted from ordered =
    let prefix : take (length (text_of l)) rest ≡ slice_between bytes r.pos end = ap₂ (λ n x. take n x) (let e : length (text_of l) ≡ end - r.pos = omega (arith, ends) in e) rest_from in
    let one = one_line_front rest (length (text_of l)) lends.prefix in
    record {
      from = ordered;
      at = let w = lends.prefix.within in let k = ap length rest_from in let m = length-drop r.pos bytes in let p = place.at in omega (arith, w, k, m, p, ends);
      whole = place.whole;
      ready = λ later.
          ready_after lines new bytes r.pos end r.whole_end (omega (arith, ends)) later (place.ready (omega (arith, ends, later))) (subst AreWholeLines prefix one.0)
          (counted ∙ ap (λ n. record lines { before = lines.before + n }) (sym one.1 ∙ ap (λ x. length (whole_lines x)) prefix));
      fits = λ small. let f = place.fits small in let z = ap (λ (k : LinesState). length k.held) counted in omega (arith, f, z, ends);
    }

-- After a line, the cursor is the next one.
pub next_after_line : (room : ℕ) (lines new : LinesState) (bytes rest : List ℕ) (r : Cursor) → rest ≡ drop r.pos bytes → r.pos < length bytes → IsCursor room lines bytes r → (l : Line) →
    CanBorrow lines rest (length (text_of l)) → (end : ℕ) → end ≡ r.pos + length (text_of l) → new ≡ record lines { before = lines.before + 1 } →
    (from : ℕ) → from ≤ end → IsNext room new bytes r (record { pending_start = from; pos = end; whole_end = r.whole_end; bulk_tried = false })
next_after_line room lines new bytes rest r rest_from more place l lends end ends counted from ordered =
    let next : Cursor = record { pending_start = from; pos = end; whole_end = r.whole_end; bulk_tried = false } in
    let cursor : IsCursor room new bytes next = place_after_line room lines new bytes rest r rest_from place l lends end ends counted from ordered in
    let k = ap length rest_from in
    let m = length-drop r.pos bytes in
    let some = up_to_newline-some rest (length (text_of l)) true lends.prefix (omega (arith, k, m, more)) in
    let at = cursor.at in
    record { cursor = cursor; forward = omega (arith, ends); less = line_done bytes r next (omega (arith, ends, some)) at }

-- The skipped lines were also taken.
module _ {S : Type 0} (represents : S → List Judged → Type 0) (piece_of : S → List Judged → Judged → List ℕ) (o : Options) (piece : List Judged → Judged → List ℕ)
    (e f : EngineState S) (text printed : List ℕ) (h : EngineRepresentsBuffered represents piece_of e o piece text printed) (bytes : List ℕ) (at whole : ℕ) (passed : SkippedText)
    (can : CanConsume e.lines (slice_between bytes at whole)) (within : passed.count ≤ length (slice_between bytes at whole))
    (ends : AreWholeLines (take passed.count (slice_between bytes at whole))) (symbols : f.symbols ≡ e.symbols)
    (given_up : f.lines ≡ consumed e.lines (take passed.count (slice_between bytes at whole)))
    (took : LinesRepresent f.lines (text ++ take passed.count (slice_between bytes at whole)))
    (prints : PrintsBulk represents piece_of f.printer o piece h.items h.tree (numbered_from (suc e.lines.before) (whole_lines (take passed.count (slice_between bytes at whole))))
    (printed_of passed (slice_between bytes at whole))) where
  lines_taken : EngineRepresentsBuffered represents piece_of f o piece (text ++ take passed.count (slice_between bytes at whole)) (printed ++ printed_of passed (slice_between bytes at whole))
  lines_taken = search (rules, run_taken, can_skip_take)

  taken_as : (kept : Bool) → passed.kept ≡ kept →
      EngineRepresentsBuffered represents piece_of f o piece (text ++ slice_between bytes at (at + passed.count)) (printed ++ (if kept then slice_between bytes at (at + passed.count) else []))
  taken_as kept h = grind (arith, cut, first_between, lines_taken)

  module _ (a b : Stream) (from : ℕ) (ordered : from ≤ at) where
    -- Copied lines extend the pending bytes.
    pub passed_kept : passed.kept ≡ true → f.buffered ≡ e.buffered →
        EngineAdvances represents piece_of f o piece text printed (slice_between bytes at (at + passed.count)) a a (e.buffered ++ slice_between bytes from at) (f.buffered ++ slice_between bytes from (at + passed.count))
    passed_kept kept same =
        run_kept represents piece_of o piece text printed a a f e.buffered bytes from at (at + passed.count) ordered (omega arith) (taken_as true kept) same

    -- Before dropped lines, the pending bytes are appended.
    pub passed_dropped : passed.kept ≡ false → TakesAllBut a b (e.buffered ++ slice_between bytes from at) f.buffered →
        EngineAdvances represents piece_of f o piece text printed (slice_between bytes at (at + passed.count)) a b (e.buffered ++ slice_between bytes from at)
        (f.buffered ++ slice_between bytes (at + passed.count) (at + passed.count))
    passed_dropped kept sent =
        run_dropped represents piece_of o piece text printed a b f e.buffered bytes from at (at + passed.count) ordered (omega arith) (taken_as false kept) sent
