-- Waiting: bytes that were read, and wait to be fed with the rest of their line.
use Rattle.std.proofs.Common.{◌≡◌, inl, inr, ◌⊎◌, ℕ, ◌+◌, ◌-◌, ◌<◌, ◌≤◌, Bool, true, List, [], ◌∷◌, ◌++◌, length, take, drop, Option, Err, refl, sym, ◌∙◌, ap, subst, append_assoc, arith, length-append, rules}
use Rattle.std.specs.List.{copy_within}
use Rattle.std.proofs.lemmas.List.{take-take, drop-take, take-append-le}
use Rattle.std.proofs.lemmas.Bool.{cases_lt}
use Rattle.std.proofs.Math.ListN.{length-take}
use Rattle.std.proofs.Math.Seq.{take-add, take-append-add}
use Rattle.std.specs.Io.KnownBytes.{Consumes, Keeps, prepend_known}
use Rattle.std.proofs.KnownBytes.{Appends-nil, Appends-trans}
use Rattle.ud_model.specs.text.Lines.{partial_line}
use Rattle.ud_model.specs.sections.Items.{Options}
use Rattle.ud_model.specs.answer.Printing.{Judged}
use Rattle.ud_model.specs.declared.limits.TheConstants.{MAX_LINES}
use Rattle.ud_model.proofs.sections.FaultStays.{reads_stay}
use Rattle.ud_model.proofs.text.LinesLemmas.{Growth, stays_open, ends_line, grows, split_lines-append-open, no_newline-append, lines_so_far-append}
use Rattle.ud_text.specs.bulk.BulkLexemes.{IsLineStart, at_start, after_newline, LastLineStarts}
use Rattle.ud_text.specs.lines.LinesState.{LinesState, HasCapacity}
use Rattle.ud_text.proofs.lemmas.bulk.BulkPlainLemmas.{begins_ends}
use Rattle.ud_text.proofs.lemmas.lines.LinesLemmas.{represent_part}
use Rattle.ud_sections.specs.printing.Printers.{printer_represents, printer_piece}
use Rattle.ud_sections.specs.declared.printing.printer.Printer.{Printer}
use Rattle.ud_engine.specs.declared.fault.RunFault.{RunFault}
use Rattle.ud_engine.specs.declared.fault.RunFault.TheVariants.{Text, Section, Read, Write}
use Rattle.ud_engine.specs.declared.pump.TheConstants.{CHUNK_BYTES}
use Rattle.ud_engine.specs.Feeding.{EngineState, EngineRepresentsBuffered, FeedFails, Continues}
use Rattle.ud_engine.specs.Runs.{InProgress, RunFinished, bytes_to_limit}
use Rattle.ud_engine.specs.Waiting.{IsWaiting, IsFurther}
use Rattle.ud_engine.proofs.LinePartLemmas.{before_is, rest_is, open_taken}
use Rattle.ud_engine.proofs.RunLemmas.{own_piece, lag, fed_room}
use Rattle.ud_engine.proofs.RunEndedLemmas.{printed_so_far}
use Rattle.ud_engine.proofs.FinishLemmas.{stopped, fed_more}
use Rattle.std.proofs.lemmas.Grind.{common_steps}

read_all : (a : List ℕ) (r : Option (List ℕ)) → Consumes (prepend_known a r) r a
read_all a r = grind arith

-- More bytes were read, and wait.
pub waits_more : (o : Options) (e : EngineState Printer) (r₀ r₁ r₂ w₀ w₁ : Option (List ℕ))
    (a b : List ℕ) →
    InProgress e o r₀ (prepend_known a r₁) w₀ w₁ → Consumes r₁ r₂ b → InProgress e o r₀
    (prepend_known (a ++ b) r₂) w₀ w₁
waits_more o e r₀ r₁ r₂ w₀ w₁ a b h k = grind (arith, append_assoc)

-- No bytes wait.
pub none_left : (o : Options) (e : EngineState Printer) (r₀ r w₀ w₁ : Option (List ℕ)) (a : List ℕ)
    → a ≡ [] →
    InProgress e o r₀ (prepend_known a r) w₀ w₁ → InProgress e o r₀ r w₀ w₁
none_left o e r₀ r w₀ w₁ a h k = grind arith

-- The bytes of a read come after those that wait.
pub read_joined : (buffer piece after : List ℕ) (waiting count : ℕ) → waiting ≤ length buffer →
    count ≤ length piece →
    take waiting buffer ++ take count piece ≡ take (waiting + count)
    (take waiting buffer ++ (piece ++ after))
read_joined buffer piece after waiting count h k = grind (arith, length-take, take-append-le, take-append-add)

-- A fault of some bytes is that of more bytes.
fault_longer : (o : Options) (piece : List Judged → Judged → List ℕ) (failed : Bool)
    (a b : Option (List ℕ)) (longer printed later : List ℕ) (f : RunFault) →
    FeedFails o piece failed a b longer printed f → FeedFails o piece failed a b (longer ++ later)
    printed f
fault_longer o piece failed a b longer printed later (Text f) w = grind (arith, common_steps, reads_stay)
fault_longer o piece failed a b longer printed later (Section f) w = grind (arith, common_steps, reads_stay)
fault_longer o piece failed a b longer printed later Read w = absurd w
fault_longer o piece failed a b longer printed later Write w =
    grind (arith, common_steps, lines_so_far-append longer later)

-- A buffer is cut at the beginning of its last line.
module _ (buffer : List ℕ) (end at : ℕ) (last : LastLineStarts (take end buffer) at) where
  abbrev pub front : List ℕ
  front = take at buffer

  abbrev pub rest : List ℕ
  rest = take (end - at) (drop at buffer)

  pub cut_within : at ≤ end
  cut_within = let w = last.within in let n = length-take end buffer in omega (arith, w, n)

  sum : at + (end - at) ≡ end
  sum = let w = cut_within in omega (arith, w)

  pub cut_joined : take end buffer ≡ front ++ rest
  cut_joined = ap (λ n. take n buffer) (sym sum) ∙ take-add at (end - at) buffer

  pub cut_starts : IsLineStart front
  cut_starts = subst IsLineStart (take-take at end buffer cut_within) last.begins

  rest_is_last : drop at (take end buffer) ≡ rest
  rest_is_last = ap (λ n. drop at (take n buffer)) (sym sum) ∙ drop-take at (end - at) buffer

  -- The rest is moved to the beginning of the buffer.
  pub cut_moved : end ≤ length buffer → take (end - at) (copy_within buffer at end 0) ≡ rest
  cut_moved fits = grind (arith, common_steps)

  -- The rest waits.
  pub cut_waits : (lines : LinesState) → end ≤ length buffer → end ≤ CHUNK_BYTES → (lines.held ≡ [])
      × (lines.before < MAX_LINES) →
      IsWaiting lines (take (end - at) (copy_within buffer at end 0))
  cut_waits lines fits few begins = grind (arith, common_steps, cut_moved, rest_is_last, length-take)

-- The bytes that are fed first end a line; the others are left.
module _ (o : Options) (e : EngineState Printer) (r₀ r w₀ w₁ : Option (List ℕ))
    (all first left : List ℕ) (is : all ≡ first ++ left)
    (u : InProgress e o r₀ (prepend_known all r) w₀ w₁) where
  abbrev own : InProgress e o r₀ (prepend_known (first ++ left) r) w₀ w₁
  own = record {
    given = u.given;
    printed = u.printed;
    consumed = subst (λ x. Consumes r₀ (prepend_known x r) u.given) is u.consumed;
    fed = u.fed;
    appended = u.appended;
  }

  pub fed_front : (f : EngineState Printer) (w₂ : Option (List ℕ)) → Continues printer_represents
      printer_piece f o (own_piece o) (u.given ++ first) u.printed w₁ w₂ →
      InProgress f o r₀ (prepend_known left r) w₀ w₂
  fed_front f w₂ goes = search (rules, append_assoc)

  pub front_stops : (w₂ : Option (List ℕ)) → length all ≤ CHUNK_BYTES → (reader writer : Bool)
      (f : RunFault) →
      FeedFails o (own_piece o) writer w₁ w₂ (u.given ++ first) u.printed f → RunFinished o r₀ r w₀
      w₂ reader writer (Err f)
  front_stops w₂ few reader writer f fails =
      stopped o e r₀ (prepend_known (first ++ left) r) w₀ w₁ own r w₂ (first ++ left)
      (read_all (first ++ left) r)
      (let n = ap length is in omega (arith, n, few)) reader writer f
      (subst (λ x. FeedFails o (own_piece o) writer w₁ w₂ x u.printed f)
      (append_assoc u.given first left)
      (fault_longer o (own_piece o) writer w₁ w₂ (u.given ++ first) u.printed left f fails))

-- All bytes that were left are fed.
module _ (o : Options) (e : EngineState Printer) (r₀ r w₀ w₁ : Option (List ℕ)) (rest : List ℕ)
    (u : InProgress e o r₀ (prepend_known rest r) w₀ w₁) where
  pub fed_rest : (f : EngineState Printer) (w₂ : Option (List ℕ)) → Continues printer_represents
      printer_piece f o (own_piece o) (u.given ++ rest) u.printed w₁ w₂ →
      InProgress f o r₀ r w₀ w₂
  fed_rest f w₂ goes = fed_more o e r₀ (prepend_known rest r) w₀ w₁ u r w₂ rest (read_all rest r) f
      goes

  pub rest_stops : (w₂ : Option (List ℕ)) → length rest ≤ CHUNK_BYTES → (reader writer : Bool)
      (f : RunFault) →
      FeedFails o (own_piece o) writer w₁ w₂ (u.given ++ rest) u.printed f → RunFinished o r₀ r w₀
      w₂ reader writer (Err f)
  rest_stops w₂ few reader writer f fails = stopped o e r₀ (prepend_known rest r) w₀ w₁ u r w₂ rest
      (read_all rest r) few reader writer f fails

-- The engine as if it had taken the bytes that wait.
abbrev with_bytes : EngineState Printer → List ℕ → EngineState Printer
with_bytes e bytes = record e { lines = record e.lines { held = e.lines.held ++ bytes } }

-- Bytes that wait break no limit: they could be fed.
module _ (o : Options) (piece : List Judged → Judged → List ℕ) (e : EngineState Printer)
    (text printed : List ℕ)
    (h : EngineRepresentsBuffered printer_represents printer_piece e o piece text printed) where
  could_take : (bytes : List ℕ) → IsWaiting e.lines bytes →
      EngineRepresentsBuffered printer_represents printer_piece (with_bytes e bytes) o piece
      (text ++ bytes) (printed ++ [])
  could_take bytes w = grind (arith, common_steps, split_lines-append-open, open_taken, no_newline-append, represent_part)

-- A read failed while bytes wait.
pub unread_waiting : (o : Options) (e : EngineState Printer) (r₀ r₁ r₂ w₀ w₁ : Option (List ℕ))
    (bytes : List ℕ) →
    InProgress e o r₀ (prepend_known bytes r₁) w₀ w₁ → IsWaiting e.lines bytes → Keeps r₁ r₂ →
    (reader writer : Bool) → reader ≡ true →
    RunFinished o r₀ r₂ w₀ w₁ reader writer (Err Read)
unread_waiting o e r₀ r₁ r₂ w₀ w₁ bytes u w kept reader writer failed =
    let all : Consumes r₀ r₂ (u.given ++ bytes) = grind (arith, common_steps) in
    record {
      ran = λ reads writes. cc;
      lag = lag o printer_represents printer_piece e u.given u.printed u.fed.taken r₀ r₂ w₀ w₁ w₁
          bytes [] all w.short u.appended (Appends-nil w₁);
      ended = record {
        given = u.given ++ bytes;
        consumed = all;
        ends = printed_so_far o printer_represents printer_piece (with_bytes e bytes)
            (u.given ++ bytes) (u.printed ++ [])
            (could_take o (own_piece o) e u.given u.printed u.fed.taken bytes w) w₀ w₁
            (Appends-trans w₀ w₁ w₁ u.printed [] u.appended (Appends-nil w₁));
      };
    }

-- Bytes that end a line, if there are any, leave no part of one.
ends_after : (text front : List ℕ) → IsLineStart front → (front ≡ []) ⊎
    (partial_line (text ++ front) ≡ [])
ends_after text _ at_start = inl refl
ends_after text _ (after_newline prefix) =
    inr (ap partial_line (sym (append_assoc text prefix (10 ∷ []))) ∙ begins_ends
    ((text ++ prefix) ++ 10 ∷ []) (after_newline (text ++ prefix)))

-- The engine can take the rest of a buffer after its whole lines.
module _ (o : Options) (e f : EngineState Printer) (text printed later front : List ℕ)
    (h : EngineRepresentsBuffered printer_represents printer_piece e o (own_piece o) text printed)
    (k : EngineRepresentsBuffered printer_represents printer_piece f o (own_piece o) (text ++ front)
    later) where
  held_after : IsLineStart front → (front ≡ []) ⊎ (f.lines.held ≡ [])
  held_after starts = grind (arith, common_steps, ends_after)

  same_held : front ≡ [] → f.lines.held ≡ e.lines.held
  same_held none = grind (arith, common_steps, rest_is, own_piece)

  pub room_after : (room n : ℕ) → IsLineStart front → HasCapacity room e.lines CHUNK_BYTES → n ≤
      CHUNK_BYTES → HasCapacity room f.lines n
  room_after room n h k l = grind (arith, held_after, same_held)

  -- No more fits below the limits than before.
  pub no_further : bytes_to_limit f.lines ≤ bytes_to_limit e.lines
  no_further = grind (arith, grows, before_is, own_piece, Growth, stays_open, rest_is, length-append, ends_line)

  -- Less is left to do, if the first bytes are fed.
  pub fed_further : (at end : ℕ) → at ≡ length front → IsFurther e.lines f.lines end (end - at)
  fed_further at end is = by_size (cases_lt 0 at)
    where
      by_size : (0 < at) ⊎ (at ≤ 0) → IsFurther e.lines f.lines end (end - at)
      by_size (inl some) = inl
          (fed_room o printer_represents printer_piece e text printed h f front later k
          (omega (arith, is, some)))
      by_size (inr none) = inr (no_further, omega (arith, none))

-- Less is left to do, if then the other bytes are fed too.
pub all_further : (e f g : LinesState) (at end : ℕ) (first left : List ℕ) →
    (bytes_to_limit f ≤ bytes_to_limit e) → (bytes_to_limit g ≤ bytes_to_limit f) →
    (0 < length first → bytes_to_limit f < bytes_to_limit e) →
    (0 < length left → bytes_to_limit g < bytes_to_limit f) →
    at ≤ end → at ≡ length first → end - at ≡ length left → IsFurther e g end 0
all_further e f g at end first left h k l m o p q = grind arith
