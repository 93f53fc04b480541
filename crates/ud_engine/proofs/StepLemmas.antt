-- Steps: the engine's state after a step through a chunk.
use Rattle.std.proofs.Common.{◌≡◌, ℕ, suc, ◌+◌, ◌-◌, ◌<◌, ◌≤◌, Bool, true, false, List, [], ◌∷◌, ◌++◌, length, take, drop, None, sym, ◌∙◌, ap, subst, ap₂, append_assoc, append-nil, take-append-drop, arith}
use Rattle.std.proofs.lemmas.Grind.{common_steps}
use Rattle.std.proofs.lemmas.List.{drop-take}
use Rattle.ud_model.specs.text.Lines.{Line, NoNewline, IsWhole, SplitLines, whole_lines, line_at, text_of}
use Rattle.ud_model.specs.sections.Items.{Options, next_item}
use Rattle.ud_model.specs.sections.Faults.{FaultOf}
use Rattle.ud_model.specs.answer.Printing.{Judged}
use Rattle.ud_model.specs.answer.Outcomes.{lines_so_far}
use Rattle.ud_model.specs.declared.limits.TheConstants.{MAX_LINE_BYTES, MAX_LINES}
use Rattle.ud_model.proofs.text.LinesLemmas.{no_newline-append}
use Rattle.ud_text.specs.lines.LinesState.{LinesState, LinesRepresent, UpToNewline}
use Rattle.ud_text.specs.lines.Borrowing.{CanBorrow}
use Rattle.ud_text.proofs.lemmas.scan.MaskLemmas.{no_newline-take}
use Rattle.ud_sections.specs.sections.Limits.{IsWithinLimits}
use Rattle.ud_sections.specs.sections.SectionFaults.{fault_of}
use Rattle.ud_sections.specs.declared.sections.fault.SectionFault.{SectionFault}
use Rattle.ud_engine.specs.declared.fault.RunFault.TheVariants.{Section}
use Rattle.ud_engine.specs.Advancing.{EngineAdvances, StepFails, slice_between}
use Rattle.ud_engine.specs.Feeding.{EngineState, IsOpen, EngineRepresentsBuffered}
use Rattle.ud_engine.specs.ProcessedLines.{PrintsLine}
use Rattle.ud_io.specs.Streams.{Stream, TakesAllBut}
use Rattle.ud_io.proofs.StreamLemmas.{stream_buffered}
use Rattle.ud_engine.proofs.LinePartLemmas.{before_is, rest_is, split_lines-front_of, parts_after, line_taken, line_next, line_stops}

-- The buffered line with the bytes of a chunk that end it.
pub held_whole : (held rest : List ℕ) (used : ℕ) (whole : Bool) → whole ≡ true → NoNewline held → UpToNewline rest used whole → IsWhole (held ++ take used rest)
held_whole held rest used whole h k l = grind (arith, no_newline-append, append_assoc)

-- A line of this number within the limits.
pub is_within : (l : Line) (n : ℕ) (bytes : List ℕ) → l ≡ line_at n bytes → n ≤ MAX_LINES → length bytes ≤ MAX_LINE_BYTES → IsWithinLimits l
is_within l n bytes e number fits = grind (arith, common_steps)

-- Bytes without a newline lengthen the line.
pub still_open : (lines mid : LinesState) (rest : List ℕ) (used : ℕ) (whole : Bool) → whole ≡ false → IsOpen lines → UpToNewline rest used whole →
    mid ≡ record lines { held = lines.held ++ take used rest; whole = whole } → length mid.held ≤ MAX_LINE_BYTES → IsOpen mid
still_open lines mid rest used whole h k l m o = grind (arith, no_newline-append, no_newline-take)

module _ {S : Type 0} (represents : S → List Judged → Type 0) (piece_of : S → List Judged → Judged → List ℕ) (o : Options) (piece : List Judged → Judged → List ℕ)
    (e : EngineState S) (text printed : List ℕ) (h : EngineRepresentsBuffered represents piece_of e o piece text printed) (a b : Stream) (g pending rest : List ℕ) (ge : e.buffered ≡ g) where
  -- Bytes without a newline are buffered, and the pending bytes before them are appended.
  pub open_step : (f : EngineState S) (used : ℕ) (whole : Bool) → whole ≡ false → UpToNewline rest used whole → f.symbols ≡ e.symbols → f.printer ≡ e.printer →
      f.lines ≡ record e.lines { held = e.lines.held ++ take used rest; whole = whole } → LinesRepresent f.lines (text ++ take used rest) → f.lines.fault ≡ None →
      (length f.lines.held ≤ MAX_LINE_BYTES) × (e.lines.before < e.lines.last_line) → TakesAllBut a b (e.buffered ++ pending) f.buffered →
      EngineAdvances represents piece_of f o piece text printed (take used rest) a b (g ++ pending) f.buffered
  open_step f used whole w to symbols printer is took no_fault limits sent =
      let parts = split_lines-front_of text e.lines.held rest used whole (rest_is represents piece_of o piece e text printed h) to in
      let lines : whole_lines (text ++ take used rest) ≡ whole_lines text =
      ap (λ (q : SplitLines). q.whole) (parts ∙ ap (parts_after text e.lines.held (take used rest)) w) in
      record {
        more = [];
        taken = grind (arith, common_steps, still_open);
        sent = subst (λ x. TakesAllBut a b x f.buffered) (sym (append-nil (g ++ pending)))
            (subst (λ x. TakesAllBut a b (x ++ pending) f.buffered) ge sent);
      }

  -- A newline ends the line, and the output for it is appended after the pending bytes.
  pub line_step : (f : EngineState S) (mid : LinesState) (used : ℕ) (whole : Bool) (l : Line) → whole ≡ true → UpToNewline rest used whole → f.symbols ≡ e.symbols →
      mid ≡ record e.lines { held = e.lines.held ++ take used rest; whole = whole } →
      f.lines ≡ record mid { held = []; whole = false; before = mid.before + 1 } → LinesRepresent f.lines (text ++ take used rest) → mid.fault ≡ None → e.lines.before < e.lines.last_line →
      l ≡ line_at (suc mid.before) mid.held →
      PrintsLine represents piece_of f.printer o piece h.items h.tree l true a b e.buffered f.buffered pending →
      EngineAdvances represents piece_of f o piece text printed (take used rest) a b (g ++ pending) f.buffered
  line_step f mid used whole l w to symbols is cleared took no_fault few line prints =
      let parts = split_lines-front_of text e.lines.held rest used whole (rest_is represents piece_of o piece e text printed h) to in
      let lines : whole_lines (text ++ take used rest) ≡ whole_lines text ++ (e.lines.held ++ take used rest) ∷ [] =
      ap (λ (q : SplitLines). q.whole) (parts ∙ ap (parts_after text e.lines.held (take used rest)) w) in
      let at : line_at (suc mid.before) mid.held ≡ line_at (suc (length (whole_lines text))) (e.lines.held ++ take used rest) =
      ap (λ (k : LinesState). line_at (suc k.before) k.held) is ∙ ap (λ n. line_at (suc n) (e.lines.held ++ take used rest)) (before_is represents piece_of o piece e text printed h) in
      record {
        more = prints.more;
        taken =
            line_taken represents piece_of o piece e text printed h f (take used rest) (e.lines.held ++ take used rest) l prints.tree prints.more lines (line ∙ at) symbols
            (grind (arith, h.opened, is, cleared)) took (ap (λ (k : LinesState). k.fault) cleared ∙ no_fault)
            (ap (λ (k : LinesState). k.held) cleared)
            (let m = h.opened.limit in let n = ap (λ (k : LinesState). k.before) is in let q = ap (λ (k : LinesState). k.before) cleared in omega (arith, few, m, n, q))
            prints.has prints.is_more;
        sent = subst (λ x. TakesAllBut a b x f.buffered) (sym (append_assoc g pending prints.more))
            (subst (λ x. TakesAllBut a b (x ++ (pending ++ prints.more)) f.buffered) ge prints.goes);
      }

  -- The next line is faulty.
  pub refused_by : (l : Line) (f : SectionFault) (later : List Line) → lines_so_far (text ++ rest) ≡ lines_so_far text ++ l ∷ later →
      FaultOf h.items (next_item o h.items h.tree l) (fault_of f) → StepFails o piece (text ++ rest) printed (Section f)
  refused_by l f later are fails = line_stops represents piece_of o piece e text printed h (text ++ rest) l later (fault_of f) are fails

  -- The line that a newline ends is faulty, or a write fails.
  pub line_refused : (mid : LinesState) (used : ℕ) (whole : Bool) (l : Line) (f : SectionFault) → whole ≡ true → UpToNewline rest used whole →
      mid ≡ record e.lines { held = e.lines.held ++ take used rest; whole = whole } → l ≡ line_at (suc mid.before) mid.held →
      FaultOf h.items (next_item o h.items h.tree l) (fault_of f) → StepFails o piece (text ++ rest) printed (Section f)
  line_refused mid used whole l f w to is line fails =
      let parts = split_lines-front_of text e.lines.held rest used whole (rest_is represents piece_of o piece e text printed h) to in
      let lines : whole_lines (text ++ take used rest) ≡ whole_lines text ++ (e.lines.held ++ take used rest) ∷ [] =
      ap (λ (q : SplitLines). q.whole) (parts ∙ ap (parts_after text e.lines.held (take used rest)) w) in
      let at : l ≡ line_at (suc (length (whole_lines text))) (e.lines.held ++ take used rest) =
      line ∙ ap (λ (k : LinesState). line_at (suc k.before) k.held) is ∙ ap (λ n. line_at (suc n) (e.lines.held ++ take used rest)) (before_is represents piece_of o piece e text printed h) in
      let next = line_next represents piece_of o piece e text printed h rest used (e.lines.held ++ take used rest) lines in
      refused_by l f next.0 (next.1 ∙ ap (λ k. lines_so_far text ++ k ∷ next.0) (sym at)) fails

-- No bytes are between a position and itself.
pub between_none : (p : List ℕ) (n : ℕ) → slice_between p n n ≡ []
between_none p n = let z : n - n ≡ 0 = omega arith in ap (λ k. take k (drop n p)) z

-- The bytes up to a position, and those from there to another.
pub between_more : (p : List ℕ) (from at end : ℕ) → from ≤ at → at ≤ end → slice_between p from end ≡ slice_between p from at ++ slice_between p at end
between_more p from at end h k = grind (
  arith,
  common_steps,
  take-append-drop (at - from) (take ((at - from) + (end - at)) (drop from p)),
  drop-take (at - from) (end - at) (drop from p),
)

-- The bytes up to a position, and those from there to another, from the beginning.
pub take_more_of : (p : List ℕ) (at end : ℕ) → at ≤ end → take at p ++ slice_between p at end ≡ take end p
take_more_of p at end h = grind (arith, between_more p 0)

module _ {S : Type 0} (represents : S → List Judged → Type 0) (piece_of : S → List Judged → Judged → List ℕ) (o : Options) (piece : List Judged → Judged → List ℕ)
    (e : EngineState S) (text printed : List ℕ) (h : EngineRepresentsBuffered represents piece_of e o piece text printed) (a b : Stream) (g : List ℕ) (ge : e.buffered ≡ g)
    (bytes rest : List ℕ) (from at end : ℕ) (rest_from : rest ≡ drop at bytes) (ordered : from ≤ at) (later : at ≤ end)
    (f : EngineState S) (l : Line) (lends : CanBorrow e.lines rest (length (text_of l))) (is : text_of l ≡ take (length (text_of l)) rest) (ends : length (text_of l) ≡ end - at)
    (value : l ≡ line_at (suc e.lines.before) (take (length (text_of l)) rest)) (counted : f.lines ≡ record e.lines { before = e.lines.before + 1 })
    (symbols : f.symbols ≡ e.symbols) (took : LinesRepresent f.lines (text ++ text_of l)) where
  own_bytes : text_of l ≡ slice_between bytes at end
  own_bytes = is ∙ ap₂ (λ n r. take n r) ends rest_from

  own_line : whole_lines (text ++ text_of l) ≡ whole_lines text ++ text_of l ∷ []
  own_line = subst (λ x. whole_lines (text ++ x) ≡ whole_lines text ++ x ∷ []) (sym is)
      (ap (λ (q : SplitLines). q.whole) (split_lines-front_of text [] rest (length (text_of l)) true (rest_is represents piece_of o piece e text printed h ∙ lends.unheld) lends.prefix))

  own_number : l ≡ line_at (suc (length (whole_lines text))) (text_of l)
  own_number = value ∙ ap₂ (λ n x. line_at (suc n) x) (before_is represents piece_of o piece e text printed h) (sym is)

  own_open : IsOpen f.lines
  own_open = grind arith

  lent_taken : (put : Bool) (p : PrintsLine represents piece_of f.printer o piece h.items h.tree l put a b e.buffered f.buffered (slice_between bytes from at)) →
      EngineRepresentsBuffered represents piece_of f o piece (text ++ slice_between bytes at end) (printed ++ p.more)
  lent_taken put p =
      subst (λ x. EngineRepresentsBuffered represents piece_of f o piece (text ++ x) (printed ++ p.more)) own_bytes
      (line_taken represents piece_of o piece e text printed h f (text_of l) (text_of l) l p.tree p.more own_line own_number symbols own_open took
      (ap (λ (k : LinesState). k.fault) counted ∙ h.no_fault) (ap (λ (k : LinesState). k.held) counted ∙ lends.unheld)
      (let m = h.opened.limit in let n = ap (λ (k : LinesState). k.before) counted in let q = lends.numbered in omega (arith, m, n, q)) p.has p.is_more)

  -- The output for a line is appended after the pending bytes, and nothing is pending after it.
  pub lent_put : (put : Bool) → put ≡ true → PrintsLine represents piece_of f.printer o piece h.items h.tree l put a b e.buffered f.buffered (slice_between bytes from at) →
      EngineAdvances represents piece_of f o piece text printed (slice_between bytes at end) a b (g ++ slice_between bytes from at) (f.buffered ++ slice_between bytes end end)
  lent_put false w p = cc
  lent_put true w p = record {
    more = p.more;
    taken = lent_taken true p;
    sent = grind (arith, common_steps, between_none);
  }

  -- An unchanged line extends the pending bytes.
  pub lent_kept : (put : Bool) → put ≡ false → PrintsLine represents piece_of f.printer o piece h.items h.tree l put a b e.buffered f.buffered (slice_between bytes from at) →
      EngineAdvances represents piece_of f o piece text printed (slice_between bytes at end) a b (g ++ slice_between bytes from at) (f.buffered ++ slice_between bytes from end)
  lent_kept true w p = cc
  lent_kept false w p =
      let joined : f.buffered ++ slice_between bytes from end ≡ (g ++ slice_between bytes from at)
      ++ p.more = grind (arith, common_steps, between_more) in
      record {
        more = p.more;
        taken = lent_taken false p;
        sent = grind (arith, stream_buffered);
      }

  -- The line is faulty.
  pub lent_refused : (fault : SectionFault) → FaultOf h.items (next_item o h.items h.tree l) (fault_of fault) →
      StepFails o piece (text ++ drop at bytes) printed (Section fault)
  lent_refused fault fails =
      let next = line_next represents piece_of o piece e text printed h rest (length (text_of l)) (text_of l)
      (subst (λ x. whole_lines (text ++ x) ≡ whole_lines text ++ text_of l ∷ []) is own_line) in
      subst (λ x. StepFails o piece (text ++ x) printed (Section fault)) rest_from
      (refused_by represents piece_of o piece e text printed h a b g (slice_between bytes from at) rest ge l fault next.0
      (next.1 ∙ ap (λ k. lines_so_far text ++ k ∷ next.0) (sym own_number)) fails)

-- Bytes that were taken through the line buffer.
module _ {S : Type 0} (represents : S → List Judged → Type 0) (piece_of : S → List Judged → Judged → List ℕ) (o : Options) (piece : List Judged → Judged → List ℕ)
    (text printed : List ℕ) (a b : Stream) (bytes rest : List ℕ) (at used : ℕ) (rest_from : rest ≡ drop at bytes) (f : EngineState S) (pending : List ℕ) where
  pub held_taken : EngineAdvances represents piece_of f o piece text printed (take used rest) a b pending f.buffered →
      EngineAdvances represents piece_of f o piece text printed (slice_between bytes at (at + used)) a b pending (f.buffered ++ slice_between bytes (at + used) (at + used))
  held_taken h = grind (arith, between_none, append-nil)
