-- Taking: the engine's state after more bytes.
use Rattle.std.proofs.Common.{◌≡◌, ℕ, suc, ◌+◌, ◌<◌, ◌≤◌, Bool, true, false, List, [], ◌∷◌, ◌++◌, length, take, drop, None, refl, sym, ◌∙◌, ap, subst, append_assoc, take-append-drop, take_all, arith, length-append, rules}
use Rattle.std.proofs.Math.ListN.{length-take}
use Rattle.ud_model.specs.text.Lines.{Line, NoNewline, SplitLines, split_lines, whole_lines, partial_line, line_at, numbered_from, text_of}
use Rattle.ud_model.specs.text.Scans.{Reading}
use Rattle.ud_model.specs.sections.Tree.{Item, Tree, depth}
use Rattle.ud_model.specs.sections.Items.{Options, line_of, next_item}
use Rattle.ud_model.specs.sections.Faults.{Fault, FaultOf, too_many_lines, line_too_long, Case, Holds}
use Rattle.ud_model.specs.answer.Printing.{Judged}
use Rattle.ud_model.specs.answer.Outcomes.{IsLimit, by_lines, by_bytes, lines_so_far, line_so_far, stops, breaks, ReadsSoFar, goes_on}
use Rattle.ud_model.specs.declared.limits.TheConstants.{MAX_LINE_BYTES, MAX_LINES, MAX_DEPTH}
use Rattle.ud_model.proofs.text.LinesLemmas.{split_lines-append-open, split_lines-append-line, text_of-line_at, numbered_from-next, lines_so_far-append}
use Rattle.ud_text.specs.lines.LinesState.{LinesRepresent, UpToNewline, BreaksLimit}
use Rattle.ud_text.specs.declared.lines.fault.TextFault.{TextFault}
use Rattle.ud_text.specs.declared.lines.fault.TextFault.TheVariants.{TooManyLines, LineTooLong}
use Rattle.ud_text.proofs.lemmas.lines.LinesLemmas.{represent_before, represent_rest}
use Rattle.ud_sections.proofs.lemmas.sections.NextLemmas.{lines_more}
use Rattle.ud_engine.specs.Feeding.{EngineState, IsOpen, EngineRepresentsBuffered, FaultsAfter, PrintsPrefix}
use Rattle.ud_text.specs.lines.LimitFaults.{limit_of}
use Rattle.ud_engine.specs.ProcessedLines.{ProcessorRepresents, PrintsMore}
use Rattle.ud_model.proofs.sections.FaultStays.{line_of-next_item}
use Rattle.std.proofs.lemmas.Grind.{common_steps}

-- The split lines of a text with the prefix of a chunk up to its first newline, if `rest` is the
-- text's partial line.
abbrev pub parts_after : List ℕ → List ℕ → List ℕ → Bool → SplitLines
parts_after text held prefix true = record { whole = whole_lines text ++ (held ++ prefix) ∷ []; rest = [] }
parts_after text held prefix false = record { whole = whole_lines text; rest = held ++ prefix }

-- The prefix of a chunk up to its first newline ends the partial line of the text, or lengthens it.
pub split_lines-front_of : (text held piece : List ℕ) (used : ℕ) (whole : Bool) → partial_line text ≡ held → UpToNewline piece used whole →
    split_lines (text ++ take used piece) ≡ parts_after text held (take used piece) whole
split_lines-front_of text held piece used whole h k = grind (arith, split_lines-append-line, take_all, split_lines-append-open)

-- A line that breaks a limit has the fault for that limit.
record LimitFault (xs : List (Item Reading)) (x : Item Reading) (f : Fault) : Type 0 where
  fault : FaultOf xs x f
  limit : IsLimit fault.which

past_fault : (xs : List (Item Reading)) (x : Item Reading) (l : Line) (n : ℕ) → line_of x ≡ l → l.number ≡ n → MAX_LINES < n → LimitFault xs x (too_many_lines n)
past_fault xs x l n is number past = record {
  fault = grind arith;
  limit = by_lines;
}

long_fault : (xs : List (Item Reading)) (x : Item Reading) (l : Line) (n : ℕ) → line_of x ≡ l → l.number ≡ n → n ≤ MAX_LINES → MAX_LINE_BYTES < length (text_of l) →
    LimitFault xs x (line_too_long n)
long_fault xs x l n is number fits long = record {
  fault = grind arith;
  limit = by_bytes;
}

module _ {S : Type 0} (represents : S → List Judged → Type 0) (piece_of : S → List Judged → Judged → List ℕ) (o : Options) (piece : List Judged → Judged → List ℕ)
    (e : EngineState S) (text printed : List ℕ) (h : EngineRepresentsBuffered represents piece_of e o piece text printed) where
  pub before_is : e.lines.before ≡ length (whole_lines text)
  before_is = represent_before e.lines text h.opened.part h.took

  pub rest_is : partial_line text ≡ e.lines.held
  rest_is = represent_rest e.lines text h.opened.part h.took

  -- One line more.
  pub line_taken : (f : EngineState S) (bytes line : List ℕ) (l : Line) (tree : Tree Reading) (more : List ℕ) →
      whole_lines (text ++ bytes) ≡ whole_lines text ++ line ∷ [] → l ≡ line_at (suc (length (whole_lines text))) line →
      f.symbols ≡ e.symbols → IsOpen f.lines → LinesRepresent f.lines (text ++ bytes) → f.lines.fault ≡ None → f.lines.held ≡ [] → f.lines.before ≤ MAX_LINES →
      ProcessorRepresents represents piece_of f.printer o piece (h.items ++ next_item o h.items h.tree l ∷ []) tree → PrintsMore o piece h.items h.tree l tree more →
      EngineRepresentsBuffered represents piece_of f o piece (text ++ bytes) (printed ++ more)
  line_taken f bytes line l tree more k m p q r s t u v w = grind (arith, numbered_from-next, lines_more)

  -- Bytes without a newline.
  pub open_taken : (f : EngineState S) (bytes : List ℕ) → whole_lines (text ++ bytes) ≡ whole_lines text → f.symbols ≡ e.symbols → f.printer ≡ e.printer →
      IsOpen f.lines → LinesRepresent f.lines (text ++ bytes) → f.lines.fault ≡ None → (0 < length f.lines.held → f.lines.before < MAX_LINES) → f.lines.before ≤ MAX_LINES →
      EngineRepresentsBuffered represents piece_of f o piece (text ++ bytes) (printed ++ [])
  open_taken f bytes lines symbols printer opened took no_fault begun count =
      search rules

  -- The next line is faulty.
  pub line_stops : (longer : List ℕ) (l : Line) (later : List Line) (f : Fault) → lines_so_far longer ≡ lines_so_far text ++ l ∷ later →
      FaultOf h.items (next_item o h.items h.tree l) f → FaultsAfter o piece longer printed f
  line_stops longer l later f are fault = record {
    items = h.items;
    tree = h.tree;
    reads = stops h.items h.tree f (record { sound = h.goes.sound; faulty = l; later = later; are = are ∙ ap (λ ks. ks ++ l ∷ later) h.goes.are; fault = fault });
    printed_is = h.printed_is;
  }

  -- The output so far is that for some first lines of every longer text.
  pub run_reaches : (rest : List ℕ) → PrintsPrefix o piece (text ++ rest) printed
  run_reaches rest = grind (arith, lines_so_far-append text rest)

  -- The line that the prefix of a chunk ends is the next line of every longer text.
  pub line_next : (rest : List ℕ) (used : ℕ) (line : List ℕ) → whole_lines (text ++ take used rest) ≡ whole_lines text ++ line ∷ [] →
      (later : List Line) × (lines_so_far (text ++ rest) ≡ lines_so_far text ++ line_at (suc (length (whole_lines text))) line ∷ later)
  line_next rest used line lines =
      let grown : (later : List Line) × (lines_so_far ((text ++ take used rest) ++ drop used rest) ≡ lines_so_far (text ++ take used rest) ++ later) =
      lines_so_far-append (text ++ take used rest) (drop used rest) in (
        grown.0,
        ap lines_so_far (grind (arith, take-append-drop, append_assoc)) ∙ grown.1
            ∙ ap (λ ls. ls ++ grown.0) (ap (numbered_from 1) lines ∙ numbered_from-next (whole_lines text) line [])
            ∙ append_assoc (lines_so_far text) (line_at (suc (length (whole_lines text))) line ∷ []) grown.0,
      )

  limit_at : (rest : List ℕ) (used : ℕ) (whole : Bool) (f : Fault) → UpToNewline rest used whole → 0 < used →
      LimitFault h.items (next_item o h.items h.tree (line_at (suc (length (whole_lines text))) (e.lines.held ++ take used rest))) f → FaultsAfter o piece (text ++ rest) printed f
  limit_at rest used true f to some k =
      let parts = split_lines-front_of text e.lines.held rest used true rest_is to in
      let next = line_next rest used (e.lines.held ++ take used rest) (ap (λ (q : SplitLines). q.whole) parts) in
      line_stops (text ++ rest) (line_at (suc (length (whole_lines text))) (e.lines.held ++ take used rest)) next.0 f next.1 k.fault
  limit_at rest used false f to some k =
      let all : (used ≡ length rest) × NoNewline rest = to.all refl in
      let whole_piece : take used rest ≡ rest = take_all used rest (let u = all.0 in omega (arith, u)) in
      let parts = split_lines-front_of text e.lines.held rest used false rest_is to in
      let longer : split_lines (text ++ rest) ≡ record { whole = whole_lines text; rest = e.lines.held ++ take used rest } =
      subst (λ (p : List ℕ). split_lines (text ++ p) ≡ record { whole = whole_lines text; rest = e.lines.held ++ take used rest }) whole_piece parts in
      let same : line_so_far (text ++ rest) ≡ line_at (suc (length (whole_lines text))) (e.lines.held ++ take used rest) =
      ap (λ (q : SplitLines). line_at (suc (length q.whole)) q.rest) longer in
      record {
        items = h.items;
        tree = h.tree;
        reads = breaks h.items h.tree f
            (record { sound = h.goes.sound; are = ap (λ (q : SplitLines). numbered_from 1 q.whole) longer ∙ h.goes.are })
            (record {
              some = grind (arith, common_steps);
              fault = (subst (λ (l : Line). LimitFault h.items (next_item o h.items h.tree l) f) (sym same) k).fault;
              limit = (subst (λ (l : Line). LimitFault h.items (next_item o h.items h.tree l) f) (sym same) k).limit;
            });
        printed_is = h.printed_is;
      }

  -- The next bytes pass a limit.
  pub limit_stops : (rest : List ℕ) (f : TextFault) → BreaksLimit e.lines rest f → FaultsAfter o piece (text ++ rest) printed (limit_of f)
  limit_stops rest (TooManyLines line) r = let b = before_is in
      let k = h.opened.limit in
      let past = r.1 in
      let is = r.0 in
      let to : UpToNewline rest r.2.0 r.2.1 = r.2.2 in
      limit_at rest r.2.0 r.2.1 (too_many_lines line) to r.2.3
      (past_fault h.items (next_item o h.items h.tree (line_at (suc (length (whole_lines text))) (e.lines.held ++ take r.2.0 rest)))
      (line_at (suc (length (whole_lines text))) (e.lines.held ++ take r.2.0 rest)) line (line_of-next_item o h.items h.tree _)
      (omega (arith, b, is)) (omega (arith, b, k, past, is)))
  limit_stops rest (LineTooLong line) r = let b = before_is in
      let k = h.opened.limit in
      let fits = r.1 in
      let is = r.0 in
      let to : UpToNewline rest r.2.0 r.2.1 = r.2.2 in
      let long : MAX_LINE_BYTES < length e.lines.held + r.2.0 = r.2.3 in
      let short = h.opened.short in
      let m = length-append e.lines.held (take r.2.0 rest) in
      let q = length-take r.2.0 rest in
      let w = to.within in
      let bytes : MAX_LINE_BYTES < length (e.lines.held ++ take r.2.0 rest) = omega (arith, m, q, w, long) in
      limit_at rest r.2.0 r.2.1 (line_too_long line) to (omega (arith, long, short))
      (long_fault h.items (next_item o h.items h.tree (line_at (suc (length (whole_lines text))) (e.lines.held ++ take r.2.0 rest)))
      (line_at (suc (length (whole_lines text))) (e.lines.held ++ take r.2.0 rest)) line (line_of-next_item o h.items h.tree _)
      (omega (arith, b, is)) (omega (arith, b, k, fits, is))
      (subst (λ (t : List ℕ). MAX_LINE_BYTES < length t) (sym (text_of-line_at (suc (length (whole_lines text))) (e.lines.held ++ take r.2.0 rest))) bytes))

  -- The buffered bytes pass no limit.
  no_limit : (w : Case) → IsLimit w → 0 < length e.lines.held → Holds h.items (next_item o h.items h.tree (line_so_far text)) w → ⊥
  no_limit _ by_lines some k = grind (arith, common_steps, before_is, line_of-next_item)
  no_limit _ by_bytes some k = grind (arith, common_steps, rest_is, text_of-line_at, line_of-next_item)

  some_held : (r : List ℕ) → (r ≡ [] → ⊥) → 0 < length r
  some_held [] n = absurd (n refl)
  some_held (x ∷ xs) n = omega arith

  -- The text has no fault so far.
  pub reads_so_far : ReadsSoFar o text h.items h.tree None
  reads_so_far = goes_on h.items h.tree h.goes
      (λ f k. no_limit k.fault.which k.limit
      (subst (λ (r : List ℕ). 0 < length r) (rest_is) (some_held (partial_line text) k.some)) k.fault.holds)

  -- The text's partial line is no longer than a line may be.
  pub one_line : length (partial_line text) ≤ MAX_LINE_BYTES
  one_line = subst (λ (r : List ℕ). length r ≤ MAX_LINE_BYTES) (sym rest_is) h.opened.short

  -- No more sections are open than may be.
  pub few_sections : depth h.tree ≤ MAX_DEPTH
  few_sections = grind arith
