-- Fault stays: a fault of the text so far is the fault of every longer text, and the output before
-- it is the same.
use Rattle.std.proofs.Common.{◌≡◌, ◌≢◌, ℕ, suc, ◌≤◌, List, [], ◌∷◌, ◌++◌, length, Some, None, sym, ◌∙◌, ap, subst, append_assoc, length-append, arith, rules}
use Rattle.ud_model.specs.text.Lines.{Line, text_of, line_at, lines_of, whole_lines, partial_line, texts_of, numbered_from}
use Rattle.ud_model.specs.text.Scans.{Reading}
use Rattle.ud_model.specs.sections.Directives.{Content}
use Rattle.ud_model.specs.sections.Tree.{Item, Tree}
use Rattle.ud_model.specs.sections.Items.{Options, item_by, reading_of, line_of, next_item}
use Rattle.ud_model.specs.sections.Faults.{Fault, Case, FaultOf, Holds, NoneHolds, earlier, fault_in, past_last, too_long, too_many_lines, line_too_long}
use Rattle.ud_model.specs.answer.Outcomes.{Outcome, FirstFaultAt, HasNoFault, ReadsAs, ReadsSoFar, HasOutcome, ran_as, HasOutcomeSoFar, came_as, RestBreaks, IsLimit, by_lines, by_bytes, lines_so_far, line_so_far, breaks}
use Rattle.ud_model.specs.answer.Outcomes.ReadsSoFar.{stops as stops_so_far}
use Rattle.ud_model.specs.answer.Outcomes.ReadsAs.{stops}
use Rattle.ud_model.proofs.text.LinesLemmas.{Growth, stays_open, ends_line, grows, text_of-line_at, numbered_from-next, lines_so_far-append, lines_of-append, texts_of_grows, some_front}

-- An item keeps the reading of its line.
pub reading_of-item_by : (o : Options) (r : Reading) (c : Content) → reading_of (item_by o r c) ≡ r
reading_of-item_by o r c = grind arith

-- An item keeps its line.
pub line_of-next_item : (o : Options) (xs : List (Item Reading)) (t : Tree Reading) (l : Line) → line_of (next_item o xs t l) ≡ l
line_of-next_item o xs t l = grind (arith, reading_of-item_by)

-- A line's fault, which is that of a broken limit.
pub record LimitFault (xs : List (Item Reading)) (x : Item Reading) (f : Fault) : Type 0 where
  pub fault : FaultOf xs x f
  pub limit : IsLimit fault.which

-- A line with the same number and at least as many bytes breaks the same limit.
pub limit_stays : (xs : List (Item Reading)) (x y : Item Reading) (f : Fault) →
    (line_of y).number ≡ (line_of x).number → length (text_of (line_of x)) ≤ length (text_of (line_of y)) →
    LimitFault xs x f → LimitFault xs y f
limit_stays xs x y f same more h = by_case h.fault.which h.limit h.fault.holds h.fault.first h.fault.named
  where
    by_case : (c : Case) → IsLimit c → Holds xs x c → NoneHolds xs x (earlier c) → fault_in x c ≡ Some f → LimitFault xs y f
    by_case _ by_lines holds first named = record {
      fault = record { which = past_last; holds = omega arith; first = tt; named = ap (λ (n : ℕ). Some (too_many_lines n)) same ∙ named };
      limit = by_lines;
    }
    by_case _ by_bytes holds first named = record {
      fault = record { which = too_long; holds = omega arith; first = ((λ past. first.0 (omega arith)), tt); named = ap (λ (n : ℕ). Some (line_too_long n)) same ∙ named };
      limit = by_bytes;
    }

-- The fault of a limit stays if the line goes on.
pub limit_grows : (o : Options) (xs : List (Item Reading)) (t : Tree Reading) (n : ℕ) (r x : List ℕ) (f : Fault) →
    LimitFault xs (next_item o xs t (line_at n r)) f → LimitFault xs (next_item o xs t (line_at n (r ++ x))) f
limit_grows o xs t n r x f h =
    limit_stays xs (next_item o xs t (line_at n r)) (next_item o xs t (line_at n (r ++ x))) f
    (ap (λ (l : Line). l.number) longer ∙ sym (ap (λ (l : Line). l.number) shorter))
    (rw (bytes r, bytes (r ++ x), length-append r x) (omega arith)) h
  where
    shorter : line_of (next_item o xs t (line_at n r)) ≡ line_at n r
    shorter = line_of-next_item o xs t (line_at n r)

    longer : line_of (next_item o xs t (line_at n (r ++ x))) ≡ line_at n (r ++ x)
    longer = line_of-next_item o xs t (line_at n (r ++ x))

    bytes : (s : List ℕ) → length (text_of (line_of (next_item o xs t (line_at n s)))) ≡ length s
    bytes s = search (rules, line_of-next_item, text_of-line_at)

-- Further lines after the faulty one leave the fault.
pub stops_at-append : (o : Options) (ls ms : List Line) (xs : List (Item Reading)) (t : Tree Reading) (f : Fault) →
    FirstFaultAt o ls xs t f → FirstFaultAt o (ls ++ ms) xs t f
stops_at-append o ls ms xs t f h = grind (arith, append_assoc)

-- A line after those that are read is the faulty one.
pub stops_after : (o : Options) (ls ms : List Line) (l : Line) (xs : List (Item Reading)) (t : Tree Reading) (f : Fault) →
    HasNoFault o ls xs t → FaultOf xs (next_item o xs t l) f → FirstFaultAt o (ls ++ l ∷ ms) xs t f
stops_after o ls ms l xs t f through fault = grind arith

-- The line that the rest of the text so far begins, with more bytes after the rest.
abbrev pub line_from : List ℕ → List ℕ → Line
line_from given x = line_at (suc (length (whole_lines given))) (partial_line given ++ x)

-- The lines begin with those so far, and with a line that the rest begins.
abbrev pub FindsLine : List ℕ → List Line → Type 0
FindsLine given ls = (x : List ℕ) × (later : List Line) × (ls ≡ lines_so_far given ++ line_from given x ∷ later)

-- The lines of a text that has ended, if the rest of the text so far begins one.
pub lines_of-rest : (given more : List ℕ) → partial_line given ≢ [] → FindsLine given (lines_of (given ++ more))
lines_of-rest given more some = by_texts (texts_of_grows given more some)
  where
    by_texts : (x : List ℕ) × (later : List (List ℕ)) × (texts_of (given ++ more) ≡ whole_lines given ++ (partial_line given ++ x) ∷ later) →
        FindsLine given (lines_of (given ++ more))
    by_texts (x, later, e) = (
      x,
      numbered_from (suc (suc (length (whole_lines given)))) later,
      ap (numbered_from 1) e ∙ numbered_from-next (whole_lines given) (partial_line given ++ x) later,
    )

-- The fault of a limit that the rest breaks is that of each line that the rest begins.
pub rest_stays : (o : Options) (given x : List ℕ) (xs : List (Item Reading)) (t : Tree Reading) (f : Fault) →
    RestBreaks o given xs t f → LimitFault xs (next_item o xs t (line_from given x)) f
rest_stays o given x xs t f h = search (rules, limit_grows)

-- A broken limit stays broken when the text ends.
pub limit_ends : (o : Options) (given more : List ℕ) (xs : List (Item Reading)) (t : Tree Reading) (f : Fault) →
    HasNoFault o (lines_so_far given) xs t → RestBreaks o given xs t f → FirstFaultAt o (lines_of (given ++ more)) xs t f
limit_ends o given more xs t f through h = by_lines_of (lines_of-rest given more h.some)
  where
    by_lines_of : FindsLine given (lines_of (given ++ more)) → FirstFaultAt o (lines_of (given ++ more)) xs t f
    by_lines_of (x, later, e) = subst (λ (ls : List Line). FirstFaultAt o ls xs t f) (sym e)
        (stops_after o (lines_so_far given) later (line_from given x) xs t f through (rest_stays o given x xs t f h).fault)

-- A broken limit stays broken when the text goes on.
pub limit_goes_on : (o : Options) (given more : List ℕ) (xs : List (Item Reading)) (t : Tree Reading) (f : Fault) →
    HasNoFault o (lines_so_far given) xs t → RestBreaks o given xs t f → ReadsSoFar o (given ++ more) xs t (Some f)
limit_goes_on o given more xs t f through h = by_growth (grows given more)
  where
    by_growth : Growth given more → ReadsSoFar o (given ++ more) xs t (Some f)
    by_growth (ends_line x later e) = stops_so_far xs t f
        (subst (λ (ls : List Line). FirstFaultAt o ls xs t f)
        (sym (ap (numbered_from 1) e ∙ numbered_from-next (whole_lines given) (partial_line given ++ x) later))
        (stops_after o (lines_so_far given) (numbered_from (suc (suc (length (whole_lines given)))) later) (line_from given x) xs t f through
        (rest_stays o given x xs t f h).fault))
    by_growth (stays_open e r) = breaks xs t f
        (record { sound = through.sound; are = ap (numbered_from 1) e ∙ through.are })
        (record {
          some = λ none. some_front (partial_line given) more h.some (sym r ∙ none);
          fault = still.fault;
          limit = still.limit;
        })
      where
        still : LimitFault xs (next_item o xs t (line_so_far (given ++ more))) f
        still = search (rules, rest_stays, e, r)

-- A fault so far stays, and so do the items before it, whether the text goes on or ends.
pub reads_stay : {o : Options} {given : List ℕ} (more : List ℕ) {xs : List (Item Reading)} {t : Tree Reading} {f : Fault} → ReadsSoFar o given xs t (Some f) →
    ReadsSoFar o (given ++ more) xs t (Some f) × ReadsAs o (given ++ more) xs t (Some f)
reads_stay {o = o} {given = given} more (stops_so_far xs t g h) = (
  stops_so_far xs t g
      (subst (λ (ls : List Line). FirstFaultAt o ls xs t g) (sym (lines_so_far-append given more).1)
      (stops_at-append o (lines_so_far given) (lines_so_far-append given more).0 xs t g h)),
  stops xs t g
      (subst (λ (ls : List Line). FirstFaultAt o ls xs t g) (sym (lines_of-append given more).1)
      (stops_at-append o (lines_so_far given) (lines_of-append given more).0 xs t g h)),
)
reads_stay {o = o} {given = given} more (breaks xs t g through h) =
    (limit_goes_on o given more xs t g through h, stops xs t g (limit_ends o given more xs t g through h))

-- So the output before the fault stays, too.
pub fault_stays : (o : Options) (given more : List ℕ) (r : Outcome) → HasOutcomeSoFar o given r → (f : Fault) → r.fault ≡ Some f →
    HasOutcomeSoFar o (given ++ more) r × HasOutcome o (given ++ more) r
fault_stays o given more _ (came_as {f = None} a) f is = cc
fault_stays o given more _ (came_as {f = Some g} a) f is = (came_as (reads_stay more a).0, ran_as (reads_stay more a).1)
