-- Exists: each list of lines is read up to the first faulty line or to its end, so each text has an
-- outcome.
use Rattle.std.proofs.Common.{◌≡◌, ◌≢◌, ℕ, ◌<◌, List, [], ◌∷◌, ◌++◌, length, map, Bool, IsTrue, Option, Some, None, refl, sym, ◌∙◌, ap, append_assoc, append-nil, subst, ◌⊎◌, inl, inr, arith}
use Rattle.std.proofs.lemmas.List.{same_from_push}
use Rattle.ud_model.specs.text.Lines.{Line, text_of, lines_of, partial_line}
use Rattle.ud_model.specs.text.Scans.{Reading}
use Rattle.ud_model.specs.sections.Directives.{content_of}
use Rattle.ud_model.specs.sections.Tree.{Item, Opener, Nodes, Elifs, Head, Tree, text_line, if_line, elif_line, else_line, endif_line, nothing, if_head, elif_head, else_head, closed, open_section, lines, depth}
use Rattle.ud_model.specs.sections.Pruning.{Mark, marks}
use Rattle.ud_model.specs.sections.Items.{Options, reading_of, line_of, next_item}
use Rattle.ud_model.specs.sections.Faults.{Fault, Case, past_last, too_long, cut, out_of_place, too_deep, obfuscated_case, cases, Holds, NoneHolds, is_cut, is_obfuscated, misplaced_fault, FaultOf, AreFaultless, no_lines, one_more, end_fault, too_many_lines, line_too_long, obfuscated, inappropriate_elif, inappropriate_else, inappropriate_endif, too_many_levels}
use Rattle.ud_model.specs.answer.CommandLine.{UsageFault, usage_fault, options_of, display_name}
use Rattle.ud_model.specs.answer.Outcomes.{Outcome, outcome_of, FirstFaultAt, HasNoFault, ReadsAs, HasOutcome, ran_as, lines_so_far, line_so_far, IsLimit, by_lines, by_bytes, RestBreaks, ReadsSoFar, HasOutcomeSoFar, came_as, breaks, goes_on}
use Rattle.ud_model.specs.answer.Outcomes.ReadsAs.{stops, ends}
use Rattle.ud_model.specs.answer.Outcomes.ReadsSoFar.{stops as stops_so_far}
use Rattle.ud_model.specs.answer.Answer.{Answer, IsAnswer, refused, ran, usage_answer, run_answer}
use Rattle.ud_model.specs.declared.limits.TheConstants.{MAX_LINE_BYTES, MAX_LINES, MAX_DEPTH}
use Rattle.ud_model.proofs.sections.Growth.{Adds, adds_text, adds_if, elif_after_if, elif_after_elif, else_after_if, else_after_elif, adds_endif, adds_under, lines-add}
use Rattle.ud_model.proofs.sections.Unique.{unique, grows}
use Rattle.ud_model.proofs.sections.Stays.{marks_more}
use Rattle.ud_model.proofs.sections.Soundness.{sound_lines, lines_with_next}

-- A text grows by a line, or the line is a directive out of its place.
pub data Grows (t : Tree Reading) (x : Item Reading) : Type 0 where
  by_line : (u : Tree Reading) → Adds t x u → Grows t x
  out_of : (f : Fault) → misplaced_fault x ≡ Some f → ((u : Tree Reading) → Adds t x u → ⊥) → Grows t x

-- Within an open section a text grows as its end does, if the end has open sections too.
only_under : (ns ms : Nodes Reading) (h k : Head Reading) (t : Tree Reading) (x : Item Reading) (u : Tree Reading) →
    Adds (open_section ns h (open_section ms k t)) x u → (v : Tree Reading) × Adds (open_section ms k t) x v
only_under ns ms h k t x _ (adds_under {u = v} a) = (v, a)

grows_under : (ns ms : Nodes Reading) (h k : Head Reading) (t : Tree Reading) (x : Item Reading) → Grows (open_section ms k t) x → Grows (open_section ns h (open_section ms k t)) x
grows_under ns ms h k t x (by_line u a) = by_line (open_section ns h u) (adds_under a)
grows_under ns ms h k t x (out_of f e none) = out_of f e (λ u a. let b = only_under ns ms h k t x u a in none b.0 b.1)

no_elif_here : (b : Nodes Reading) (o : Opener Reading) (u : Tree Reading) → Adds (closed b) (elif_line o) u → ⊥
no_elif_here b o u a = elim a [ ]

no_else_here : (b : Nodes Reading) (l : Reading) (u : Tree Reading) → Adds (closed b) (else_line l) u → ⊥
no_else_here b l u a = elim a [ ]

no_endif_here : (b : Nodes Reading) (l : Reading) (u : Tree Reading) → Adds (closed b) (endif_line l) u → ⊥
no_endif_here b l u a = elim a [ ]

no_elif_after_else : (ns b : Nodes Reading) (es : Elifs Reading) (l : Reading) (o : Opener Reading) (u : Tree Reading) →
    Adds (open_section ns (else_head es l) (closed b)) (elif_line o) u → ⊥
no_elif_after_else ns b es l o _ (adds_under {u = v} a) = no_elif_here b o v a

no_else_after_else : (ns b : Nodes Reading) (es : Elifs Reading) (l k : Reading) (u : Tree Reading) →
    Adds (open_section ns (else_head es l) (closed b)) (else_line k) u → ⊥
no_else_after_else ns b es l k _ (adds_under {u = v} a) = no_else_here b k v a

-- A text grows by a line after it, or the line is out of its place.
pub grows_or_not : (t : Tree Reading) (x : Item Reading) → Grows t x
grows_or_not (closed b) (text_line l) = by_line _ adds_text
grows_or_not (closed b) (if_line o) = by_line _ adds_if
grows_or_not (closed b) (elif_line o) = out_of (inappropriate_elif o.line.line.number) refl (no_elif_here b o)
grows_or_not (closed b) (else_line l) = out_of (inappropriate_else l.line.number) refl (no_else_here b l)
grows_or_not (closed b) (endif_line l) = out_of (inappropriate_endif l.line.number) refl (no_endif_here b l)
grows_or_not (open_section ns h (closed b)) (text_line l) = by_line _ (adds_under adds_text)
grows_or_not (open_section ns h (closed b)) (if_line o) = by_line _ (adds_under adds_if)
grows_or_not (open_section ns (if_head p) (closed b)) (elif_line o) = by_line _ elif_after_if
grows_or_not (open_section ns (elif_head es p) (closed b)) (elif_line o) = by_line _ elif_after_elif
grows_or_not (open_section ns (else_head es k) (closed b)) (elif_line o) = out_of (inappropriate_elif o.line.line.number) refl (no_elif_after_else ns b es k o)
grows_or_not (open_section ns (if_head p) (closed b)) (else_line l) = by_line _ else_after_if
grows_or_not (open_section ns (elif_head es p) (closed b)) (else_line l) = by_line _ else_after_elif
grows_or_not (open_section ns (else_head es k) (closed b)) (else_line l) = out_of (inappropriate_else l.line.number) refl (no_else_after_else ns b es k l)
grows_or_not (open_section ns h (closed b)) (endif_line l) = by_line _ adds_endif
grows_or_not (open_section ns h (open_section ms k t)) x = grows_under ns ms h k t x (grows_or_not (open_section ms k t) x)

-- The line after faultless ones is faultless too, or has a fault.
pub data Stands (xs : List (Item Reading)) (x : Item Reading) : Type 0 where
  clear : (u : Tree Reading) → lines u ≡ xs ++ x ∷ [] → NoneHolds xs x cases → Stands xs x
  faulty : (f : Fault) → FaultOf xs x f → Stands xs x

-- A fact is true, or it isn't.
pub Either : Type 0 → Type 0
Either P = P ⊎ (P → ⊥)

either_true : (b : Bool) → Either (IsTrue b)
unfolding Either
either_true b = grind arith

either_less : (m n : ℕ) → Either (m < n)
unfolding Either
either_less m n = grind arith

module _ (xs : List (Item Reading)) (t : Tree Reading) (are : lines t ≡ xs) (x : Item Reading) where
  deep_or_not : (u : Tree Reading) → lines u ≡ xs ++ x ∷ [] → Either (Holds xs x too_deep)
  unfolding Either
  deep_or_not u e = go (either_less MAX_DEPTH (depth u))
    where
      go : (MAX_DEPTH < depth u) ⊎ (MAX_DEPTH < depth u → ⊥) → Holds xs x too_deep ⊎ (Holds xs x too_deep → ⊥)
      go (inl h) = inl (u, e, h)
      go (inr h) = inr (λ k. h (subst (λ v. MAX_DEPTH < depth v) (unique k.0 u (k.1 ∙ sym e)) k.2))

  spoiled_or_not : (u : Tree Reading) → Adds t x u → lines u ≡ xs ++ x ∷ [] → Either (Holds xs x obfuscated_case)
  unfolding Either
  spoiled_or_not u a e = go (marks_more a).0 (marks_more a).1 (either_true (is_obfuscated (marks t) x (marks_more a).0))
    where
      go : (m : Mark) → marks u ≡ marks t ++ m ∷ [] → IsTrue (is_obfuscated (marks t) x m) ⊎ (IsTrue (is_obfuscated (marks t) x m) → ⊥) →
          Holds xs x obfuscated_case ⊎ (Holds xs x obfuscated_case → ⊥)
      go m is (inl h) = inl (marks t, m, (u, e, is), h)
      go m is (inr h) = inr (λ k.
          let s : (k.0 ≡ marks t) × (k.1 ≡ m) =
          same_from_push k.0 (marks t) k.1 m (sym k.2.2 ∙ ap marks (unique k.2.0 u (k.2.1 ∙ sym e)) ∙ is) in
          h (subst (λ ms. IsTrue (is_obfuscated ms x m)) s.0 (subst (λ n. IsTrue (is_obfuscated k.0 x n)) s.1 k.3)))

  module _ (past : Holds xs x past_last → ⊥) (long : Holds xs x too_long → ⊥) (known : Holds xs x cut → ⊥) where
    with_tree : (u : Tree Reading) → Adds t x u → Stands xs x
    unfolding Either
    with_tree u a = go (deep_or_not u e) (spoiled_or_not u a e)
      where
        e : lines u ≡ xs ++ x ∷ []
        e = lines-add a ∙ ap (λ (ys : List (Item Reading)). ys ++ x ∷ []) are

        placed : Holds xs x out_of_place → ⊥
        placed k = k.1 (u, e)

        go : Holds xs x too_deep ⊎ (Holds xs x too_deep → ⊥) → Holds xs x obfuscated_case ⊎ (Holds xs x obfuscated_case → ⊥) → Stands xs x
        go (inl h) s = faulty (too_many_levels (line_of x).number) (record { which = too_deep; holds = h; first = (past, (long, (known, (placed, tt)))); named = refl })
        go (inr d) (inl h) = faulty (obfuscated (line_of x).number) (record { which = obfuscated_case; holds = h; first = (past, (long, (known, (placed, (d, tt))))); named = refl })
        go (inr d) (inr s) = clear u e (past, (long, (known, (placed, (d, (s, tt))))))

    without_tree : (f : Fault) → misplaced_fault x ≡ Some f → ((u : Tree Reading) → Adds t x u → ⊥) → Stands xs x
    without_tree f named none = faulty f
        (record {
          which = out_of_place;
          holds = ((t, are), λ k. none k.0 (grows t k.0 x (k.1 ∙ ap (λ (ys : List (Item Reading)). ys ++ x ∷ []) (sym are))));
          first = (past, (long, (known, tt)));
          named = named;
        })

    by_place : Grows t x → Stands xs x
    by_place (by_line u a) = with_tree u a
    by_place (out_of f e none) = without_tree f e none

  -- The line after lines with a tree is faultless, or has a fault.
  pub represents : Stands xs x
  unfolding Either
  represents = at_number (either_less MAX_LINES (line_of x).number) (either_less MAX_LINE_BYTES (length (text_of (line_of x)))) (either_true (is_cut (content_of (reading_of x).scan)))
    where
      at_number : Holds xs x past_last ⊎ (Holds xs x past_last → ⊥) → Holds xs x too_long ⊎ (Holds xs x too_long → ⊥) → Holds xs x cut ⊎ (Holds xs x cut → ⊥) → Stands xs x
      at_number (inl h) b c = faulty (too_many_lines (line_of x).number) (record { which = past_last; holds = h; first = tt; named = refl })
      at_number (inr p) (inl h) c = faulty (line_too_long (line_of x).number) (record { which = too_long; holds = h; first = (p, tt); named = refl })
      at_number (inr p) (inr l) (inl h) = faulty (obfuscated (line_of x).number) (record { which = cut; holds = h; first = (p, (l, tt)); named = refl })
      at_number (inr p) (inr l) (inr c) = by_place p l c (grows_or_not t x)

-- Lines are read to their end, or up to the first faulty one.
pub data Gone (o : Options) (ls : List Line) : Type 0 where
  stopped : (xs : List (Item Reading)) (t : Tree Reading) (f : Fault) → FirstFaultAt o ls xs t f → Gone o ls
  through : (xs : List (Item Reading)) (t : Tree Reading) → HasNoFault o ls xs t → Gone o ls

module _ (o : Options) (ls : List Line) where
  gone_from : (rest : List Line) (xs : List (Item Reading)) (t : Tree Reading) → AreFaultless o xs t → ls ≡ map line_of xs ++ rest → Gone o ls
  gone_from [] xs t s e = through xs t (record { sound = s; are = e ∙ append-nil (map line_of xs) })
  gone_from (l ∷ rest) xs t s e = go (represents xs t (sound_lines s) (next_item o xs t l)) (λ ys u r d. gone_from rest ys u r d)
    where
      further : ls ≡ map line_of (xs ++ next_item o xs t l ∷ []) ++ rest
      further = grind (arith, append_assoc, lines_with_next)

      go : Stands xs (next_item o xs t l) → ((ys : List (Item Reading)) (u : Tree Reading) → AreFaultless o ys u → ls ≡ map line_of ys ++ rest → Gone o ls) → Gone o ls
      go (faulty f g) on = stopped xs t f (record { sound = s; faulty = l; later = rest; are = e; fault = g })
      go (clear u is none) on = on (xs ++ next_item o xs t l ∷ []) u (one_more xs t s l u is none) further

  -- Each list of lines is read up to the first faulty one or to its end.
  pub gone : Gone o ls
  gone = gone_from ls [] (closed nothing) no_lines refl

-- Each text is read in some way.
pub reading_exists : (o : Options) (input : List ℕ) → (xs : List (Item Reading)) × (t : Tree Reading) × (f : Option Fault) × ReadsAs o input xs t f
reading_exists o input = go (gone o (lines_of input))
  where
    go : Gone o (lines_of input) → (xs : List (Item Reading)) × (t : Tree Reading) × (f : Option Fault) × ReadsAs o input xs t f
    go (stopped xs t f h) = (xs, t, Some f, stops xs t f h)
    go (through xs t h) = (xs, t, end_fault xs t, ends xs t h)

-- So each text has an outcome.
pub run_exists : (o : Options) (input : List ℕ) → (r : Outcome) × HasOutcome o input r
run_exists o input = let r = reading_exists o input in
    (outcome_of o.settings r.0 r.1 r.2, ran_as r.3)

-- The rest of a text that goes on breaks a limit, or it doesn't.
pub data Breaks (o : Options) (given : List ℕ) (xs : List (Item Reading)) (t : Tree Reading) : Type 0 where
  broken : (f : Fault) → RestBreaks o given xs t f → Breaks o given xs t
  unbroken : ((f : Fault) → RestBreaks o given xs t f → ⊥) → Breaks o given xs t

module _ (o : Options) (given : List ℕ) (xs : List (Item Reading)) (t : Tree Reading) where
  rest_item : Item Reading
  rest_item = next_item o xs t (line_so_far given)

  within_limits : (Holds xs rest_item past_last → ⊥) → (Holds xs rest_item too_long → ⊥) → (c : Case) → IsLimit c → Holds xs rest_item c → ⊥
  within_limits h g c k m = grind arith

  breaks_by : (partial_line given ≡ []) ⊎ (partial_line given ≢ []) →
      Holds xs rest_item past_last ⊎ (Holds xs rest_item past_last → ⊥) →
      Holds xs rest_item too_long ⊎ (Holds xs rest_item too_long → ⊥) → Breaks o given xs t
  unfolding rest_item
  breaks_by (inl none) b c = unbroken (λ f h. h.some none)
  breaks_by (inr some) (inl h) c = broken (too_many_lines (line_of rest_item).number)
      (record { some = some; fault = record { which = past_last; holds = h; first = tt; named = refl }; limit = by_lines })
  breaks_by (inr some) (inr p) (inl h) = broken (line_too_long (line_of rest_item).number)
      (record { some = some; fault = record { which = too_long; holds = h; first = (p, tt); named = refl }; limit = by_bytes })
  breaks_by (inr some) (inr p) (inr l) = unbroken (λ f h. within_limits p l h.fault.which h.limit h.fault.holds)

  none_or_some : (r : List ℕ) → (r ≡ []) ⊎ (r ≢ [])
  none_or_some [] = inl refl
  none_or_some (b ∷ bs) = inr (λ e. cc)

  -- One of both is true.
  pub breaks_or_not : Breaks o given xs t
  unfolding rest_item Either
  breaks_or_not =
      breaks_by (none_or_some (partial_line given)) (either_less MAX_LINES (line_of rest_item).number) (either_less MAX_LINE_BYTES (length (text_of (line_of rest_item))))

-- Each text that goes on is read in some way so far.
pub reading_so_far_exists : (o : Options) (given : List ℕ) → (xs : List (Item Reading)) × (t : Tree Reading) × (f : Option Fault) × ReadsSoFar o given xs t f
reading_so_far_exists o given = go (gone o (lines_so_far given))
  where
    further : (xs : List (Item Reading)) (t : Tree Reading) → HasNoFault o (lines_so_far given) xs t → Breaks o given xs t →
        (xs : List (Item Reading)) × (t : Tree Reading) × (f : Option Fault) × ReadsSoFar o given xs t f
    further xs t h (broken f b) = (xs, t, Some f, breaks xs t f h b)
    further xs t h (unbroken n) = (xs, t, None, goes_on xs t h n)

    go : Gone o (lines_so_far given) → (xs : List (Item Reading)) × (t : Tree Reading) × (f : Option Fault) × ReadsSoFar o given xs t f
    go (stopped xs t f h) = (xs, t, Some f, stops_so_far xs t f h)
    go (through xs t h) = further xs t h (breaks_or_not o given xs t)

-- So each text that goes on has an outcome so far.
pub run_so_far_exists : (o : Options) (given : List ℕ) → (r : Outcome) × HasOutcomeSoFar o given r
run_so_far_exists o given = let r = reading_so_far_exists o given in
    (outcome_of o.settings r.0 r.1 r.2, came_as r.3)

-- Arguments and an input have an answer.
pub answer_exists : (args : List (List ℕ)) (input : List ℕ) → (a : Answer) × IsAnswer args input a
answer_exists args input = go (usage_fault args) refl
  where
    go : (f : Option UsageFault) → usage_fault args ≡ f → (a : Answer) × IsAnswer args input a
    go (Some f) e = (usage_answer f, refused f e)
    go None e =
        let r : (r : Outcome) × HasOutcome (options_of args) input r = run_exists (options_of args) input in
        (run_answer (options_of args).settings (display_name args) r.0, ran r.0 e r.1)
