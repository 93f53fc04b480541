-- Lines from their parts.
use Rattle.std.proofs.Common.{◌≡◌, ℕ, ◌+◌, ◌<◌, ◌≤◌, List, [], ◌∷◌, ◌++◌, length, get_or, take, map, Bool, true, false, None, Some, refl, sym, ap, ◌∙◌, subst, append_assoc, append-nil, codes, count_by, decimal, ◌&&◌, ◌||◌, ◌⊎◌, inl, inr, arith}
use Rattle.std.proofs.lemmas.Grind.{common_steps, flat_map-append}
use Rattle.std.proofs.lemmas.List.{take_more, map-append, length-map}
use Rattle.std.specs.List.{flat_map, slice_get}
use Rattle.std.specs.Prelude.{string_bytes, filter, if◌then◌else◌}
use Rattle.std.proofs.lemmas.List.Elements.{filter-append}
use Rattle.std.proofs.lemmas.List.Recursion.{is_count_by}
use Rattle.ud_cond.specs.symbols.Marks.{is_marked}
use Rattle.ud_tree.specs.Reports.{ReportState, Says}
use Rattle.ud_tree.specs.declared.arguments.Arguments.{Arguments}
use Rattle.ud_tree.specs.declared.last_lines.Processed.{Processed}
use Rattle.ud_tree.specs.declared.walk.Found.{Found}
use Rattle.ud_tree.specs.Runs.{names_of}
use Rattle.ud_tree.specs.declared.arguments.Task.TheVariants.{Names}
use Rattle.ud_io.specs.Streams.{Stream, Sends}
use Rattle.ud_tree.specs.Summaries.{line_of, changes_line, files_text, hidden_text, hint, summary, remaining_text, remaining_line, removed_line, removed_text, edited_line, edited_text, defined_line, defined_text, still_unnamed, none_named_line, unnamed_line, unnamed_lines, unnamed_text, others_line, others_text, unsearched_line, unsearched_text}
use Rattle.ud_tree.specs.Visible.{visible}
use Rattle.ud_tree.specs.Writing.{TellsEnd}
use Rattle.ud_io.proofs.StreamLemmas.{sends_none, sends_same, sends_then}

-- A line was written in three parts.
pub line_sent : {a b c d : Stream} (text : List ℕ) → Sends a b (codes "unifdef-tree: ") → Sends b c (visible text) → Sends c d (codes "\n") → Sends a d (line_of text)
line_sent text h k l = sends_then (sends_then h k) l

-- The numbers of files that changed, or would, from the six parts of their line.
pub changes_joined : (changed unchanged faults : ℕ) (word c u f : List ℕ) → c ≡ decimal changed → u ≡ decimal unchanged → f ≡ decimal faults →
    line_of (c ++ (word ++ (u ++ (codes " unchanged, " ++ (f ++ (codes " faulty" ++ [])))))) ≡ changes_line word changed unchanged faults
changes_joined changed unchanged faults word c u f p q r =
    ap (λ x. line_of (x ++ (word ++ (u ++ (codes " unchanged, " ++ (f ++ (codes " faulty" ++ []))))))) p
    ∙ ap (λ x. line_of (decimal changed ++ (word ++ (x ++ (codes " unchanged, " ++ (f ++ (codes " faulty" ++ []))))))) q
    ∙ ap (λ x. line_of (decimal changed ++ (word ++ (decimal unchanged ++ (codes " unchanged, " ++ (x ++ (codes " faulty" ++ []))))))) r
    ∙ simp (append_assoc, append-nil)

listed_parts : (a b c d e f g : List ℕ) → a ++ (b ++ (c ++ (d ++ (e ++ (f ++ (g ++ [])))))) ≡ (((((a ++ b) ++ c) ++ d) ++ e) ++ f) ++ g
listed_parts a b c d e f g = simp (append_assoc, append-nil)

-- The summary of a run that lists names.
pub listed_joined : (listed : Bool) (changed unchanged faults hidden : ℕ) (u f h v w i : List ℕ) → u ≡ decimal unchanged →
    f ≡ decimal faults → h ≡ decimal hidden → v ≡ files_text unchanged → w ≡ hidden_text hidden → i ≡ hint listed hidden →
    line_of (u ++ (v ++ (f ++ (codes " faulty; " ++ (h ++ (w ++ (i ++ []))))))) ≡
    summary Names listed changed unchanged faults hidden
listed_joined listed changed unchanged faults hidden u f h v w i p q r m n o =
    grind (arith, common_steps, listed_parts)

and_false : (b : Bool) → (b && false) ≡ false
and_false true = refl
and_false false = refl

or_true : (b : Bool) → (b || true) ≡ true
or_true true = refl
or_true false = refl

-- The line of conditions that are listed.
pub remaining_listed : (listed : Bool) (count : ℕ) (text : List ℕ) → listed ≡ true → text ≡ remaining_text count → line_of ((decimal count ++ text) ++ []) ≡ remaining_line listed count
remaining_listed listed count text on p = grind (arith, common_steps, and_false, or_true)

-- The line of conditions that aren't listed, of which there are some.
pub remaining_told : (listed : Bool) (count : ℕ) (text option : List ℕ) → listed ≡ false → ¬ (count ≡ 0) → text ≡ remaining_text count → option ≡ hint false count →
    line_of ((decimal count ++ text) ++ option) ≡ remaining_line listed count
remaining_told listed count text option off some p q = grind (arith, common_steps, append_assoc)

-- The line of lines that define a symbol, of which there are some.
pub defined_told : (listed : Bool) (count : ℕ) (text option : List ℕ) → ¬ (count ≡ 0) → text ≡ defined_text count → option ≡ hint listed count →
    line_of ((decimal count ++ text) ++ option) ≡ defined_line listed count
defined_told listed count text option some p q = grind (arith, common_steps, append_assoc)

-- The line with the number of removed lines.
pub removed_told : (count : ℕ) (text : List ℕ) → ¬ (count ≡ 0) → text ≡ removed_text count → line_of ((decimal count ++ text) ++ []) ≡ removed_line count
removed_told count text some q = grind (arith, common_steps)

-- The number of edited conditions isn't wanted.
pub edited_none : (prunes : Bool) (count : ℕ) → prunes ≡ false → edited_line prunes count ≡ []
edited_none prunes count off = subst (λ (b : Bool). edited_line b count ≡ []) (sym off) refl

-- The line with the number of edited conditions.
pub edited_told : (prunes : Bool) (count : ℕ) (text : List ℕ) → prunes ≡ true → text ≡ edited_text count → line_of ((decimal count ++ text) ++ []) ≡ edited_line prunes count
edited_told prunes count text on q = grind (arith, common_steps)

-- The bytes for one element more follow.
pub flat_push : {A : Type 0} (f : A → List ℕ) (g : List ℕ → List ℕ) (xs : List A) (i : ℕ) (x : A) → i < length xs → x ≡ get_or xs i x →
    flat_map g (map f (take i xs)) ++ g (f x) ≡ flat_map g (map f (take (i + 1) xs))
flat_push f g xs i x within is = grind (arith, common_steps, take_more, map-append, flat_map-append)

-- One name more was tried.
filter_push : {A : Type 0} (f : A → List ℕ) (p : List ℕ → Bool) (xs : List A) (i : ℕ) (x : A) → i < length xs → x ≡ get_or xs i x →
    filter p (map f (take (i + 1) xs)) ≡ filter p (map f (take i xs)) ++ (if p (f x) then f x ∷ [] else [])
filter_push f p xs i x within is = ap (λ ys. filter p (map f ys)) (take_more xs i x within) ∙ ap (λ y. filter p (map f (take i xs ++ y ∷ []))) (sym is) ∙ ap (filter p) (map-append f (take i xs) (x ∷ [])) ∙ filter-append p (map f (take i xs)) (f x ∷ [])

-- It is marked, and its line was written.
pub unnamed_sent : {A : Type 0} {a b c : Stream} (f : A → List ℕ) (p : List ℕ → Bool) (names : List A) (i : ℕ) (x : A) (name : List ℕ) → i < length names → x ≡ get_or names i x → name ≡ f x → p name ≡ true →
    Sends a b (flat_map unnamed_line (filter p (map f (take i names)))) → Sends b c (line_of (codes "no condition names " ++ (name ++ []))) → Sends a c (flat_map unnamed_line (filter p (map f (take (i + 1) names))))
unnamed_sent f p names i x name within is named marked h k = sends_same (sym lines) (sends_then h k)
  where
    before : List (List ℕ)
    before = filter p (map f (take i names))

    lines : flat_map unnamed_line (filter p (map f (take (i + 1) names))) ≡ flat_map unnamed_line before ++ line_of (codes "no condition names " ++ (name ++ []))
    lines = ap (flat_map unnamed_line) (filter_push f p names i x within is ∙ ap (λ b. before ++ (if b then f x ∷ [] else [])) (ap p (sym named) ∙ marked))
        ∙ flat_map-append unnamed_line before (f x ∷ [])
        ∙ ap (λ t. flat_map unnamed_line before ++ t) (append-nil (unnamed_line (f x)) ∙ ap unnamed_line (sym (append-nil name ∙ named)))

-- It isn't marked.
pub unnamed_passed : {A : Type 0} {a b : Stream} (f : A → List ℕ) (p : List ℕ → Bool) (names : List A) (i : ℕ) (x : A) → i < length names → x ≡ get_or names i x → p (f x) ≡ false →
    Sends a b (flat_map unnamed_line (filter p (map f (take i names)))) → Sends a b (flat_map unnamed_line (filter p (map f (take (i + 1) names))))
unnamed_passed f p names i x within is unmarked h =
    sends_same (ap (flat_map unnamed_line) (sym (filter_push f p names i x within is ∙ ap (λ b. filter p (map f (take i names)) ++ (if b then f x ∷ [] else [])) unmarked ∙ append-nil (filter p (map f (take i names)))))) h

-- The number of marked names.
marked_length : {A : Type 0} (f : A → List ℕ) (p : List ℕ → Bool) (xs : List A) → length (filter p (map f xs)) ≡ count_by (λ x. p (f x)) xs
marked_length f p xs = is_count_by (λ ys. length (filter p (map f ys))) (λ x. p (f x)) refl (λ x ys. (grind (arith))) xs

-- All of several symbols are unnamed, or they aren't.
pub all_unnamed : (args : Arguments) (marks : List Bool) (count : ℕ) → count ≡ count_by (λ n. is_marked args.plan.run.symbols marks n.items) args.names.items → 1 < count → count ≡ length args.names.items →
    none_named_line count ≡ unnamed_text args (still_unnamed args marks)
all_unnamed args marks count is several all = grind (arith, marked_length (λ n. n.items) (is_marked args.plan.run.symbols marks) args.names.items)

pub some_unnamed : (args : Arguments) (marks : List Bool) (count : ℕ) → count ≡ count_by (λ n. is_marked args.plan.run.symbols marks n.items) args.names.items →
    ((1 < count) × (count ≡ length args.names.items → ⊥)) ⊎ (count ≤ 1) → flat_map unnamed_line (still_unnamed args marks) ≡ unnamed_text args (still_unnamed args marks)
some_unnamed args marks count is (inl (several, some)) = grind (arith, marked_length (λ n. n.items) (is_marked args.plan.run.symbols marks) args.names.items)
some_unnamed args marks count is (inr few) = grind (arith, marked_length (λ n. n.items) (is_marked args.plan.run.symbols marks) args.names.items)

-- After a fault there are no such lines.
pub unnamed_none : (args : Arguments) (faults : ℕ) (names : List (List ℕ)) → 0 < faults → unnamed_lines args faults names ≡ []
unnamed_none args faults names some = grind (arith, common_steps)

-- Without a fault there are.
pub unnamed_told : (args : Arguments) (faults : ℕ) (names : List (List ℕ)) → faults ≤ 0 → unnamed_text args names ≡ unnamed_lines args faults names
unnamed_told args faults names none = grind (arith, common_steps)

-- There is no file of another name.
pub others_none : (others : List Found) → None ≡ slice_get others 0 → others_line (names_of others) ≡ []
others_none [] e = refl
others_none (f ∷ fs) e = absurd cc

-- The line of some.
pub others_told : (others : List Found) (f : Found) (text path : List ℕ) → Some f ≡ slice_get others 0 → text ≡ others_text (length others) → path ≡ string_bytes f.path →
    line_of ((decimal (length others) ++ text) ++ path) ≡ others_line (names_of others)
others_told [] f text path e p q = absurd cc
others_told (g ∷ fs) f text path e p q = grind (arith, common_steps, length-map)

-- The line with the number of files that couldn't be searched.
pub unsearched_told : (count : ℕ) (text : List ℕ) → ¬ (count ≡ 0) → text ≡ unsearched_text count → line_of ((decimal count ++ text) ++ []) ≡ unsearched_line count
unsearched_told count text some q = grind (arith, common_steps)

-- A quiet run ends with nothing.
pub ends_quiet : (args : Arguments) (p : Processed) (r : ReportState) → args.quiet ≡ true → TellsEnd args p r r
ends_quiet args p r quiet = rw quiet (record { told = (r.err, sends_none r.err); alone = λ e. sends_none r.err })

pub ends_told : (args : Arguments) (p : Processed) {a b : ReportState} → args.quiet ≡ false →
    Says a b (summary args.task args.list_hidden p.counts.changed p.counts.unchanged p.faults p.hidden ++ removed_line p.counts.edits.lines ++ edited_line args.plan.prunes p.counts.edits.conditions ++
    remaining_line args.list_remaining a.remaining.count ++ defined_line args.list_remaining a.remaining.defined ++ unnamed_lines args p.faults (still_unnamed args a.unnamed) ++ others_line (names_of p.others.named.items) ++ unsearched_line p.others.unsearched) →
    TellsEnd args p a b
ends_told args p {a = a} {b = b} loud h = rw loud (record { told = (h.cleared, h.sent); alone = λ e. subst (λ (s : Stream). Sends s b.err _) (h.unshown e) h.sent })
