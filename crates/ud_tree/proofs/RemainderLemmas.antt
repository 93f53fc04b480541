-- The conditions of some outputs, and the names in some texts, one after another.
use Rattle.std.proofs.Common.{◌≡◌, ℕ, List, [], ◌∷◌, ◌++◌, Bool, true, not, refl, sym, ◌∙◌, ap, subst, append-nil, arith}
use Rattle.std.proofs.lemmas.Grind.{flat_map-append, common_steps}
use Rattle.std.proofs.lemmas.Bool.{false≢true}
use Rattle.std.proofs.lemmas.List.Elements.{filter_agree}
use Rattle.std.proofs.lemmas.List.Folds.{list_any-append}
use Rattle.std.proofs.lemmas.List.Sums.{sum_by-append}
use Rattle.std.specs.Prelude.{filter, map, ◌&&◌}
use Rattle.ud_model.specs.conditions.Conditions.{is_listed}
use Rattle.ud_model.specs.conditions.Table.{Argument}
use Rattle.ud_args.specs.CommandLines.{Parsed}
use Rattle.ud_args.specs.TreeWords.{has_name}
use Rattle.ud_cond.specs.symbols.Marks.{is_marked, Unmarks}
use Rattle.ud_cond.specs.symbols.SymbolTable.{TableRepresents}
use Rattle.ud_passes.specs.remaining.RemainingLists.{RemainingState, AddsAll, LeavesUnnamed}
use Rattle.ud_tree.specs.declared.arguments.Arguments.{Arguments}
use Rattle.ud_tree.specs.Reports.{ReportState, KeepsFinds}
use Rattle.ud_tree.specs.Remainders.{mode_of, is_searched, Finds, AddsOutputs, FindsAll, is_named_in, unnamed_in}
use Rattle.ud_tree.specs.Requests.{IsArgumentsOf}
use Rattle.ud_tree.specs.Summaries.{still_unnamed}
use Rattle.ud_tree.specs.Unnamed.{FindsNames}
use Rattle.ud_tree.specs.Runs.{Output, made}
use Rattle.unifdef.proofs.HeadlineLemmas.{false_before}
use Rattle.ud_tree.proofs.SymbolLemmas.{bytes_eq-same, symbols_listed}

-- 1. The names that no text has.

filter_both : {A : Type 0} (p q : A → Bool) (xs : List A) → filter (λ x. q x && p x) xs ≡ filter p (filter q xs)
filter_both p q [] = refl
filter_both p q (x ∷ xs) = grind (arith, filter_both p q xs)

-- The names that are marked after some texts are those with a row that no condition of them has.
pub names_left : (table : List Argument) (args : Arguments) (texts : List (List ℕ)) (start marks : List Bool) →
    ((name : List ℕ) → is_marked args.plan.run.symbols start name ≡ (not args.quiet && is_listed args.plan.run.symbols name)) →
    Unmarks args.plan.run.symbols (is_named_in table args texts) start marks → still_unnamed args marks ≡ filter (is_listed args.plan.run.symbols) (unnamed_in table args texts)
names_left table args texts start marks all left = let names = map (λ n. n.items) args.names.items in
    filter_agree (is_marked args.plan.run.symbols marks) (λ n. (not args.quiet && not (is_named_in table args texts n)) && is_listed args.plan.run.symbols n) (λ n. (grind (arith, all n, left n))) names ∙ filter_both (is_listed args.plan.run.symbols) _ names

-- Each symbol of a command line has a row.
pub all_listed : (table : List Argument) (args : Arguments) (texts : List (List ℕ)) {given : List Parsed} → IsArgumentsOf given args →
    filter (is_listed args.plan.run.symbols) (unnamed_in table args texts) ≡ unnamed_in table args texts
all_listed table args texts {given = given} are = kept (map (λ n. n.items) args.names.items)
    (λ n has. symbols_listed args.plan.run.symbols given n are.plan.represents (sym (ap (λ names. has_name names n) are.symbols) ∙ has))
  where
    kept : (names : List (List ℕ)) → ((n : List ℕ) → has_name names n ≡ true → is_listed args.plan.run.symbols n ≡ true) →
        filter (is_listed args.plan.run.symbols) (filter (λ n. not args.quiet && not (is_named_in table args texts n)) names) ≡
        filter (λ n. not args.quiet && not (is_named_in table args texts n)) names
    kept [] h = refl
    kept (n ∷ names) h = grind (arith, h n, bytes_eq-same n, kept names (λ m has. h m (grind (arith, has))))

-- 2. What was found.

adds_same : {table : List Argument} {args : Arguments} (s : RemainingState) → AddsOutputs table args [] s s
adds_same s = record { list_is = sym (append-nil s.list); count_is = λ small. omega arith; defined_is = λ small. omega arith; listing_is = refl }

-- The report has the same conditions as before.
pub finds_none : {args : Arguments} {old new : ReportState} → new.remaining ≡ old.remaining → (old.lacks_memory ≡ true → new.lacks_memory ≡ true) → new.unnamed ≡ old.unnamed → FindsAll args [] [] old new
finds_none {args = args} {old = old} {new = new} same kept names = record {
  kept = kept;
  added = λ whole wanted calls r. subst (λ (t : RemainingState). AddsOutputs calls args [] old.remaining t) (sym same) (adds_same old.remaining);
  same = λ off. same;
  unnamed = λ whole calls r n. (grind (arith, names));
}

-- The same, if whether some was lost stays too.
pub finds_kept : {args : Arguments} {old new : ReportState} → KeepsFinds old new → FindsAll args [] [] old new
finds_kept h = finds_none h.remaining (λ lost. h.lost ∙ lost) h.unnamed

adds_output : {table : List Argument} {args : Arguments} {name bytes : List ℕ} {s t : RemainingState} →
    AddsAll table (mode_of args) name bytes s t → AddsOutputs table args (made name bytes) s t
adds_output h = grind (arith, common_steps)

-- The conditions of one output were added.
pub finds_output : {args : Arguments} {name bytes : List ℕ} {old new : ReportState} → Finds args name bytes old new → FindsAll args [] (made name bytes) old new
finds_output {args = args} {old = old} h = record {
  kept = h.kept;
  added = λ whole wanted calls r. adds_output (h.added whole wanted calls r);
  same = h.same;
  unnamed = λ whole calls r n. (grind (arith, h.unnamed));
}

-- The names of one text were looked for.
pub finds_text : {args : Arguments} {text : List ℕ} {old new : ReportState} → FindsNames args text old new → FindsAll args (text ∷ []) [] old new
finds_text {args = args} {text = text} {old = old} h = record {
  kept = h.kept;
  added = λ whole wanted calls r. subst (λ (t : RemainingState). AddsOutputs calls args [] old.remaining t) (sym h.remaining) (adds_same old.remaining);
  same = λ off. h.remaining;
  unnamed = λ whole calls r n. (grind (arith, h.removed whole calls r n));
}

-- A text that is its own output was searched at once.
pub finds_at_once : {args : Arguments} {name text : List ℕ} {old new : ReportState} → is_searched args ≡ true → new.lacks_memory ≡ old.lacks_memory →
    ((calls : List Argument) → TableRepresents args.plan.run.symbols calls → AddsAll calls (mode_of args) name text old.remaining new.remaining) →
    ((calls : List Argument) → TableRepresents args.plan.run.symbols calls → LeavesUnnamed calls (mode_of args) text args.plan.run.symbols old.unnamed new.unnamed) →
    FindsAll args (text ∷ []) (made name text) old new
finds_at_once {args = args} {text = text} {old = old} wanted lost adds removes = record {
  kept = λ gone. lost ∙ gone;
  added = λ whole on calls r. adds_output (adds calls r);
  same = λ off. absurd (false≢true (sym off ∙ wanted));
  unnamed = λ whole calls r n. (grind (arith, removes calls r n));
}

-- Memory ran out for a text that is its own output.
pub finds_lost : {args : Arguments} {ts : List (List ℕ)} {xs : List Output} {old new : ReportState} → is_searched args ≡ true → new.lacks_memory ≡ true → FindsAll args ts xs old new
finds_lost wanted lost = record {
  kept = λ gone. lost;
  added = λ whole. absurd (false≢true (sym whole ∙ lost));
  same = λ off. absurd (false≢true (sym off ∙ wanted));
  unnamed = λ whole. absurd (false≢true (sym whole ∙ lost));
}

-- The names of a text were looked for.
pub finds_named : {args : Arguments} {text : List ℕ} {old new : ReportState} → new.lacks_memory ≡ old.lacks_memory → new.remaining ≡ old.remaining →
    ((calls : List Argument) → TableRepresents args.plan.run.symbols calls → LeavesUnnamed calls (mode_of args) text args.plan.run.symbols old.unnamed new.unnamed) → FindsNames args text old new
finds_named lost same leaves = record { kept = λ gone. lost ∙ gone; removed = λ whole. leaves; remaining = same }

-- No name is sought.
pub finds_unsought : {args : Arguments} {text : List ℕ} {r : ReportState} → r.unnamed ≡ [] → FindsNames args text r r
finds_unsought {args = args} {text = text} {r = r} none = record {
  kept = λ lost. lost;
  removed = λ whole calls h n. (grind (arith, none));
  remaining = refl;
}

-- The names of an equal text were looked for.
pub found_in : {args : Arguments} {text seen : List ℕ} {old new : ReportState} → seen ≡ text → FindsNames args seen old new → FindsAll args (text ∷ []) [] old new
found_in {args = args} {old = old} {new = new} e h = subst (λ (t : List ℕ). FindsAll args (t ∷ []) [] old new) e (finds_text h)

-- The conditions of more outputs were added.
pub finds_then : {args : Arguments} {a b c : ReportState} (ts us : List (List ℕ)) (xs ys : List Output) → FindsAll args ts xs a b → FindsAll args us ys b c → FindsAll args (ts ++ us) (xs ++ ys) a c
finds_then {args = args} {a = a} ts us xs ys h k = record {
  kept = λ lost. k.kept (h.kept lost);
  added = λ whole wanted calls r. (grind (arith, common_steps, flat_map-append, sum_by-append, h.added (false_before k.kept whole) wanted calls r, k.added whole wanted calls r));
  same = λ off. k.same off ∙ h.same off;
  unnamed = λ whole calls r n. (grind (arith, k.unnamed whole calls r n, h.unnamed (false_before k.kept whole) calls r n, list_any-append));
}

-- Equal texts and outputs are found alike.
pub finds_same : {args : Arguments} {a b : ReportState} {ts us : List (List ℕ)} {xs ys : List Output} → ts ≡ us → xs ≡ ys → FindsAll args ts xs a b → FindsAll args us ys a b
finds_same {args = args} {a = a} {b = b} {us = us} {xs = xs} f e h =
    subst (λ (os : List Output). FindsAll args us os a b) e (subst (λ (ts : List (List ℕ)). FindsAll args ts xs a b) f h)
