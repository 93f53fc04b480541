-- Laws of options, of arguments and answers.
use Rattle.std.proofs.Common.{◌≡◌, ◌≢◌, ℕ, List, [], ◌∷◌, ◌++◌, map, true, false, None, codes, refl, sym, ◌∙◌, ap₂, subst, rules, arith}
use Rattle.std.proofs.lemmas.Option.{none-some}
use Rattle.ud_model.specs.text.Lines.{Line, lines_of, partial_line}
use Rattle.ud_model.specs.sections.Items.{Options, mode_by}
use Rattle.ud_model.specs.answer.CommandLine.{has_flag, parsed_args, usage_fault, options_of}
use Rattle.ud_laws.specs.answer.OptionArguments.{AddsSymbol, AddsOption, added}
use Rattle.ud_model.specs.answer.Answer.{Answer, IsAnswer, refused, ran, message_or_none}
use Rattle.ud_laws.specs.answer.Successes.{Succeeds, JudgedAs}
use Rattle.ud_model.specs.answer.Printing.{Judged}
use Rattle.ud_model.specs.answer.Outcomes.{Outcome, HasOutcome}
use Rattle.ud_model.specs.laws.Rereading.{IsPlain}
use Rattle.ud_model.specs.laws.Worlds.{selected}
use Rattle.ud_laws.specs.output.ListedNames.{IsListed, IsNoValue, NeverCounts}
use Rattle.ud_laws.specs.output.BlankedLines.{Blanks, AreBlankedBy}
use Rattle.ud_laws.specs.output.SharedLines.{OnlyDecides, ShareLines}
use Rattle.ud_laws.specs.output.StrictLines.{KeepAsMuch, pieces_of}
use Rattle.ud_laws.specs.output.InsertedLines.{KeepsNumbers, AddsNumbers, AnswersNumbered, CountsLines}
use Rattle.ud_laws.specs.output.PresumedLines.{HasNoLineDirective, NumbersAsInput, NumbersSelected}
use Rattle.ud_laws.specs.output.InsertedNodes.{IsInserted, StillSelects}
use Rattle.ud_model.specs.declared.settings.Listing.TheVariants.{Off}
use Rattle.ud_laws.proofs.answer.AddedOption.{WithOption, with_option}
use Rattle.ud_laws.proofs.output.AnswerLaws.{answered_selects}
use Rattle.ud_laws.proofs.output.FlagArguments.{lists_names, complements, is_strict, no_fault_with_c, name_with_c}
use Rattle.ud_laws.proofs.output.ListAnswers.{answered_by_list}
use Rattle.ud_laws.proofs.output.ListComplete.{alike_but_one}
use Rattle.ud_laws.proofs.output.BlankedLineLemmas.{as_many, blanked_places}
use Rattle.ud_laws.proofs.output.SharedLineLemmas.{RunsWithComplement, same_fault, shared_lines}
use Rattle.ud_laws.proofs.output.StrictRuns.{strict_keeps, judged_are_all, judged_output}
use Rattle.ud_laws.proofs.output.CountedText.{counted_lines, judged_few}
use Rattle.ud_laws.proofs.output.PresumedNumbers.{right_numbers, all_clear}
use Rattle.ud_laws.proofs.output.PresumedSelected.{selected_presumed}
use Rattle.ud_laws.proofs.output.InsertedText.{inserted_in_text}
use Rattle.ud_laws.proofs.output.InsertedSelected.{inserted_in_selected}

-- arguments with an answer whose status isn't 2 have no fault
no_usage_fault : {args : List (List ℕ)} {input : List ℕ} {a : Answer} → IsAnswer args input a → a.status ≢ 2 → usage_fault args ≡ None
no_usage_fault h g = grind arith

-- an option for a symbol that isn't listed changes no answer
pub answered_with_option : (before after : List (List ℕ)) (name word input : List ℕ) {l a : Answer} → AddsSymbol before name word →
    has_flag (codes "S") (parsed_args (before ++ after)) ≡ false → IsAnswer (codes "-s" ∷ (before ++ after)) input l → l.status ≢ 2 →
    IsAnswer (before ++ after) input a → a.status ≢ 2 → (IsListed name l.output → ⊥) → IsNoValue (options_of (before ++ after)).table name →
    IsAnswer (before ++ word ∷ after) input a
answered_with_option before after name word input {l} {a} adds off k n b m out none =
    let with : WithOption before after name word = with_option before after name word adds in
    answered_by_list k n (lists_names (before ++ after) off) b m (with.no_fault (no_usage_fault b m)) with.settings
    (alike_but_one l.output name (options_of (before ++ after)).table (options_of (before ++ word ∷ after)).table out none with.entries)

pub answered_with_added : {args more : List (List ℕ)} {name input : List ℕ} {a : Answer} → AddsOption name args more → NeverCounts args input name →
    Succeeds args input a → IsAnswer more input a
answered_with_added {name = name} {input = input} (added before after w adds) never s = grind (arith, answered_with_option)

-- under `-b` there are as many lines
pub answered_as_many : {args : List (List ℕ)} {input : List ℕ} {a : Answer} → (options_of args).settings.blank ≡ true →
    (options_of args).settings.listing ≡ Off → (options_of args).settings.unpadded ≡ false → partial_line input ≡ [] → IsAnswer args input a → a.status ≢ 2 →
    map (λ (k : Line). k.ending) (lines_of a.output) ≡ map (λ (l : Line). l.ending) (lines_of input)
answered_as_many h g u k m q = grind (arith, absurd, as_many)

-- and each is at its place
pub answered_places : {args : List (List ℕ)} {input : List ℕ} {js : List Judged} {a : Answer} → Blanks (options_of args) → usage_fault args ≡ None →
    JudgedAs (options_of args) input js → IsAnswer args input a → AreBlankedBy (options_of args) js a.output
answered_places h g k m = grind (arith, absurd, blanked_places)

-- the run with `-c` has the same fault, and the other lines
with_c : (args : List (List ℕ)) (input : List ℕ) {r s : Outcome} → OnlyDecides (options_of args) → HasOutcome (options_of args) input r →
    HasOutcome (options_of (codes "-c" ∷ args)) input s → RunsWithComplement (options_of args) input r s
with_c args input {s = s} p d h = grind (arith, complements)

pub answered_message : {args : List (List ℕ)} {input : List ℕ} {a c : Answer} → OnlyDecides (options_of args) → usage_fault args ≡ None →
    IsAnswer args input a → IsAnswer (codes "-c" ∷ args) input c → c.message ≡ a.message
answered_message p right (refused f e) b = absurd (none-some f (sym right ∙ e))
answered_message {args = args} p right (ran r e d) (refused f g) = absurd (none-some f (sym (no_fault_with_c args right) ∙ g))
answered_message {args = args} {input = input} p right (ran r e d) (ran s g h) =
    ap₂ message_or_none (name_with_c args) (same_fault (options_of args) input (with_c args input p d h))

pub answered_shared : {args : List (List ℕ)} {input : List ℕ} {js : List Judged} {a c : Answer} → OnlyDecides (options_of args) →
    usage_fault args ≡ None → JudgedAs (options_of args) input js → IsAnswer args input a → IsAnswer (codes "-c" ∷ args) input c →
    ShareLines js a.output c.output
answered_shared p right j (refused f e) b = absurd (none-some f (sym right ∙ e))
answered_shared {args = args} p right j (ran r e d) (refused f g) = absurd (none-some f (sym (no_fault_with_c args right) ∙ g))
answered_shared {args = args} {input = input} p right j (ran r e d) (ran s g h) = grind (arith, shared_lines, with_c)

-- the run with `-K` keeps as much text
pub answered_keeps : (args : List (List ℕ)) (input : List ℕ) {js ks : List Judged} → JudgedAs (options_of args) input js →
    JudgedAs (options_of (codes "-K" ∷ args)) input ks → KeepAsMuch js ks
answered_keeps args input {ks = ks} j k = strict_keeps (options_of args) input j (subst (λ (o : Options). JudgedAs o input ks) (is_strict args) k)

pub answered_all : {args : List (List ℕ)} {input : List ℕ} {js : List Judged} {a : Answer} → JudgedAs (options_of args) input js →
    IsAnswer args input a → a.status ≢ 2 → map (λ (j : Judged). j.line) js ≡ lines_of input
answered_all h g k = grind (arith, absurd, judged_are_all)

pub answered_output : {args : List (List ℕ)} {input : List ℕ} {js : List Judged} {a : Answer} → OnlyDecides (options_of args) → usage_fault args ≡ None →
    JudgedAs (options_of args) input js → IsAnswer args input a → a.output ≡ pieces_of js
answered_output h g k m = grind (arith, absurd, judged_output)

-- the run with `-b` or `-n`
numbered_run : {args more : List (List ℕ)} {input : List ℕ} {r s : Outcome} → IsPlain (options_of args) → KeepsNumbers args more →
    HasOutcome (options_of args) input r → HasOutcome (options_of more) input s → AddsNumbers (options_of args) input r s
numbered_run {input = input} {s = s} p k d h = grind arith

pub answered_counted : {args more : List (List ℕ)} {input : List ℕ} {js : List Judged} {a c : Answer} → IsPlain (options_of args) →
    usage_fault args ≡ None → KeepsNumbers args more → JudgedAs (options_of args) input js → IsAnswer args input a → IsAnswer more input c →
    CountsLines (options_of args) js a.output c.output
answered_counted p right k j (refused f e) b = absurd (none-some f (sym right ∙ e))
answered_counted p right k j (ran r e d) (refused f g) = absurd (none-some f (sym k.no_fault ∙ g))
answered_counted {args = args} {input = input} p right k j (ran r e d) (ran s g h) = search (rules, counted_lines, numbered_run)

pub answered_presumed : {args more : List (List ℕ)} {input : List ℕ} {js : List Judged} {a c : Answer} → IsPlain (options_of args) →
    usage_fault args ≡ None → KeepsNumbers args more → JudgedAs (options_of args) input js → IsAnswer args input a → IsAnswer more input c →
    HasNoLineDirective (mode_by (options_of args).settings.plain) a.output → NumbersAsInput (mode_by (options_of args).settings.plain) js c.output
answered_presumed {args = args} {input = input} p right k j a c none ps sure n q =
    let d = answered_counted p right k j a c in grind (arith, (right_numbers d.1 none (judged_few (options_of args) input j) ps sure n q).1)

pub answered_line_numbers : {args more : List (List ℕ)} {input : List ℕ} {js : List Judged} {a c : Answer} → IsPlain (options_of args) →
    usage_fault args ≡ None → KeepsNumbers args more → JudgedAs (options_of args) input js → IsAnswer args input a → IsAnswer more input c →
    HasNoLineDirective (mode_by (options_of args).settings.plain) a.output → NumbersSelected (options_of args) c.output
answered_line_numbers {args = args} {input = input} {c = c} p right k j a d none vs i x =
    let n = answered_counted p right k j a d in
    selected_presumed (options_of args) p c.output vs i (all_clear n.1 none (judged_few (options_of args) input j)) x

pub answered_selects_numbered : {args more : List (List ℕ)} {input : List ℕ} {a c : Answer} → AnswersNumbered args more input a c → a.status ≢ 2 →
    StillSelects (options_of args) input a.output c.output
answered_selects_numbered {args = args} {more = more} {input = input} {a = a} {c = c} k n = by_runs k.answer n k.numbered
  where
    by_runs : {b d : Answer} → IsAnswer args input b → b.status ≢ 2 → IsAnswer more input d → StillSelects (options_of args) input b.output d.output
    by_runs (refused f e) m q ns us i j w v t = absurd (m refl)
    by_runs (ran r e d) m (refused f q) ns us i j w v t = absurd (none-some f (sym k.keeps.no_fault ∙ q))
    by_runs (ran r e d) m (ran s q h) ns us i j w v t =
        let x : AddsNumbers (options_of args) input r s = numbered_run k.plain k.keeps d h in
        let z = inserted_in_text (options_of args) x.plain x.blank x.renumber x.some x.padded input x.runs x.numbered us j in
        record {
          nodes = z.0;
          is_tree = z.1;
          inserted = z.2;
          selects = λ y same. (
            selected v us,
            answered_selects {args = args} (ran r e d) m k.plain ns us i j w v t.c_world t.truths,
            inserted_in_selected IsInserted v y z.2 same,
          );
        }
