-- A run and the run with `-c` read a text alike, and share its lines.
use Rattle.std.proofs.Common.{◌≡◌, ℕ, List, [], ◌∷◌, ◌++◌, map, Bool, true, false, Option, refl, sym, ◌∙◌, ap, subst, rules}
use Rattle.std.specs.List.{concat}
use Rattle.ud_model.specs.text.Lines.{lines_of}
use Rattle.ud_model.specs.text.Scans.{Reading}
use Rattle.ud_model.specs.sections.Directives.{content_of}
use Rattle.ud_model.specs.conditions.Table.{Argument, entry_in}
use Rattle.ud_model.specs.sections.Tree.{Item, Tree}
use Rattle.ud_model.specs.sections.Pruning.{marks}
use Rattle.ud_model.specs.sections.Items.{Options, mode_after, read_after, rules_of}
use Rattle.ud_model.specs.sections.Faults.{Fault}
use Rattle.ud_model.specs.answer.Listing.{names_in_content, names_at}
use Rattle.ud_model.specs.answer.Printing.{Judged, piece_alone, complemented, judged_lines}
use Rattle.ud_model.specs.answer.Outcomes.{Outcome, outcome_of, ReadsAs, HasOutcome, ran_as}
use Rattle.ud_laws.specs.answer.Successes.{JudgedAs, judged_as}
use Rattle.ud_model.specs.answer.Outcomes.ReadsAs.{stops, ends}
use Rattle.ud_laws.specs.output.SharedLines.{OnlyDecides, with_complement, ShareLines, no_line}
use Rattle.ud_laws.specs.output.SharedLines.{stays, goes}
use Rattle.ud_model.specs.declared.settings.Settings.{Settings}
use Rattle.ud_model.specs.declared.settings.Listing.TheVariants.{Off}
use Rattle.ud_model.specs.declared.verdict.Verdict.{Verdict}
use Rattle.ud_laws.proofs.conditions.NamedAlike.{Alike}
use Rattle.ud_model.proofs.output.Each.{Each}
use Rattle.ud_model.proofs.output.Changed.{lone, pieces_lone}
use Rattle.ud_laws.proofs.output.ListComplete.{AllNames, sound_alike, stop_alike}
use Rattle.ud_model.proofs.sections.Soundness.{one_run}

each_all : {A : Type 0} (P : A → Type 0) → ((x : A) → P x) → (xs : List A) → Each P xs
each_all P h [] = tt
each_all P h (x ∷ xs) = (h x, each_all P h xs)

-- Options with the same reading of lines, whose tables agree on each name, read a text alike.
read_alike : (o p : Options) → o.settings.plain ≡ p.settings.plain → rules_of o.settings ≡ rules_of p.settings → ((n : List ℕ) → Alike o.table p.table n) →
    {input : List ℕ} {xs : List (Item Reading)} {t : Tree Reading} {f : Option Fault} → ReadsAs o input xs t f → ReadsAs p input xs t f
read_alike o p plain rules known {input = input} a = by_reading a
  where
    names : (xs : List (Item Reading)) → AllNames (Alike o.table p.table) xs
    names xs = each_all (λ x. Each (Alike o.table p.table) (names_at x)) (λ x. each_all (Alike o.table p.table) known (names_at x)) xs

    by_reading : {xs : List (Item Reading)} {t : Tree Reading} {f : Option Fault} → ReadsAs o input xs t f → ReadsAs p input xs t f
    by_reading (stops xs t f s) =
        stops xs t f (stop_alike o p plain rules (lines_of input) xs t f s (names xs)
        (each_all (Alike o.table p.table) known (names_in_content (content_of (read_after xs (mode_after o t) s.faulty).scan))))
    by_reading (ends xs t g) = ends xs t (record { sound = sound_alike o p plain rules g.sound (names xs); are = g.are })

-- Options with the same table and the same reading of lines read a text alike.
pub reads_too : (o p : Options) → o.settings.plain ≡ p.settings.plain → rules_of o.settings ≡ rules_of p.settings → p.table ≡ o.table →
    {input : List ℕ} {xs : List (Item Reading)} {t : Tree Reading} {f : Option Fault} → ReadsAs o input xs t f → ReadsAs p input xs t f
reads_too o p plain rules table a = read_alike o p plain rules (λ n. subst (λ (u : List Argument). Alike o.table u n) (sym table) (λ m l. refl)) a

-- The case of one more line, by whether it is removed.
share_one : (v : Verdict) (j : Judged) (js : List Judged) (a b : List ℕ) → j.verdict ≡ v → ShareLines js a b →
    ShareLines (j ∷ js) (piece_alone false false j ++ a) (piece_alone false false (complemented j) ++ b)
share_one v j js a b h s = search (rules, goes, stays)

share_all : (js : List Judged) → ShareLines js (concat (map (lone false false false) js)) (concat (map (lone false false true) js))
share_all [] = no_line
share_all (j ∷ js) = share_one j.verdict j js (concat (map (lone false false false) js)) (concat (map (lone false false true) js)) refl (share_all js)

-- The output if lines are neither blanked nor numbered.
pub printed_lone : (o : Options) {input : List ℕ} {xs : List (Item Reading)} {t : Tree Reading} {f : Option Fault} {r : Outcome} (c : Bool) → o.settings.listing ≡ Off →
    o.settings.blank ≡ false → o.settings.renumber ≡ false → o.settings.unpadded ≡ false → o.settings.complement ≡ c → ReadsAs o input xs t f → HasOutcome o input r →
    r.output ≡ concat (map (lone false false c) (judged_lines xs (marks t)))
printed_lone o c off b n u k a run = search (rules, one_run, pieces_lone, ran_as)

pub shared : (o : Options) (input : List ℕ) {xs : List (Item Reading)} {t : Tree Reading} {f : Option Fault} {r s : Outcome} → OnlyDecides o →
    ReadsAs o input xs t f → HasOutcome o input r → HasOutcome (with_complement o) input s →
    (s.fault ≡ r.fault) × ShareLines (judged_lines xs (marks t)) r.output s.output
shared o input {xs = xs} {t = t} {r = r} p a run turned =
    let js : List Judged = judged_lines xs (marks t) in
    let d = reads_too o (with_complement o) refl refl refl a in
    let here = printed_lone o false p.unlisted p.unblanked p.unnumbered p.padded p.uncomplemented a run in
    let there = printed_lone (with_complement o) true p.unlisted p.unblanked p.unnumbered p.padded refl d turned in (
      ap (λ (z : Outcome). z.fault) (one_run turned (ran_as d)) ∙ ap (λ (z : Outcome). z.fault) (one_run (ran_as a) run),
      subst (λ (q : List ℕ). ShareLines js r.output q) (sym there) (subst (λ (q : List ℕ). ShareLines js q (concat (map (lone false false true) js))) (sym here) (share_all js)),
    )

-- A text has an outcome under options that only decide, and another one with `-c`.
pub record RunsWithComplement (o : Options) (input : List ℕ) (r s : Outcome) : Type 0 where
  pub decides : OnlyDecides o
  pub runs : HasOutcome o input r
  pub complement : HasOutcome (with_complement o) input s

-- The run with `-c` has the same fault.
pub same_fault : (o : Options) (input : List ℕ) {r s : Outcome} → RunsWithComplement o input r s → s.fault ≡ r.fault
same_fault o input k = search (rules, shared, ran_as)

-- The runs share the lines of the text.
pub shared_lines : (o : Options) (input : List ℕ) {js : List Judged} {r s : Outcome} → RunsWithComplement o input r s → JudgedAs o input js →
    ShareLines js r.output s.output
shared_lines o input k (judged_as reads) = (shared o input k.decides reads k.runs k.complement).1

-- Tables with the same entry for every name give a text the same outcome.
pub same_names : (o p : Options) (input : List ℕ) {r : Outcome} → p.settings ≡ o.settings →
    ((n : List ℕ) → entry_in o.table n ≡ entry_in p.table n) → HasOutcome o input r → HasOutcome p input r
same_names o p input same every run = by_run run
  where
    plain : o.settings.plain ≡ p.settings.plain
    plain = ap (λ (s : Settings). s.plain) (sym same)

    rules : rules_of o.settings ≡ rules_of p.settings
    rules = ap (λ (s : Settings). rules_of s) (sym same)

    by_run : {r : Outcome} → HasOutcome o input r → HasOutcome p input r
    by_run (ran_as {xs = xs} {t = t} {f = f} a) =
        subst (HasOutcome p input) (ap (λ (s : Settings). outcome_of s xs t f) same) (ran_as (read_alike o p plain rules (λ n m l. every m) a))
