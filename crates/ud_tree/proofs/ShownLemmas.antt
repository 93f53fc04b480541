-- Shown: lemmas on a run over a text that was read.
use Rattle.std.proofs.Common.{◌≡◌, ◌⊎◌, ℕ, ◌≤◌, List, [], ◌∷◌, ◌++◌, ◌∙◌, Bool, true, false, if◌then◌else◌, Result, Ok, Err, OnOk, refl, sym, subst, append-nil, arith}
use Rattle.ud_passes.specs.diff.Patching.{IsDiff}
use Rattle.ud_replace.specs.declared.error.Update.{Update}
use Rattle.ud_replace.specs.declared.error.Update.TheVariants.{Replaced}
use Rattle.ud_replace.specs.declared.error.ReplaceError.{ReplaceError}
use Rattle.ud_replace.specs.declared.error.ReplaceError.TheVariants.{OutOfMemory, Text}
use Rattle.ud_engine.specs.declared.fault.RunFault.{RunFault}
use Rattle.ud_replace.specs.declared.stat.FileStat.{FileStat}
use Rattle.ud_replace.specs.declared.text_plan.TextPlan.{TextPlan}
use Rattle.ud_replace.specs.declared.kept.Kept.{Kept}
use Rattle.ud_replace.specs.Calls.{Call}
use Rattle.ud_replace.specs.TextOutcomes.{TextOptions, IsPlanned, RunsOver, FailsOver, over_memory}
use Rattle.ud_replace.specs.MadeOutcomes.{RunsKept, output_of}
use Rattle.ud_replace.specs.UnprunedRuns.{RunsUnpruned, FailsUnpruned, no_memory_left}
use Rattle.ud_model.specs.declared.kind.Mode.{Mode}
use Rattle.ud_tree.specs.declared.arguments.Arguments.{Arguments}
use Rattle.ud_tree.specs.Reports.{ReportState}
use Rattle.ud_tree.specs.Remainders.{FindsAll}
use Rattle.ud_tree.specs.declared.counts.Edits.{Edits}
use Rattle.ud_tree.specs.Fates.{no_edits, removed_by, unedited}
use Rattle.ud_tree.specs.Runs.{ReadsOne, nothing_listed, Output, made}
use Rattle.ud_simplified.specs.FoldedTexts.{folded_text}
use Rattle.ud_passes.specs.declared.names.Names.{Names}
use Rattle.ud_tree.specs.Lists.{AddsListed, ListsTextInto, ListsInto}
use Rattle.ud_tree.specs.Remainders.{mode_of}
use Rattle.ud_tree.specs.Shown.{WasRead, Fails, fails_over, HasDiff, ShowsFile, changed, ShowsOne, listed_by, ListsAsRead, fold_faulty, ListsFolded, ListsText, by_folded, by_itself, names_listed, unlisted}
use Rattle.ud_io.specs.Streams.{Stream}
use Rattle.ud_tree.specs.Writing.{WritesOne}
use Rattle.ud_io.proofs.StreamLemmas.{sends_none}

-- A file was read, and memory couldn't be allocated.
pub no_memory : (o : TextOptions) {name text : List ℕ} {stat : FileStat} {calls calls' : List Call} → WasRead name text stat calls calls' →
    Fails (FailsOver o) name calls calls' OutOfMemory
no_memory o {text = text} {stat = stat} was = fails_over text stat was over_memory

-- The outcome that was kept is that of the text.
pub runs_over : {o : TextOptions} {plan : TextPlan} {k : Kept} {d b : Bool} → RunsKept o plan k d → d ≡ b → RunsOver o k.text.items (output_of k) b k.outcome.edited
runs_over h is = record {
  outcome = h.made.outcome;
  runs = (h.made.marks, h.made.runs);
  faultless = h.made.faultless;
  output_is = h.made.output_is;
  differs_is = sym is ∙ h.differs_is ∙ h.made.differs_is;
  edited_is = h.made.edited_is;
}

-- The list of a file that was read, and whose text has no fault.
pub lists_into : (args : Arguments) {name text seen output shown : List ℕ} {d : Bool} {stat : FileStat} {calls calls' : List Call} {old new : Names} (update : Result Update ReplaceError) →
    ReadsOne name text calls calls' → WasRead name text stat calls calls' → ((o : TextOptions) → IsPlanned args.plan o → RunsUnpruned o.run text [] output d) →
    seen ≡ text → shown ≡ output → ListsTextInto args name seen shown old new update → ListsInto args.plan args.list_hidden name calls calls' old new update
lists_into args {name = name} {text = text} {seen = seen} {output = output} {d = d} {stat = stat} {calls = calls} {calls' = calls'} {old = old} {new = new} (Ok u) read was runs p q t =
    subst (λ (x : Update). ListsInto args.plan args.list_hidden name calls calls' old new (Ok x)) (sym t.adds.0) (record {
      listed = t.listed;
      does = record {
        text = text;
        reads = read;
        lists_file = λ o k. names_listed text output d stat was (runs o k)
            (subst (λ (x : List ℕ). ListsText o (mode_of args) args.list_hidden name x output t.listed) p
            (subst (λ (x : List ℕ). ListsText o (mode_of args) args.list_hidden name seen x t.listed) q (t.lists o k)));
      };
      adds = t.adds.1;
    })
lists_into args {name = name} {text = text} {stat = stat} {calls = calls} {calls' = calls'} {old = old} {new = new} (Err e) read was runs p q t =
    subst (λ (x : ReplaceError). ListsInto args.plan args.list_hidden name calls calls' old new (Err x)) (sym t.adds.0) (record {
      listed = record { names = t.adds.1.0; hidden = 0; hidden_list = [] };
      does = record { text = text; reads = read; lists_file = λ o k. unlisted t.adds.1.0 (fails_over text stat was no_memory_left) };
      adds = t.adds.1.1;
    })

-- A fact is true of a value, too.
whatever : {X E : Type 0} {P : Type 0} (r : Result X E) → P → OnOk r P
whatever (Ok x) h = h
whatever (Err e) h = tt

-- A text that is listed by itself.
pub lists_itself : (args : Arguments) {name text output : List ℕ} {old new : Names} (update : Result Update ReplaceError) →
    ((o : TextOptions) → IsPlanned args.plan o → ListsAsRead o (mode_of args) text) → AddsListed (listed_by (mode_of args) false args.list_hidden name text output) old new update →
    ListsTextInto args name text output old new update
lists_itself args {name = name} {text = text} {output = output} update h adds = record {
  listed = listed_by (mode_of args) false args.list_hidden name text output;
  lists = λ o p. whatever update (by_itself (h o p));
  adds = adds;
}

-- A text that is listed by the folded text.
pub lists_folded : (args : Arguments) {name text output lines names : List ℕ} {old new : Names} (update : Result Update ReplaceError) →
    ((o : TextOptions) → IsPlanned args.plan o → (lines ≡ folded_text text) × ListsFolded o (mode_of args) text names) →
    AddsListed (listed_by (mode_of args) true args.list_hidden name lines names) old new update → ListsTextInto args name text output old new update
lists_folded args {name = name} {text = text} {output = output} {lines = lines} {names = names} update h adds = record {
  listed = listed_by (mode_of args) true args.list_hidden name lines names;
  lists = λ o p. whatever update (subst (λ (x : List ℕ). ListsText o (mode_of args) args.list_hidden name text output (listed_by (mode_of args) true args.list_hidden name x names))
      (sym (h o p).0) (by_folded names (h o p).1));
  adds = adds;
}

-- The folded text has a fault.
pub read_faulty : (o : TextOptions) (mode : Mode) {text lines seen : List ℕ} {e : ReplaceError} {f : RunFault} → lines ≡ folded_text text → seen ≡ lines → e ≡ Text f →
    FailsUnpruned o.run seen e → ListsAsRead o mode text
read_faulty o mode {seen = seen} {f = f} is eq fault h =
    fold_faulty (subst (λ (x : List ℕ). FailsUnpruned o.run x (Text f)) (eq ∙ is) (subst (λ (x : ReplaceError). FailsUnpruned o.run seen x) fault h))

-- Nothing was added, since memory couldn't be allocated.
pub lists_nothing : (args : Arguments) {name text output : List ℕ} (names : Names) → ListsTextInto args name text output names names (Err OutOfMemory)
lists_nothing args names = record { listed = nothing_listed; lists = λ o p. tt; adds = (refl, ([], grind (arith, append-nil))) }

-- A list was added, or nothing.
pub added : (b : Bool) (old more : List ℕ) → (if b then old ++ more else old) ≡ old ++ (if b then more else [])
added true old more = refl
added false old more = sym (append-nil old)

-- The diff of a text and its output is the diff of the outcome.
pub has_diff : (o : TextOptions) (name text output diff : List ℕ) {edited : ℕ} → RunsOver o text output true edited → IsDiff name text output diff → HasDiff o name text diff edited
has_diff o name text output diff h is = grind arith

-- Nothing was written of a file.
pub shows_none : {args : Arguments} {plan : TextPlan} {into : Bool} {r r' : ReportState} {outputs : List Output}
    {name text : List ℕ} {calls calls' : List Call} {update : Result Update ReplaceError} (out : Stream) →
    ReadsOne name text calls calls' →
    ((o : TextOptions) → IsPlanned plan o → ShowsFile o into name calls calls' update [] no_edits outputs) →
    FindsAll args (text ∷ []) outputs r r' →
    WritesOne args (ShowsOne plan into) name (record { calls = calls; out = out; report = r })
    (record { calls = calls'; out = out; report = r' }) (unedited update) nothing_listed
shows_none {outputs = outputs} {text = text} out read h finds = record {
  shown = [];
  outputs = outputs;
  texts = text ∷ [];
  lost = false;
  loses = λ whole. refl;
  does = λ told. record { text = text; is_text = refl; reads = read; shows = h };
  sent = sends_none out;
  finds = finds;
}

-- A file whose output differs is shown by its diff.
pub shows_changed : (o : TextOptions) (into : Bool) (name text output diff : List ℕ) (edits : Edits) (stat : FileStat) (calls calls' : List Call) →
    WasRead name text stat calls calls' → RunsOver o text output true edits.conditions → (stat.links ≤ 1) ⊎ (into ≡ true) →
    IsDiff name text output diff → edits.lines ≡ removed_by Replaced text output →
    ShowsFile o into name calls calls' (Ok Replaced) diff edits (made name output)
unfolding has_diff
shows_changed o into name text output diff edits stat calls calls' was h may diffs fewer =
    changed text output diff edits stat was may (has_diff o name text output diff h diffs) h.output_is fewer
