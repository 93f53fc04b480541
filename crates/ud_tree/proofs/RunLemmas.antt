-- One file more of a run.
use Rattle.std.proofs.Common.{◌≡◌, ℕ, ◌+◌, ◌<◌, ◌≤◌, List, [], ◌∷◌, ◌++◌, length, get_or, map, take, cond, inl, inr, refl, sym, ap, ◌∙◌, subst, append-nil, Bool, true, false, ◌||◌, Result, min, ◌-◌, ◌^◌, arith}
use mir.Val.{bool_byte}
use Rattle.std.proofs.lemmas.List.{take_more, take_all, map-append}
use Rattle.std.proofs.lemmas.List.Sums.{sum_by_push}
use Rattle.std.proofs.lemmas.Grind.{flat_map-append, common_steps}
use Rattle.std.specs.Prelude.{count_by, string_bytes}
use Rattle.ud_replace.specs.declared.error.Update.{Update}
use Rattle.ud_replace.specs.declared.error.ReplaceError.{ReplaceError}
use Rattle.ud_replace.specs.Calls.{Call}
use Rattle.ud_tree.specs.declared.counts.Fate.{Fate}
use Rattle.ud_tree.specs.declared.counts.Counts.{Counts}
use Rattle.ud_tree.specs.declared.counts.Edits.{Edits}
use Rattle.ud_tree.specs.declared.find_files.Walked.{Walked}
use Rattle.ud_tree.specs.declared.last_lines.Processed.{Processed}
use Rattle.ud_tree.specs.declared.walk.Found.{Found}
use Rattle.ud_tree.specs.declared.arguments.Arguments.{Arguments}
use Rattle.ud_tree.specs.declared.arguments.Task.{Task}
use Rattle.ud_tree.specs.declared.arguments.Task.TheVariants.{Names}
use Rattle.ud_tree.specs.declared.file_result.Done.{Done}
use Rattle.ud_tree.specs.Fates.{fate_of, is_changed, is_same, is_faulty, no_edits, unedited}
use Rattle.ud_tree.specs.Runs.{FileResult, Unshown, EachFile, no_file, then_file, changed_in, faulty_in, edited_in, removed_in, told_of, Counted, names_of, nothing_listed, listed_of, lost_in, outputs_of, texts_of}
use Rattle.ud_tree.specs.Remainders.{FindsAll, listing_of, list_of, count_of, defined_of}
use Rattle.ud_tree.specs.Unnamed.{Seeks}
use Rattle.ud_tree.specs.Others.{FindsOthers, others_list}
use Rattle.ud_tree.proofs.RemainderLemmas.{finds_none, finds_kept, finds_then, finds_same, names_left}
use Rattle.ud_tree.specs.Statuses.{tree_status}
use Rattle.ud_tree.specs.Streams.{Source, ends_of}
use Rattle.ud_io.specs.Streams.{Stream, Sends}
use Rattle.ud_tree.specs.declared.job.Job.{Job}
use Rattle.ud_tree.specs.Reports.{ReportState, new_report, IsPlain, KeepsScreen, Says, Writes, Tells, TellsOf}
use Rattle.ud_tree.specs.Messages.{IsTold, TellsIf, list_message, write_message, output_messages}
use Rattle.ud_tree.specs.Summaries.{last_lines, still_unnamed}
use Rattle.ud_tree.specs.Unmatched.{LeavesRules, rule_lines}
use Rattle.ud_tree.proofs.MessageLemmas.{output_told, output_count}
use Rattle.ud_tree.proofs.ReportLemmas.{tells_none, tells_then, tells_same, writes_kept, writes_then}
use Rattle.ud_tree.specs.WalkMessages.{joined, StopsWalk, FindsFiles}
use Rattle.ud_passes.specs.declared.names.Names.{Names as NameLists}
use Rattle.ud_passes.specs.names.NameTables.{names_in, Tabulates}
use Rattle.ud_passes.specs.remaining.RemainingLists.{RemainingState}
use Rattle.ud_replace.specs.declared.text_plan.TextPlan.{TextPlan}
use Rattle.ud_tree.specs.Lists.{Adds, ListsInto}
use Rattle.ud_tree.specs.Shown.{ListsOne}
use Rattle.ud_tree.specs.Writing.{Moment, Stage, WritesOne, ProcessesOne, WritesAll, WritesList, TellsEnd, end_of}
use Rattle.ud_tree.specs.TreeRuns.{Ending, DoesBy, DoesOne, DoesFiles, Ends, EndsWriting, RunsTree}
use Rattle.ud_tree.proofs.DoneLemmas.{still_failed, done_later}
use Rattle.ud_io.proofs.StreamLemmas.{sends_none, sends_then, sends_same}
use Rattle.std.proofs.lemmas.List.Folds.{list_any-append}
use Rattle.unifdef.proofs.HeadlineLemmas.{false_before}

-- One file more is counted, if its fate passes the test.
pub count_push : (p : Fate → Bool) (results : List FileResult) (r : FileResult) →
    count_by (λ s. p (fate_of s.update)) (results ++ r ∷ []) ≡ count_by (λ s. p (fate_of s.update)) results + cond (p (fate_of r.update)) 1 0
count_push p results r = sum_by_push (λ (s : FileResult). cond (p (fate_of s.update)) 1 0) results r

-- No file has been processed yet.
counted_none : {P : List ℕ → List Call → List Call → FileResult → Type 0} {old : List Call} (counts : Counts) →
    counts.changed ≡ 0 → counts.unchanged ≡ 0 → counts.faulty ≡ 0 → counts.edits ≡ no_edits → Counted P old [] old counts [] []
counted_none counts a b c d =
    record {
      results = [];
      each = no_file;
      counts_are = record {
        changed = a;
        unchanged = b;
        faulty = c;
        edited = λ small. ap (λ (e : Edits). e.conditions) d;
        removed = λ small. ap (λ (e : Edits). e.lines) d;
      };
      shown_is = refl;
      told_is = refl;
    }

-- A number of one file more is counted.
pub number_push : (s t b n a : ℕ) → t ≡ s + n → (s < 2 ^ 64 → b ≡ s) → (b + n < 2 ^ 64 → a ≡ b + n) → t < 2 ^ 64 → a ≡ t
number_push s t b n a e f g small = grind arith

-- One file more is processed and counted.
counted_push : {P : List ℕ → List Call → List Call → FileResult → Type 0} {old mid new : List Call} {before : Counts} {shown told : List ℕ}
    (files : List Found) (i : ℕ) (f : Found) (name : List ℕ) (r : FileResult) (after : Counts) → i < length files → f ≡ get_or files i f →
    name ≡ string_bytes f.path → Counted P old (names_of (take i files)) mid before shown told → P name mid new r → IsTold name r.update r.told →
    after.changed ≡ before.changed + cond (is_changed (fate_of r.update)) 1 0 →
    after.unchanged ≡ before.unchanged + cond (is_same (fate_of r.update)) 1 0 →
    after.faulty ≡ before.faulty + cond (is_faulty (fate_of r.update)) 1 0 →
    (before.edits.conditions + r.edits.conditions < 2 ^ 64 → after.edits.conditions ≡ before.edits.conditions + r.edits.conditions) →
    (before.edits.lines + r.edits.lines < 2 ^ 64 → after.edits.lines ≡ before.edits.lines + r.edits.lines) →
    Counted P old (names_of (take (i + 1) files)) new after (shown ++ r.shown) (told ++ r.told)
counted_push {P = P} {old = old} {mid = mid} {new = new} {before = before} {shown = shown} files i f name r after within is named h p t a b c d e =
    let named_names : names_of (take i files) ++ name ∷ [] ≡ names_of (take (i + 1) files) =
    ap (λ (n : List ℕ). names_of (take i files) ++ n ∷ []) named ∙ sym (grind (arith, common_steps, take_more, map-append, within, is)) in
    let each : EachFile P old (names_of (take i files) ++ name ∷ []) new (h.results ++ r ∷ []) = then_file h.each p t in
    let k = h.counts_are in
    record {
      results = h.results ++ r ∷ [];
      each = subst (λ (ns : List (List ℕ)). EachFile P old ns new (h.results ++ r ∷ [])) named_names each;
      counts_are = record {
        changed = a ∙ ap (λ (n : ℕ). n + cond (is_changed (fate_of r.update)) 1 0) k.changed ∙ sym (count_push is_changed h.results r);
        unchanged = b ∙ ap (λ (n : ℕ). n + cond (is_same (fate_of r.update)) 1 0) k.unchanged ∙ sym (count_push is_same h.results r);
        faulty = c ∙ ap (λ (n : ℕ). n + cond (is_faulty (fate_of r.update)) 1 0) k.faulty ∙ sym (count_push is_faulty h.results r);
        edited =
            number_push (edited_in h.results) (edited_in (h.results ++ r ∷ [])) before.edits.conditions
            r.edits.conditions after.edits.conditions (sum_by_push (λ (s : FileResult). s.edits.conditions) h.results r)
            k.edited d;
        removed =
            number_push (removed_in h.results) (removed_in (h.results ++ r ∷ [])) before.edits.lines r.edits.lines
            after.edits.lines (sum_by_push (λ (s : FileResult). s.edits.lines) h.results r) k.removed e;
      };
      shown_is = ap (λ (x : List ℕ). x ++ r.shown) h.shown_is ∙ sym (grind (arith, common_steps, flat_map-append));
      told_is = ap (λ (x : List ℕ). x ++ r.told) h.told_is ∙ sym (grind (arith, common_steps, flat_map-append));
    }

-- Nothing was added.
pub adds_none : (lists : NameLists) → Adds lists lists nothing_listed
adds_none lists = grind (arith, common_steps)

-- No file has been processed, and nothing was written.
pub writes_none : {args : Arguments} {P : List ℕ → List Call → List Call → FileResult → Type 0} {m : Stage} (lists : NameLists) (counts : Counts) →
    counts.changed ≡ 0 → counts.unchanged ≡ 0 → counts.faulty ≡ 0 → counts.edits ≡ no_edits → WritesAll args P m [] m counts lists lists
unfolding counted_none
writes_none {m = m} lists counts a b c d =
    record {
      shown = [];
      told = [];
      counted = counted_none counts a b c d;
      sent = sends_none m.out;
      writes = (tells_none m.report).writes;
      adds = adds_none lists;
      finds = finds_none refl (λ lost. lost) refl;
      loses = λ whole. refl;
    }

-- Nothing was lost of one file more.
none_lost : (results : List FileResult) (r : FileResult) → lost_in results ≡ false → r.lost ≡ false → lost_in (results ++ r ∷ []) ≡ false
none_lost results r none whole = list_any-append (λ q. q.lost) results (r ∷ []) ∙ ap (λ b. b || (r.lost || false)) none ∙ ap (λ b. false || (b || false)) whole

finds_push : {args : Arguments} {a b c : ReportState} (results : List FileResult) (r : FileResult) → FindsAll args (texts_of results) (outputs_of results) a b → FindsAll args r.texts r.outputs b c →
    FindsAll args (texts_of (results ++ r ∷ [])) (outputs_of (results ++ r ∷ [])) a c
finds_push results r h k =
    finds_same (grind (arith, common_steps, flat_map-append)) (grind (arith, common_steps, flat_map-append)) (finds_then (texts_of results) r.texts (outputs_of results) r.outputs h k)

-- One file more is processed, and what is shown and told of it was written, after the number of
-- files was shown.
pub writes_push : {args : Arguments} {P : List ℕ → List Call → List Call → FileResult → Type 0} {old mid new : Stage} {next_report file_report : ReportState} {before : Counts}
    {lists mid_lists new_lists : NameLists}
    (files : List Found) (i : ℕ) (f : Found) (name : List ℕ) (one : Done) (fate : Fate) (after : Counts) → i < length files → f ≡ get_or files i f →
    name ≡ string_bytes f.path → WritesAll args P old (names_of (take i files)) mid before lists mid_lists → Tells mid.report next_report [] → KeepsScreen next_report file_report →
    ProcessesOne args P name (record mid { report = next_report }) (record new { report = file_report }) one
    mid_lists new_lists → TellsOf (IsTold name one.update) file_report new.report → fate ≡ fate_of one.update →
    after.changed ≡ before.changed + cond (is_changed fate) 1 0 →
    after.unchanged ≡ before.unchanged + cond (is_same fate) 1 0 →
    after.faulty ≡ before.faulty + cond (is_faulty fate) 1 0 →
    (before.edits.conditions + one.edits.conditions < 2 ^ 64 → after.edits.conditions ≡ before.edits.conditions + one.edits.conditions) →
    (before.edits.lines + one.edits.lines < 2 ^ 64 → after.edits.lines ≡ before.edits.lines + one.edits.lines) →
    WritesAll args P old (names_of (take (i + 1) files)) new after lists new_lists
unfolding counted_push
writes_push files i f name one fate after within is named h progress screen p t e a b c d l =
    let w = p.writes in
    let result : FileResult = record { update = one.update; shown = w.shown; told = t.message; edits = one.edits; listed = p.listed; outputs = w.outputs; texts = w.texts; lost = w.lost } in
    let later = finds_then [] w.texts [] w.outputs (finds_kept progress.keeps)
    (finds_same (append-nil w.texts) (append-nil w.outputs) (finds_then w.texts [] w.outputs [] w.finds (finds_kept t.tells.keeps))) in
    record {
      shown = h.shown ++ w.shown;
      told = h.told ++ t.message;
      counted = counted_push files i f name result after within is named h.counted (w.does t.message) t.is_of (rw e at a) (rw e at b) (rw e at c) d l;
      sent = sends_then h.sent w.sent;
      writes = writes_then h.writes (writes_then (writes_then progress.writes (writes_kept screen)) t.tells.writes);
      adds = grind (arith, common_steps, flat_map-append, sum_by_push, h.adds, p.adds);
      finds = finds_push h.counted.results result h.finds later;
      loses = λ whole. none_lost h.counted.results result (h.loses (false_before later.kept whole)) (w.loses (sym t.tells.keeps.lost ∙ whole));
    }

-- All files are processed, and what is shown and told of them was written.
pub writes_all : {args : Arguments} {P : List ℕ → List Call → List Call → FileResult → Type 0} {old new : Stage} {counts : Counts} {lists lists' : NameLists} (files : List Found) (i : ℕ) →
    i ≡ length files → WritesAll args P old (names_of (take i files)) new counts lists lists' → WritesAll args P old (names_of files) new counts lists lists'
writes_all files i is h = grind (arith, take_all)

-- A file was processed of which nothing is shown.
pub lists_unshown : {args : Arguments} {plan : TextPlan} {lists : Bool} {name : List ℕ} {calls calls' : List Call}
    {old new : NameLists} {update : Result Update ReplaceError} (out : Stream) (r : ReportState) →
    ListsInto plan lists name calls calls' old new update →
    ProcessesOne args (Unshown (ListsOne plan lists)) name (record { calls = calls; out = out; report = r })
    (record { calls = calls'; out = out; report = r }) (unedited update) old new
lists_unshown out r h = record {
  listed = h.listed;
  writes =
      record {
        shown = [];
        outputs = [];
        texts = [];
        lost = false;
        loses = λ whole. refl;
        does = λ told. record { does = h.does; nothing = refl; unedited = refl; no_output = refl; no_text = refl };
        sent = sends_none out;
        finds = finds_none refl (λ lost. lost) refl;
      };
  adds = h.adds;
}

-- A file was processed of which nothing is listed.
pub unlisted_one : {args : Arguments} {P : List ℕ → List Call → List Call → FileResult → Type 0} {name : List ℕ}
    {before after : Stage} {one : Done} (lists : NameLists) → WritesOne args P name before after one nothing_listed →
    ProcessesOne args P name before after one lists lists
unlisted_one lists h = record { listed = nothing_listed; writes = h; adds = adds_none lists }

-- The task of the arguments does what they ask for.
pub done_by : (t : Task) (args : Arguments) {name : List ℕ} {before after : Stage} {one : Done} {lists lists' : NameLists} →
    args.task ≡ t → ProcessesOne args (DoesBy t args) name before after one lists lists' → ProcessesOne args (DoesOne args) name before after one lists lists'
done_by t args is h = grind arith

-- A list was written, if it is wanted.
pub writes_list : (args : Arguments) (lists : NameLists) (lost : Bool) {a b c : Stream} (names rest : List ℕ) → (¬ (args.task ≡ Names) → names ≡ []) →
    (args.task ≡ Names → lost ≡ false → Tabulates (names_in lists.list.items) lists.hidden_list.items names) → Sends a b names →
    Sends b c (cond args.list_remaining rest []) → WritesList args lists rest lost a c
writes_list args lists lost names rest none table h k = record {
  listed = names ++ cond args.list_remaining rest [];
  table = λ is off whole.
      subst (λ (x : List ℕ). Tabulates (names_in lists.list.items) lists.hidden_list.items x)
      (sym (append-nil names) ∙ ap (λ (b : Bool). names ++ cond b rest []) (sym off)) (table is whole);
  is_wanted = λ other off. ap (λ (x : List ℕ). x ++ cond args.list_remaining rest []) (none other) ∙ ap (λ (b : Bool). cond b rest []) off;
  remains = λ other on. ap (λ (x : List ℕ). x ++ cond args.list_remaining rest []) (none other) ∙ ap (λ (b : Bool). cond b rest []) on;
  sent = sends_then h k;
}

-- The number after none.
counted_from : {old new : ℕ} (n : ℕ) → old ≡ 0 → (old + n < 2 ^ 64 → new ≡ old + n) → n < 2 ^ 64 → new ≡ n
counted_from n none h small = let sum = h (omega (arith, none, small)) in omega (arith, none, sum)

-- Nothing is listed, whether a list is wanted or not.
by_list : (b : Bool) {wanted : Bool} {listed : List ℕ} → wanted ≡ b → (wanted ≡ false → listed ≡ []) → (wanted ≡ true → listed ≡ []) → listed ≡ []
by_list true is off on = on is
by_list false is off on = off is

-- The report of a run before its first message.
abbrev begun : Job → Stream → ReportState
begun job err = new_report job.is_terminal (listing_of job.arguments.now) err

plain_begun : (job : Job) (err : Stream) → job.is_terminal ≡ false → IsPlain (begun job err)
plain_begun job err is = record { no_terminal = is; unshown = refl }

-- Bytes were written since then.
sent_begun : (job : Job) {err : Stream} {first r : ReportState} {x : List ℕ} → first ≡ begun job err → Writes first r x → job.is_terminal ≡ false → Sends err r.err x
sent_begun job {err = err} {r = r} {x = x} is h p = (subst (λ (q : ReportState). Writes q r x) is h).sent (plain_begun job err p)

-- The lines of the arguments of `-g` were written after the others.
rules_sent : (args : Arguments) (rules : List (List ℕ)) {last after : ReportState} (b : Bool) → args.quiet ≡ b → (args.quiet ≡ false → last.is_shown ≡ false) →
    (last.is_shown ≡ false → Says last after (rule_lines args rules)) → (args.quiet ≡ true → after ≡ last) → Sends last.err after.err (rule_lines args rules)
rules_sent args rules {last = last} {after = after} true quiet unshown said same =
    rw quiet (subst (λ (r : ReportState). Sends last.err r.err []) (sym (same quiet)) (sends_none last.err))
rules_sent args rules {last = last} {after = after} false loud unshown said same =
    let h = said (unshown loud) in
    subst (λ (s : Stream). Sends s after.err (rule_lines args rules)) (h.unshown (unshown loud)) h.sent

-- The run ends with the status of its counts.
pub ends : (job : Job) (walked : Walked) (p : Processed) {old new : Moment} {mid : Stage} {listed ended : Stream}
    {seek_report sought_report list_report end_report last_report rules_report : ReportState} (lost unwritten : Bool)
    (status : ℕ) (start lists : NameLists) → start.list.items ≡ [] → start.hidden ≡ 0 →
    start.hidden_list.items ≡ [] → p.hidden ≡ lists.hidden → (lost ≡ false → sought_report.lacks_memory ≡ false) →
    Seeks job.arguments.now (begun job old.err) seek_report →
    DoesFiles job walked.files.items (record { calls = old.calls; out = old.out; report = seek_report }) mid p.counts start
    lists → FindsOthers job.arguments.now mid.out.failed walked.files.items mid.calls new.calls mid.report sought_report p.others →
    WritesList job.arguments.now lists sought_report.remaining.list lost mid.out listed →
    TellsIf list_message lost sought_report list_report → Sends listed ended (others_list p.others.named.items) → Sends ended new.out [] → unwritten ≡ new.out.failed →
    (new.out.failed ≡ false → new.out.unflushed ≡ false) → TellsIf write_message unwritten list_report end_report →
    TellsEnd job.arguments.now p end_report last_report → (job.arguments.now.quiet ≡ false → last_report.is_shown ≡ false) →
    (last_report.is_shown ≡ false → Says last_report rules_report (rule_lines job.arguments.now (map (λ r. r.items) walked.rules.items))) → (job.arguments.now.quiet ≡ true → rules_report ≡ last_report) → new.err ≡ rules_report.err →
    p.counts.faulty ≤ p.faults →
    (walked.faults + (cond lost 1 0 + cond unwritten 1 0) + p.counts.faulty < 2 ^ 64 →
    p.faults ≡ walked.faults + (cond lost 1 0 + cond unwritten 1 0) + p.counts.faulty) → (unheard : Bool) →
    unheard ≡ new.err.failed →
    status ≡ tree_status job.arguments.now.task job.arguments.now.plan.run.settings.exit_mode unheard p.faults
    p.counts.changed → EndsWriting job walked old new status
ends job walked p {old = old} {new = new} {mid = mid} {seek_report = seek_report} {sought_report = sought_report} {end_report = end_report} lost unwritten
    status start lists no_name none no_condition hidden_now whole_report sought_now d o l t s f failed flushed u e unshown said silent stream few all
    unheard heard is =
    let w = d.does in
    let h = w.counted in
    let args = job.arguments.now in
    let rules = map (λ r. r.items) walked.rules.items in
    let others = others_list p.others.named.items in
    let of_output = joined (output_messages lost unwritten) in
    let both = tells_same (sym (output_told lost unwritten)) (tells_then t u) in
    let left = end_report.remaining in
    let q = sought_now in
    let before = writes_then (writes_kept q.screen) w.writes in
    let finds = finds_same (append-nil (texts_of h.results)) (append-nil (outputs_of h.results))
    (finds_then (texts_of h.results) [] (outputs_of h.results) [] w.finds (finds_none {new = sought_report} o.remaining o.kept o.unnamed)) in
    let last = end_of args p end_report ++ rule_lines args rules in
    let ruled = rules_sent args rules args.quiet refl unshown said silent in
    let all_names = w.adds.names ∙ ap (λ (x : List ℕ). x ++ (listed_of h.results).names) no_name in
    let all_hidden = w.adds.hidden_list ∙ ap (λ (x : List ℕ). x ++ (listed_of h.results).hidden_list) no_condition in
    record {
      ending = record { streams = ends_of new.out new.err; shown = w.shown ++ l.listed ++ others; told = (w.told ++ of_output) ++ last; last = last; status = status };
      ends = record {
        mid = mid.calls;
        does = record {
          done = d.done;
          is_done = done_later (λ is. still_failed f (still_failed s (still_failed l.sent is))) d.is_done;
          results = h.results;
          each = h.each;
        };
        is_lost = lost;
        tally = record { faults = p.faults; hidden = p.hidden; edits = p.counts.edits; remaining = left.count; defined = left.defined; unnamed = still_unnamed args end_report.unnamed; others = p.others; rules = rules };
        failed = mid.out.failed;
        stays_failed = λ is. still_failed f (still_failed s (still_failed l.sent is));
        seeks = record { touches = o.seeks.touches; unsought = o.seeks.unsought; found = λ whole. o.seeks.found (whole_report whole) };
        shows = record {
          listed = l.listed;
          shown_is = ap (λ (x : List ℕ). x ++ l.listed ++ others) h.shown_is;
          is_wanted = l.is_wanted;
          table = λ is off whole.
              subst (λ (x : List ℕ). Tabulates (names_in x) (listed_of h.results).hidden_list l.listed) all_names
              (subst (λ (x : List ℕ). Tabulates (names_in lists.list.items) x l.listed) all_hidden (l.table is off whole));
          remains = λ other on whole wanted calls represents.
              l.remains other on ∙ (finds.added (whole_report whole) wanted calls represents).list_is
              ∙ ap (λ (s : RemainingState). s.list ++ list_of calls s.listing args (outputs_of h.results)) q.remaining;
          unsearched = λ other off. by_list args.list_remaining refl (l.is_wanted other)
              (λ on. l.remains other on ∙ ap (λ (s : RemainingState). s.list) (finds.same off ∙ q.remaining));
          none_lost = λ whole. w.loses (false_before o.kept (whole_report whole));
        };
        totals = record {
          hidden = λ small. let sum = w.adds.hidden (omega (arith, none, small)) in omega (arith, hidden_now, none, sum);
          edited = h.counts_are.edited;
          removed = h.counts_are.removed;
          remaining = λ whole wanted calls represents small.
              ap (λ (s : RemainingState). s.count) both.keeps.remaining
              ∙ counted_from (count_of calls args (outputs_of h.results)) (ap (λ (s : RemainingState). s.count) q.remaining)
              (finds.added (whole_report whole) wanted calls represents).count_is small;
          none_remains = λ off. ap (λ (s : RemainingState). s.count) (both.keeps.remaining ∙ finds.same off ∙ q.remaining);
          defined = λ whole wanted calls represents small.
              ap (λ (s : RemainingState). s.defined) both.keeps.remaining
              ∙ counted_from (defined_of calls args (outputs_of h.results)) (ap (λ (s : RemainingState). s.defined) q.remaining)
              (finds.added (whole_report whole) wanted calls represents).defined_is small;
          none_defined = λ off. ap (λ (s : RemainingState). s.defined) (both.keeps.remaining ∙ finds.same off ∙ q.remaining);
          unnamed = λ whole calls represents.
              names_left calls args (texts_of h.results) seek_report.unnamed end_report.unnamed (q.marks refl (false_before finds.kept (whole_report whole)))
              (rw both.keeps.unnamed (finds.unnamed (whole_report whole) calls represents));
        };
        has_status = record {
          faults_are = subst (λ (b : Bool). walked.faults + length (output_messages lost b) + faulty_in h.results < 2 ^ 64 → p.faults ≡ walked.faults + length (output_messages lost b) + faulty_in h.results) failed
              (rw (output_count lost unwritten, ← h.counts_are.faulty) all);
          reported = rw (← h.counts_are.faulty) few;
          status_is = is ∙ ap (tree_status args.task args.plan.run.settings.exit_mode unheard p.faults) h.counts_are.changed
              ∙ ap (λ (b : Bool). tree_status args.task args.plan.run.settings.exit_mode b p.faults (changed_in h.results)) heard;
          flushed = flushed;
        };
        tells = record {
          told_is = ap (λ (x : List ℕ). (x ++ of_output) ++ last) h.told_is ∙ ap (λ (b : Bool). (told_of h.results ++ joined (output_messages lost b)) ++ last) failed;
          last_is = ap (λ (x : List ℕ). x ++ rule_lines args rules) (ap (λ (x : ℕ). last_lines args x p.counts.unchanged p.faults p.hidden p.counts.edits left.count left.defined (still_unnamed args end_report.unnamed) (names_of p.others.named.items) p.others.unsearched) h.counts_are.changed
              ∙ ap (λ (x : ℕ). last_lines args (changed_in h.results) x p.faults p.hidden p.counts.edits left.count left.defined (still_unnamed args end_report.unnamed) (names_of p.others.named.items) p.others.unsearched) h.counts_are.unchanged);
        };
      };
      rules_are = refl;
      written = record {
        status_is = refl;
        streams_are = refl;
        sent = sends_same (append-nil (w.shown ++ l.listed ++ others)) (sends_then (sends_then (sends_then w.sent l.sent) s) f);
        ended = rw stream (e.told.0, sends_then e.told.1 ruled);
        tells = λ plainly. let told = writes_then before (writes_then (writes_kept o.screen) both.writes) in let plain = plain_begun job old.err plainly in rw stream (sends_then (told.sent plain) (sends_then (e.alone (told.plain plain).unshown) ruled));
      };
    }

-- The run made only calls of a walk, and a message says why.
pub no_files : (job : Job) (given : Source) {left : Source} {old new : Moment} {first r : ReportState} → first ≡ begun job old.err → new.err ≡ r.err →
    StopsWalk job.arguments.now.from_input left old.calls new.calls first r → new.out ≡ old.out → RunsTree job given left old new 2
no_files job given {old = old} {new = new} is stream h same = record {
  messages = h.messages;
  ending = record { streams = ends_of new.out new.err; shown = []; told = h.told; last = []; status = 2 };
  is_run = inl (record { walk = h.walk; stops = h.stops; unshown = refl; no_last = refl; status_is = refl });
  written = record {
    status_is = refl;
    streams_are = refl;
    sent = subst (λ (s : Stream). Sends old.out s []) (sym same) (sends_none old.out);
    ended = (new.err, sends_none new.err);
    tells = λ p. rw stream (sent_begun job is h.tells.writes p);
  };
}

-- The faults of the walk have another number, which is the same unless it is too large.
ends_counted : {args : Arguments} {old new : List Call} {files : List Found} {ending : Ending} (n m : ℕ) → (m < 2 ^ 64 → n ≡ m) →
    Ends args n old files new ending → Ends args m old files new ending
ends_counted n m same h = record {
  mid = h.mid;
  does = h.does;
  is_lost = h.is_lost;
  tally = h.tally;
  failed = h.failed;
  stays_failed = h.stays_failed;
  seeks = h.seeks;
  shows = h.shows;
  totals = h.totals;
  has_status = record {
    faults_are = same_sum n m _ _ _ same h.has_status.faults_are;
    reported = h.has_status.reported;
    status_is = h.has_status.status_is;
    flushed = h.has_status.flushed;
  };
  tells = h.tells;
}
  where
    same_sum : (n m k l faults : ℕ) → (m < 2 ^ 64 → n ≡ m) → (n + k + l < 2 ^ 64 → faults ≡ n + k + l) → m + k + l < 2 ^ 64 → faults ≡ m + k + l
    same_sum n m k l faults same h small = let is : n ≡ m = same (omega arith) in let sum : faults ≡ n + k + l = h (omega arith) in omega arith

-- The run processed the files that the walk found.
pub ran_from : (job : Job) {given left : Source} {old mid new : Moment} {first r : ReportState}
    {walked : Walked} {status : ℕ} → first ≡ begun job old.err →
    mid.err ≡ r.err → FindsFiles job.arguments.now given left old.calls mid.calls first r walked →
    mid.out ≡ old.out → EndsWriting job walked mid new status → RunsTree job given left old new status
unfolding ends_counted
ran_from job {old = old} {mid = mid} {new = new} {walked = walked} first_is stream w same h = record {
  messages = w.reports.messages;
  ending = h.ending;
  is_run = inr (record {
    text = w.paths.text;
    mid = mid.calls;
    files = walked.files.items;
    takes = w.paths.takes;
    misses = w.paths.misses;
    is_walk = w.is_walk;
    walk = w.reports.walk;
    some = w.some;
    ends = ends_counted walked.faults (length w.reports.messages) (λ small.
        let none = ap (λ (q : ReportState). q.faulty) first_is in
        let number = w.faults_are in
        let counted = w.reports.counted (omega (arith, none, small)) in omega (arith, none, number, counted)) h.ends;
    leaves = subst (LeavesRules job.arguments.now old.calls mid.calls (length w.reports.messages)) (sym h.rules_are) w.leaves;
  });
  written = record {
    status_is = h.written.status_is;
    streams_are = h.written.streams_are;
    sent = subst (λ (s : Stream). Sends s new.out h.ending.shown) same h.written.sent;
    ended = h.written.ended;
    tells = λ p. sends_then (sent_begun job first_is w.reports.tells.writes p) (rw stream at (h.written.tells p));
  };
}

-- Faults that are added up, of which two are 0 or 1.
pub faults_added : (p q : Bool) (walk files a b c d faults : ℕ) → a ≡ bool_byte p → b ≡ min (walk + a) (2 ^ 64 - 1) → c ≡ bool_byte q → d ≡ min (b + c) (2 ^ 64 - 1) →
    faults ≡ min (d + files) (2 ^ 64 - 1) → walk + (cond p 1 0 + cond q 1 0) + files < 2 ^ 64 → faults ≡ walk + (cond p 1 0 + cond q 1 0) + files
faults_added p q walk files a b c d faults e f g h = grind arith
