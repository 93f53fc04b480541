-- The calls of a whole run: what they touch, the files after each of them, and the diffs.
use Rattle.std.proofs.Common.{◌≡◌, ◌⊎◌, inl, inr, ℕ, ◌<◌, List, [], ◌∷◌, ◌++◌, length, get_or, map, Bool, true, false, Option, Some, Result, sym, ◌∙◌, subst, true≢false, ap, arith, append_assoc, length-append}
use Rattle.std.proofs.lemmas.Grind.{common_steps}
use Rattle.ud_tree.specs.declared.other_files.Others.{Others}
use Rattle.std.proofs.lemmas.List.{get_or_append_left, get_or-append_right, get_or-map, length-map}
use Rattle.std.proofs.lemmas.List.Elements.{Contains-append_left, Contains-push}
use Rattle.std.specs.List.{Contains, AllPairs}
use Rattle.std.specs.Prelude.{string_bytes}
use Rattle.std.proofs.lemmas.Cmp.{tied_itself, nat_list_cmp_total}
use Rattle.ud_replace.specs.declared.text_plan.TextPlan.{TextPlan}
use Rattle.ud_replace.specs.TextOutcomes.{TextOptions, IsPlanned}
use Rattle.ud_replace.specs.declared.error.Update.{Update}
use Rattle.ud_replace.specs.declared.error.ReplaceError.{ReplaceError}
use Rattle.ud_replace.specs.Calls.{Call, walked, WalkCall}
use Rattle.ud_replace.specs.Moments.{Files, content, AreTrue, EachCall, no_call, then_call, HasOutput, OldOrNew, touches, after, TouchesFreshOnly}
use Rattle.ud_replace.proofs.MomentLemmas.{old_or_new}
use Rattle.ud_replace.proofs.RenameLemmas.{one_rename}
use Rattle.ud_tree.specs.declared.arguments.Arguments.{Arguments}
use Rattle.ud_tree.specs.declared.arguments.Task.{Task}
use Rattle.ud_tree.specs.declared.arguments.Task.TheVariants.{Replace, Diff, Names}
use Rattle.ud_tree.specs.declared.walk.Found.{Found}
use Rattle.ud_tree.specs.Changes.{ReplacesShowing}
use Rattle.ud_tree.specs.Others.{SeeksOthers, seeks_others, others_list}
use Rattle.ud_tree.specs.Runs.{ReadsOne, reads, FileResult, Unshown, ReplacesOne, replaces, no_name, EachFile, no_file, then_file, names_of}
use Rattle.ud_tree.specs.Shown.{ShowsOne, ListsOne}
use Rattle.ud_tree.specs.TreeRuns.{DoesBy, IsRun, Run}
use Rattle.ud_tree.specs.TreeDiffs.{ShowsAs, ShowsDiffs, no_diff, diffs}
use Rattle.ud_tree.specs.Walks.{IsBefore}
use Rattle.ud_tree.proofs.DoneLemmas.{done_before}
use Rattle.ud_tree.specs.TreeMoments.{TouchesNothing, TouchesFreshOrNone, OldOrOutput}

-- A fact about each call of two parts holds of each call of both.
pub each_then : {P : Call → List Call → Type 0} {old mid new : List Call} → EachCall P old mid → EachCall P mid new → EachCall P old new
each_then h no_call = h
each_then h (then_call k p) = then_call (each_then h k) p

each_weaker : {P Q : Call → List Call → Type 0} {old new : List Call} → ((c : Call) (earlier : List Call) → P c earlier → Q c earlier) →
    EachCall P old new → EachCall Q old new
each_weaker w no_call = no_call
each_weaker w (then_call {c = c} {calls = calls} h p) = then_call (each_weaker w h) (w c calls p)

pub each_at : {P : Call → List Call → Type 0} {old calls new : List Call} → new ≡ calls → EachCall P old calls → EachCall P old new
each_at {P = P} {old = old} e h = subst (λ (l : List Call). EachCall P old l) (sym e) h

-- The calls of a walk touch no file.
pub walk_touches : (calls : List WalkCall) (old : List Call) → EachCall TouchesNothing old (map walked calls ++ old)
walk_touches [] old = no_call
walk_touches (w ∷ calls) old = then_call (walk_touches calls old) (λ n h. true≢false (sym h))

-- Reading a file touches none.
pub read_touches : {name text : List ℕ} {old new : List Call} → ReadsOne name text old new → EachCall TouchesNothing old new
read_touches {name = name} {text = text} {old = old} (reads answer is) =
    let start : EachCall TouchesNothing old old = no_call in
    each_at is (then_call start (λ n t. true≢false (sym t)))

-- Reading files touches none.
reads_touch : {P : List ℕ → List Call → List Call → FileResult → Type 0} → ((name : List ℕ) (old new : List Call) (result : FileResult) → P name old new result → EachCall TouchesNothing old new) →
    {old : List Call} {names : List (List ℕ)} {new : List Call} {results : List FileResult} → EachFile P old names new results → EachCall TouchesNothing old new
reads_touch w no_file = no_call
reads_touch w (then_file {mid = mid} {next = next} {name = name} {result = result} h k t) = each_then (reads_touch w h) (w name mid next result k)

shows_touch : {plan : TextPlan} {into : Bool} {old : List Call} {names : List (List ℕ)} {new : List Call}
    {results : List FileResult} → EachFile (ShowsOne plan into) old names new results → EachCall TouchesNothing old new
shows_touch h = reads_touch (λ name old new result k. read_touches k.reads) h

lists_touch : {plan : TextPlan} {lists : Bool} {old : List Call} {names : List (List ℕ)} {new : List Call}
    {results : List FileResult} → EachFile (Unshown (ListsOne plan lists)) old names new results →
    EachCall TouchesNothing old new
lists_touch h = reads_touch (λ name old new result k. read_touches k.does.reads) h

pub run_reads : (run : Run) → ¬ (run.args.task ≡ Replace) → IsRun run →
    EachCall TouchesNothing run.old run.new
run_reads run other (inl h) = each_at h.walk.are (walk_touches h.walk.calls run.old)
run_reads run other (inr h) = each_then (each_at h.is_walk.are (walk_touches h.is_walk.calls run.old))
    (each_then (grind (arith, shows_touch, lists_touch, other, h.ends.does.each)) h.ends.seeks.touches)

-- Replacing a file touches no file but the new one, up to the rename.
replace_touches : {o : TextOptions} {plan : TextPlan} {name text : List ℕ} {old new : List Call} {update : Result Update ReplaceError} → IsPlanned plan o →
    ReplacesOne plan false name text old new update → EachCall (TouchesFreshOrNone o) old new
replace_touches {o = o} {name = name} {text = text} {old = old} {new = new} p (replaces r id fresh is h) =
    each_weaker (λ c earlier t. inr (name, old, subst (λ (f : List ℕ). TouchesFreshOnly o name f old c earlier) is t))
    (one_rename o id name fresh text old new r (h o p))
replace_touches p (no_name none is) = each_at is no_call

replaces_touch : {o : TextOptions} {plan : TextPlan} {shows : Bool} {old : List Call} {names : List (List ℕ)} {new : List Call} {results : List FileResult} → IsPlanned plan o →
    EachFile (ReplacesShowing plan false shows) old names new results → EachCall (TouchesFreshOrNone o) old new
replaces_touch p no_file = no_call
replaces_touch p (then_file h k t) = each_then (replaces_touch p h) (replace_touches p k.does)

nothing_touched : {o : TextOptions} {old new : List Call} → EachCall TouchesNothing old new → EachCall (TouchesFreshOrNone o) old new
nothing_touched h = each_weaker (λ c earlier t. inl t) h

pub run_renames : (o : TextOptions) (run : Run) → IsPlanned run.args.plan o →
    run.args.write_into ≡ false → IsRun run → EachCall (TouchesFreshOrNone o) run.old run.new
run_renames o run p into (inl h) =
    nothing_touched (each_at h.walk.are (walk_touches h.walk.calls run.old))
run_renames o run p into (inr h) =
    each_then (nothing_touched (each_at h.is_walk.are (walk_touches h.is_walk.calls run.old)))
    (each_then (grind (arith, replaces_touch, nothing_touched, shows_touch, lists_touch, p, into, h.ends.does.each)) (nothing_touched h.ends.seeks.touches))

-- Calls that touch nothing leave each file as it is.
same_after : (c : Call) (f : Files) (n : List ℕ) → ¬ (touches c n ≡ true) → after c f n ≡ f n
same_after c f n t = grind arith

-- The files after some calls, of which some were replaced: each has its old bytes, or its output.
abbrev Later : TextOptions → List (List ℕ) → List ℕ → List ℕ → Option (List ℕ) → Type 0
Later o names n bytes found = (found ≡ Some bytes) ⊎ (Contains names n × HasOutput o bytes found)

abbrev OutputIn : TextOptions → Files → List Call → List (List ℕ) → List Call → Type 0
OutputIn o first old names calls = (n bytes : List ℕ) → content first old n ≡ Some bytes → Later o names n bytes (content first calls n)

-- All moments so far, and the last one.
record Moments (o : TextOptions) (first : Files) (old : List Call) (names : List (List ℕ)) (new : List Call) : Type 0 where
  each : EachCall (λ (c : Call) (earlier : List Call). OldOrOutput o first old (c ∷ earlier)) old new
  last : OutputIn o first old names new

forget : (o : TextOptions) (first : Files) (old : List Call) (names : List (List ℕ)) (calls : List Call) → OutputIn o first old names calls → OldOrOutput o first old calls
forget o first old names calls h n bytes e = grind arith

moments_none : (o : TextOptions) (first : Files) (old : List Call) → Moments o first old [] old
moments_none o first old = record { each = no_call; last = λ n bytes e. inl e }

-- Calls that touch nothing.
moments_still : {o : TextOptions} {first : Files} {old mid : List Call} {names : List (List ℕ)} {new : List Call} →
    Moments o first old names mid → EachCall TouchesNothing mid new → Moments o first old names new
moments_still m no_call = m
moments_still {o = o} {first = first} {old = old} {names = names} m (then_call {c = c} {calls = calls} h t) =
    let before = moments_still m h in
    let now : OutputIn o first old names (c ∷ calls) = λ n bytes e. still n bytes (before.last n bytes e) in
    record { each = then_call before.each (forget o first old names (c ∷ calls) now); last = now }
  where
    still : (n bytes : List ℕ) → Later o names n bytes (content first calls n) → Later o names n bytes (content first (c ∷ calls) n)
    still n bytes (inl same) = inl (same_after c (content first calls) n (t n) ∙ same)
    still n bytes (inr made) = inr (made.0, subst (λ (x : Option (List ℕ)). HasOutput o bytes x) (sym (same_after c (content first calls) n (t n))) made.1)

-- The name of the next file isn't among those before it.
abbrev IsNew : List (List ℕ) → List ℕ → Type 0
IsNew names name = ¬ (Contains names name)

-- After some files, one call more for the next file.
moment_more : (o : TextOptions) (first : Files) (old mid calls : List Call) (names : List (List ℕ)) (name : List ℕ) → IsNew names name →
    OutputIn o first old names mid → OldOrNew o name first mid calls → OutputIn o first old (names ++ name ∷ []) calls
moment_more o first old mid calls names name fresh before h n bytes e = either (before n bytes e)
  where
    here : n ≡ name → Contains (names ++ name ∷ []) n
    here is = subst (λ (m : List ℕ). Contains (names ++ name ∷ []) m) (sym is) (Contains-push names name)

    kept : (content first calls n ≡ Some bytes) ⊎ ((n ≡ name) × HasOutput o bytes (content first calls n)) → Later o (names ++ name ∷ []) n bytes (content first calls n)
    kept (inl same) = inl same
    kept (inr made) = inr (here made.0, made.1)

    done : Contains names n → (out : HasOutput o bytes (content first mid n)) →
        (content first calls n ≡ Some out.outcome.output) ⊎ ((n ≡ name) × HasOutput o out.outcome.output (content first calls n)) → Later o (names ++ name ∷ []) n bytes (content first calls n)
    done inside out (inl same) = inr (Contains-append_left names (name ∷ []) n inside, record { outcome = out.outcome; has = out.has; no_fault = out.no_fault; is_output = same })
    done inside out (inr made) = absurd (fresh (subst (λ (m : List ℕ). Contains names m) made.0 inside))

    either : Later o names n bytes (content first mid n) → Later o (names ++ name ∷ []) n bytes (content first calls n)
    either (inl same) = kept (h n bytes same)
    either (inr made) = done made.0 made.1 (h n made.1.outcome.output made.1.is_output)

-- After some files, all calls for the next file.
moments_more : {o : TextOptions} {first : Files} {old mid : List Call} {names : List (List ℕ)} (name : List ℕ) {new : List Call} → IsNew names name → Moments o first old names mid →
    EachCall (λ (c : Call) (earlier : List Call). OldOrNew o name first mid (c ∷ earlier)) mid new → Moments o first old (names ++ name ∷ []) new
moments_more {o = o} {first = first} {old = old} {mid = mid} {names = names} name fresh m no_call =
    record { each = m.each; last = moment_more o first old mid mid names name fresh m.last (λ n bytes e. inl e) }
moments_more {o = o} {first = first} {old = old} {mid = mid} {names = names} name fresh m (then_call {c = c} {calls = calls} h k) =
    let before = moments_more name fresh m h in
    let now = moment_more o first old mid (c ∷ calls) names name fresh m.last k in
    record { each = then_call before.each (forget o first old (names ++ name ∷ []) (c ∷ calls) now); last = now }

-- True answers up to the end were true before.
true_before : {P : Call → List Call → Type 0} (first : Files) {old new : List Call} → EachCall P old new → AreTrue first new → AreTrue first old
true_before first no_call t = t
true_before first (then_call h p) t = true_before first h t.1

-- No name is in the list twice.
abbrev Apart : List ℕ → List ℕ → Type 0
Apart a b = ¬ (a ≡ b)

pairs_before : (names : List (List ℕ)) (name : List ℕ) → AllPairs Apart (names ++ name ∷ []) → AllPairs Apart names
pairs_before names name h i j d below within =
    let both : Apart (get_or (names ++ name ∷ []) i d) (get_or (names ++ name ∷ []) j d) = h i j d below (grind (arith, length-append)) in
    let at_i : get_or (names ++ name ∷ []) i d ≡ get_or names i d = get_or_append_left names (name ∷ []) d i (omega arith) in
    let at_j : get_or (names ++ name ∷ []) j d ≡ get_or names j d = get_or_append_left names (name ∷ []) d j within in
    λ e. both (at_i ∙ e ∙ sym at_j)

last_is_new : (names : List (List ℕ)) (name : List ℕ) → AllPairs Apart (names ++ name ∷ []) → IsNew names name
last_is_new names name h inside = let k = inside.0 in
    let both : Apart (get_or (names ++ name ∷ []) k name) (get_or (names ++ name ∷ []) (length names) name) = h k (length names) name inside.1 (grind (arith, length-append)) in
    let at_k : get_or (names ++ name ∷ []) k name ≡ name = get_or_append_left names (name ∷ []) name k inside.1 ∙ inside.2 in
    let at_end : get_or (names ++ name ∷ []) (length names) name ≡ name = grind (arith, get_or-append_right names (name ∷ []) (length names) (length names) name) in
    both (at_k ∙ sym at_end)

-- One file more of a run.
moments_one : {o : TextOptions} {plan : TextPlan} {first : Files} {old : List Call} {names : List (List ℕ)}
    {mid next : List Call} {name text : List ℕ} {update : Result Update ReplaceError} → IsPlanned plan o → IsNew names name →
    ReplacesOne plan false name text mid next update → AreTrue first next →
    (AreTrue first mid → Moments o first old names mid) → Moments o first old (names ++ name ∷ []) next
moments_one {o = o} {first = first} {mid = mid} {next = next} {name = name} {text = text} p fresh_name (replaces r id fresh is k) t m =
    let moments = old_or_new o first id name fresh text mid next r (k o p) t in
    moments_more name fresh_name (m (true_before first moments t)) moments
moments_one {first = first} {name = name} p fresh_name (no_name none is) t m =
    moments_more name fresh_name (m (subst (λ (l : List Call). AreTrue first l) is t)) (each_at is no_call)

-- All files of a run.
moments_all : {o : TextOptions} {plan : TextPlan} {shows : Bool} {first : Files} {old start : List Call} {names : List (List ℕ)} {new : List Call} {results : List FileResult} → IsPlanned plan o →
    EachFile (ReplacesShowing plan false shows) start names new results → AllPairs Apart names → AreTrue first new → Moments o first old [] start → Moments o first old names new
moments_all p no_file apart t m = m
moments_all p (then_file {names = names} {name = name} h k told) apart t m =
    moments_one p (last_is_new names name apart) k.does t (λ u. moments_all p h (pairs_before names name apart) u m)

-- Paths that ascend differ.
not_before_itself : (f g : Found) → IsBefore f g → Apart (string_bytes f.path) (string_bytes g.path)
not_before_itself f g h e = grind (arith, tied_itself, nat_list_cmp_total)

apart_names : (files : List Found) → AllPairs IsBefore files → AllPairs Apart (names_of files)
apart_names [] h i j d below within = absurd (omega arith)
apart_names (f ∷ files) h i j d below within =
    let in_files = subst (λ (n : ℕ). j < n) (length-map (f ∷ files) (λ (g : Found). string_bytes g.path)) within in
    let at_i : get_or (names_of (f ∷ files)) i d ≡ string_bytes (get_or (f ∷ files) i f).path =
    get_or-map (λ (g : Found). string_bytes g.path) (f ∷ files) i f d (omega arith) in
    let at_j : get_or (names_of (f ∷ files)) j d ≡ string_bytes (get_or (f ∷ files) j f).path =
    get_or-map (λ (g : Found). string_bytes g.path) (f ∷ files) j f d in_files in
    λ e. not_before_itself (get_or (f ∷ files) i f) (get_or (f ∷ files) j f) (h i j f below in_files) (sym at_i ∙ e ∙ at_j)

moments_by : {o : TextOptions} (args : Arguments) (t : Task) → IsPlanned args.plan o → args.write_into ≡ false → {first : Files} {old start : List Call} {names : List (List ℕ)} {new last : List Call}
    {results : List FileResult} → AllPairs Apart names → AreTrue first new → Moments o first old [] start → EachFile (DoesBy t args) start names new results →
    EachCall TouchesNothing new last →
    EachCall (λ (c : Call) (earlier : List Call). OldOrOutput o first old (c ∷ earlier)) old last
moments_by args Replace p into {start = start} {names = names} {new = new} {results = results} apart t m h k =
    (moments_still (moments_all p (subst (λ (b : Bool). EachFile (ReplacesShowing args.plan b args.show_changes) start names new results) into h) apart t m) k).each
moments_by args Diff p into apart t m h k = (moments_still (moments_still m (shows_touch h)) k).each
moments_by args Names p into apart t m h k = (moments_still (moments_still m (lists_touch h)) k).each

pub run_old_or_new : (o : TextOptions) (first : Files) (run : Run) → IsPlanned run.args.plan o →
    run.args.write_into ≡ false → IsRun run → AreTrue first run.new →
    EachCall (λ (c : Call) (earlier : List Call). OldOrOutput o first run.old (c ∷ earlier))
    run.old run.new
run_old_or_new o first run p into (inl h) t = (moments_still (moments_none o first run.old)
    (each_at h.walk.are (walk_touches h.walk.calls run.old))).each
run_old_or_new o first run p into (inr h) t = let all = h.ends.does in
    moments_by run.args run.args.task p into
    (apart_names all.done (done_before all.is_done h.is_walk.ascend)) (true_before first h.ends.seeks.touches t)
    (moments_still (moments_none o first run.old)
    (each_at h.is_walk.are (walk_touches h.is_walk.calls run.old))) all.each h.ends.seeks.touches

-- No file of another name is listed unless mentions are.
unsought_none : {args : Arguments} {failed is_lost : Bool} {files : List Found} {old new : List Call} {others : Others} → SeeksOthers args failed files old new is_lost others → args.list_remaining ≡ false →
    others_list others.named.items ≡ []
unsought_none {args = args} {failed = failed} h off = let none = (h.unsought (unsought failed)).1 in ap others_list none.named
  where
    unsought : (b : Bool) → seeks_others args b ≡ false
    unsought b = grind (arith, common_steps, off)

-- The diffs of the files of a run, for one choice of options.
each_shows : {o : TextOptions} {plan : TextPlan} {into : Bool} {old : List Call} {names : List (List ℕ)} {new : List Call} {results : List FileResult} → IsPlanned plan o →
    EachFile (ShowsOne plan into) old names new results → EachFile (ShowsAs o into) old names new results
each_shows p no_file = no_file
each_shows {o = o} p (then_file h k t) = then_file (each_shows p h) (k.shows o p) t

-- A run that only shows what would change shows the diffs.
pub run_shows : (o : TextOptions) (run : Run) → IsPlanned run.args.plan o →
    run.args.task ≡ Diff → IsRun run → ShowsDiffs o run
run_shows o run p diff (inl h) = no_diff (record { calls = h.walk.calls; are = h.walk.are }) h.unshown
run_shows o run p diff (inr h) = let all = h.ends.does in
    let shows = h.ends.shows in
    diffs h.mid h.ends.mid h.files all.done all.results (shows.listed ++ others_list h.ends.tally.others.named.items) h.is_walk all.is_done
    (each_shows p (subst (λ (t : Task). EachFile (DoesBy t run.args) h.mid (names_of all.done) h.ends.mid all.results) diff all.each))
    h.ends.seeks.touches (shows.shown_is ∙ append_assoc _ shows.listed _) (λ off. ap (λ (x : List ℕ). x ++ others_list h.ends.tally.others.named.items) (shows.is_wanted (λ names. absurd cc) off) ∙ unsought_none h.ends.seeks off)
