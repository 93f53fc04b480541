-- The files of other names, and which of them name a symbol.
use Rattle.std.proofs.Common.{◌≡◌, ◌⊎◌, inl, inr, ℕ, ◌<◌, ◌≤◌, ◌+◌, List, [], ◌∷◌, ◌++◌, length, get_or, map, cond, Bool, true, false, not, Result, Ok, Err, is_ok, refl, sym, ap, ◌∙◌, subst, true≢false, ◌^◌, arith, bytes_eq, is_eq, is_lt}
use Rattle.std.proofs.lemmas.Bool.{cases_lt}
use Rattle.std.proofs.lemmas.Cmp.{nat_list_cmp_total}
use Rattle.std.proofs.lemmas.List.{map-append}
use Rattle.std.proofs.lemmas.List.Elements.{filter-append}
use Rattle.std.proofs.lemmas.List.Folds.{list_any_at, list_any_none}
use Rattle.std.proofs.lemmas.List.Sums.{sum_by_push}
use Rattle.std.proofs.lemmas.List.Sorted.{searchable_from_sorted}
use Rattle.std.proofs.lemmas.Map.Text.{is_eq-slice_cmp}
use Rattle.std.specs.Cmp.Lexicographic.{slice_cmp}
use Rattle.std.specs.List.{AllPairs, All}
use Rattle.std.specs.List.Sorted.{IsSearchInRange, IsBinarySearchResult, IsNonDecreasingBy}
use Rattle.std.specs.Ordering.{nat_cmp, ordering_index, ordering_reverse}
use Rattle.std.specs.declared.cmp.Ordering.{Ordering}
use Rattle.std.specs.declared.cmp.Ordering.TheVariants.{Less, Equal, Greater}
use Rattle.std.specs.Prelude.{string_bytes, filter, count_by}
use Rattle.ud_model.specs.conditions.Table.{Argument}
use Rattle.ud_cond.specs.symbols.SymbolTable.{TableRepresents}
use Rattle.ud_replace.specs.declared.node.Sample.{Sample}
use Rattle.ud_replace.specs.Calls.{Call, sampled}
use Rattle.ud_replace.specs.Moments.{EachCall, then_call}
use Rattle.ud_tree.specs.declared.other_files.OtherKind.{OtherKind}
use Rattle.ud_tree.specs.declared.other_files.Others.{Others}
use Rattle.ud_tree.specs.declared.walk.Found.{Found}
use Rattle.ud_tree.specs.Covering.{CoversPaths, IsIn}
use Rattle.ud_tree.specs.Others.{Look, kind_of, names, is_unsearched, calls_of, is_among, is_named, is_left, AreNone, ReadsOthers, WalksOthers, AreOthers, no_path, others_scope}
use Rattle.ud_tree.specs.Reports.{ReportState}
use Rattle.ud_tree.specs.TreeMoments.{TouchesNothing}
use Rattle.ud_tree.specs.Walks.{Finds, IsBefore, IsFileList}
use Rattle.ud_tree.specs.WalkMessages.{ReportsWalk}
use Rattle.ud_tree.specs.declared.arguments.Arguments.{Arguments}
use Rattle.ud_tree.proofs.CoverLemmas.{covers_kept}
use Rattle.ud_tree.proofs.RunLemmas.{number_push}
use Rattle.ud_tree.proofs.TreeLaws.{each_at, walk_touches}
use Rattle.ud_tree.proofs.WalkLemmas.{walk_found}
use Rattle.ud_tree.proofs.WalkTellLemmas.{some_told}

-- 1. A binary search finds the file with a path.

-- How the path of a file compares with that of another one.
abbrev pub by_path : Found → Found → Ordering
by_path f g = slice_cmp nat_cmp (string_bytes g.path) (string_bytes f.path)

-- The paths of files that ascend don't fall.
rise : (files : List Found) (f : Found) → AllPairs IsBefore files → IsNonDecreasingBy (λ g. ordering_index (by_path f g)) files
rise files f ascend = searchable_from_sorted nat_list_cmp_total (λ g. string_bytes g.path) files (string_bytes f.path) (λ k d low high.
    ap is_lt (nat_list_cmp_total.antisymm (string_bytes (get_or files (k + 1) d).path) (string_bytes (get_or files k d).path)
    ∙ ap ordering_reverse (ascend k (k + 1) d (omega arith) high)))

-- Paths are equal if they compare so.
same_path : (f g : Found) (o : Ordering) → by_path f g ≡ o → bytes_eq (string_bytes g.path) (string_bytes f.path) ≡ is_eq o
same_path f g o is = sym (is_eq-slice_cmp (string_bytes g.path) (string_bytes f.path)) ∙ ap is_eq is

-- The search answers whether one of the files has the path.
pub is_among_searched : (files : List Found) (f : Found) (r : Result ℕ ℕ) → AllPairs IsBefore files → IsSearchInRange r (length files) → IsBinarySearchResult (by_path f) files r →
    is_ok r ≡ is_among files f
is_among_searched files f (Ok i) ascend within at =
    sym (list_any_at (λ g. bytes_eq (string_bytes g.path) (string_bytes f.path)) files i f within (same_path f (get_or files i f) Equal (at f)))
is_among_searched files f (Err i) ascend within at = sym (list_any_none (λ g. bytes_eq (string_bytes g.path) (string_bytes f.path)) files none)
  where
    none : All (λ g. bytes_eq (string_bytes g.path) (string_bytes f.path) ≡ false) files
    none k d inside = by_side (cases_lt k i)
      where
        by_side : (k < i) ⊎ (i ≤ k) → bytes_eq (string_bytes (get_or files k d).path) (string_bytes f.path) ≡ false
        by_side (inl low) = same_path f (get_or files k d) Less ((at (rise files f ascend)).0 k d (omega arith) low)
        by_side (inr high) = same_path f (get_or files k d) Greater ((at (rise files f ascend)).1 k d high inside)

-- 2. Files are read in turn.

calls_push : (looks : List Look) (l : Look) (old : List Call) → calls_of (looks ++ l ∷ []) old ≡ sampled (string_bytes l.file.path) l.text l.answer ∷ calls_of looks old
calls_push [] l old = refl
calls_push (k ∷ looks) l old = calls_push looks l (sampled (string_bytes k.file.path) k.text k.answer ∷ old)

-- A call that read a file touches none.
pub touches_more : {name text : List ℕ} {old mid new : List Call} (answer : Sample) → EachCall TouchesNothing old mid → new ≡ sampled name text answer ∷ mid →
    EachCall TouchesNothing old new
touches_more answer h is = each_at is (then_call h (λ n t. true≢false (sym t)))

module _ {args : Arguments} {files : List Found} where
  -- No file was read yet.
  pub reads_none : (calls : List Call) (others : Others) → AreNone others → ReadsOthers args files [] calls calls others
  reads_none calls others h = record { looks = []; files_are = refl; calls_are = refl; others_are = λ table r. record { named = h.named; unsearched = λ small. h.unsearched } }

  -- Another one was read.
  pub reads_more : {all : List Found} {others after : Others} {old mid new : List Call} (f : Found) (path text : List ℕ) (answer : Sample) (kind : OtherKind) →
      is_among files f ≡ false → path ≡ string_bytes f.path → ReadsOthers args files all old mid others →
      new ≡ sampled path text answer ∷ mid →
      ((table : List Argument) → TableRepresents args.plan.run.symbols table → kind ≡ kind_of table text answer) →
      after.named.items ≡ others.named.items ++ cond (names kind) (f ∷ []) [] →
      (others.unsearched + cond (is_unsearched kind) 1 0 < 2 ^ 64 → after.unsearched ≡ others.unsearched + cond (is_unsearched kind) 1 0) →
      ReadsOthers args files (all ++ f ∷ []) old new after
  reads_more {all = all} {others = others} {after = after} {old = old} {mid = mid} f path text answer kind is at h call tells grown counted = record {
    looks = h.looks ++ look ∷ [];
    files_are = map-append (λ l. l.file) h.looks (look ∷ []) ∙ ap (λ (fs : List Found). fs ++ f ∷ []) h.files_are
        ∙ ap (λ (b : Bool). filter (λ g. not (is_among files g)) all ++ cond (not b) (f ∷ []) []) (sym is)
        ∙ sym (filter-append (λ g. not (is_among files g)) all (f ∷ []));
    calls_are = call ∙ ap (λ (p : List ℕ). sampled p text answer ∷ mid) at ∙ ap (λ (cs : List Call). sampled (string_bytes f.path) text answer ∷ cs) h.calls_are
        ∙ sym (calls_push h.looks look old);
    others_are = λ table r. record {
      named = grown ∙ ap (λ (fs : List Found). fs ++ cond (names kind) (f ∷ []) []) (h.others_are table r).named
          ∙ ap (λ (k : OtherKind). map (λ l. l.file) (filter (is_named table) h.looks) ++ cond (names k) (f ∷ []) []) (tells table r)
          ∙ ap (λ (fs : List Found). map (λ l. l.file) (filter (is_named table) h.looks) ++ fs) (one (is_named table look))
          ∙ sym (map-append (λ l. l.file) (filter (is_named table) h.looks) (filter (is_named table) (look ∷ [])))
          ∙ ap (map (λ l. l.file)) (sym (filter-append (is_named table) h.looks (look ∷ [])));
      unsearched = number_push (count_by (is_left table) h.looks) (count_by (is_left table) (h.looks ++ look ∷ [])) others.unsearched (cond (is_left table look) 1 0) after.unsearched
          (sum_by_push (λ (l : Look). cond (is_left table l) 1 0) h.looks look) (h.others_are table r).unsearched
          (subst (λ (k : OtherKind). others.unsearched + cond (is_unsearched k) 1 0 < 2 ^ 64 → after.unsearched ≡ others.unsearched + cond (is_unsearched k) 1 0) (tells table r) counted);
    };
  }
    where
      look : Look
      look = record { file = f; text = text; answer = answer }

      one : (b : Bool) → cond b (f ∷ []) [] ≡ map (λ l. l.file) (cond b (look ∷ []) [])
      one true = refl
      one false = refl

-- 3. The walk over files of all names.

-- It touches no file.
pub walked_touches : {calls calls' : List Call} {r r' : ReportState} →
    ReportsWalk calls calls' r r' → EachCall TouchesNothing calls calls'
walked_touches {calls = calls} h = each_at h.walk.are (walk_touches h.walk.calls calls)

-- It found all files.
pub walked_over : {args : Arguments} {calls calls' : List Call} {before found : List Found}
    {r r' : ReportState} (files : List Found) → before ≡ [] → r.faulty ≡ 0 →
    ReportsWalk calls calls' r r' → Finds calls calls' before found →
    CoversPaths (others_scope args) calls calls' IsIn found (0 < r'.faulty) →
    IsFileList found files → WalksOthers args calls calls' files
walked_over {found = found} {r = r} {r' = r'} files empty none h met covers l = record {
  messages = h.messages;
  walk = h.walk;
  is_walk = walk_found files empty met l;
  covers = covers_kept found files (0 < r'.faulty) (0 < length h.messages)
      (λ some. some_told r.faulty r'.faulty (length h.messages) none h.counted some) l.kept
      l.from covers;
}

-- A path of the command line can't be taken any more.
pub none_walked : {args : Arguments} {files : List Found} {calls calls' : List Call}
    {r r' : ReportState} {others : Others} → r.faulty ≡ 0 → ReportsWalk calls calls' r r' →
    0 < r'.faulty → AreNone others → AreOthers args files calls calls' others
none_walked {r = r} {r' = r'} none h bad empty = no_path h.messages h.walk
    (some_told r.faulty r'.faulty (length h.messages) none h.counted bad) empty
