use Rattle.std.proofs.Common.{ℕ, ap, map, refl, sym, subst, ◌<◌, ◌∙◌, length}
use Rattle.ud_tree.specs.WalkMessages.{no_match}
use Rattle.ud_tree.proofs.WalkLemmas.{walk_found}
use Rattle.ud_tree.proofs.CoverLemmas.{on_err_always, paths_kept}
use Rattle.ud_tree.proofs.WalkTellLemmas.{walk_none, stops_told, stops_bad, some_files, some_unless, some_told}
use Rattle.ud_tree.proofs.find_files.find_files.Goals.{else-is_empty-via-then-is_empty+else-not-job, else-is_empty-via-else-is_empty}
use Rattle.ud_tree.proofs.UnmatchedLemmas.{counted_from, leaves_rules, scope_same, unmarked_first}
use Rattle.ud_tree.proofs.find_files.find_files.Goals as goal

pub returns-then-not-all-clause-ends : goal.returns-then-not-all-clause-ends
returns-then-not-all-clause-ends g c = λ none. record { files = tt; stops = c.in_ok-all.ensures.walks.stops c.if-not-all.true none }

pub returns-then-faults-gt0-clause-ends : goal.returns-then-faults-gt0-clause-ends
returns-then-faults-gt0-clause-ends g c = λ none. record {
  files = tt;
  stops = stops_bad _ none c.if-not-job.true (subst (λ (n : ℕ). 0 < n) c.faulty-faults.ensures c.if-faults-gt0.true) c.walk_all.ensures.told;
}

pub returns-then-not-job-clause-ends : goal.returns-then-not-job-clause-ends
returns-then-not-job-clause-ends g c = λ none. record { files = tt; stops = stops_told (λ ms. no_match c.if-not-job.true refl) c.walk_all.ensures.told c.line.ensures }

pub returns-clause-ends : goal.returns-clause-ends
returns-clause-ends g c = λ none. record {
  files = record {
    is_walk = walk_found c.in_ok-files.files.items c.in_ok-walk.ensures.found c.in_ok-all.ensures.finds c.in_ok-files.ensures;
    some = elim c.else-is_empty.branch [
      | else-is_empty-via-then-is_empty+else-not-job w ↦ some_unless _ _ w.if-not-job.false
      | else-is_empty-via-else-is_empty w ↦ some_files _ _ _ _ (sym c.in_ok-files.files.ok.0) c.is_empty.ensures w.if-is_empty.false
    ];
    reports = c.walk_all.ensures.told;
    paths = paths_kept c.walk_all.new.walk.found.items c.in_ok-files.files.items (0 < c.walk_all.new.report.faulty) (0 < length c.walk_all.ensures.told.messages)
        (λ some. some_told c.args.report.now.faulty c.walk_all.new.report.faulty
        (length c.walk_all.ensures.told.messages) none c.walk_all.ensures.told.counted some)
        c.in_ok-files.ensures.kept c.in_ok-files.ensures.from
        (c.in_ok-all.ensures.walks.takes c.if-not-all.false);
    leaves = leaves_rules (length c.walk_all.ensures.told.messages) c.faulty-faults.result
        (λ few. c.faulty-faults.ensures ∙ counted_from c.args.report.now.faulty c.walk_all.new.report.faulty (length c.walk_all.ensures.told.messages) none c.walk_all.ensures.told.counted few)
        (λ some. ap (map (λ r. r.items)) (c.in_ok-rules.ensures.faulty some)) (λ input. ap (map (λ r. r.items)) (c.in_ok-rules.ensures.input input))
        c.in_ok-rules.ensures.each (λ paths. c.in_ok-all.ensures.marks c.if-not-all.false paths)
        (scope_same c.args.job.now.arguments.now c.in_ok-walk.walk (c.in_ok-walk.ensures.paths ∙ c.as_slice-paths.ensures.value) (c.in_ok-walk.ensures.patterns ∙ c.as_slice.ensures.value))
        (unmarked_first c.in_ok-walk.walk c.in_ok-walk.ensures.patterns c.in_ok-walk.ensures.marks);
    faults_are = c.faulty-faults.ensures;
  };
  stops = tt;
}

pub returns-in_err-walk-clause-no_memory : goal.returns-in_err-walk-clause-no_memory
returns-in_err-walk-clause-no_memory g c = on_err_always c.from_residual.result (walk_none (g.T.Directory.history c.args.tree.now) c.args.report.now)
