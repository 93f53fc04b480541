use Rattle.ud_tree.proofs.WalkTellLemmas.{paths_given, paths_covered, if_ok_both, stops_bad, stops_by}
use Rattle.ud_tree.proofs.find_files.walk_all.Goals as goal

pub returns-then-job-clause-walks : goal.returns-then-job-clause-walks
returns-then-job-clause-walks g c = if_ok_both c.add_input.result
    (λ all takes stops. record {
      takes = λ is. paths_given c.args.job.now.arguments.now c.if-job.true (takes is);
      stops = λ cut none. stops_by c.if-job.true (stops cut);
    }) c.add_input.ensures.takes c.add_input.ensures.stops

pub returns-clause-walks : goal.returns-clause-walks
returns-clause-walks g c = if_ok_both c.walk_paths.result
    (λ all covers refused. record {
      takes = λ is. paths_covered c.args.job.now.arguments.now c.if-job.false (covers is) c.requires.scope;
      stops = λ bad none. stops_bad _ none c.if-job.false (refused bad) c.walk_paths.ensures.told;
    }) c.walk_paths.ensures.covers c.walk_paths.ensures.refused
