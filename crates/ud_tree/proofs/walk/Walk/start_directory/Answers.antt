use Rattle.std.proofs.Common.{append-nil, arith, refl, sym}
use Rattle.std.proofs.lemmas.Grind.{common_steps}
use Rattle.ud_tree.proofs.ScopeLemmas.{rooted_start}
use Rattle.ud_tree.proofs.walk.Walk.start_directory.Goals as goal

pub returns : goal.returns
returns c = record {
  directory = record { path = c.in_ok-path.path; root = c.len-root.result };
  has_path = c.in_ok-path.ensures;
  rooted = rooted_start c.len-root.result c.requires c.in_ok-path.ensures
      (grind (arith, common_steps));
  gains = record {
    scope = refl;
    found = sym (append-nil c.args.self.now.found.items);
    waits = c.in_ok-push.ensures.items;
  };
  marks = refl;
}
