use Rattle.std.proofs.Common.{append-nil, refl, sym}
use Rattle.ud_tree.proofs.ScopeLemmas.{rooted_directory}
use Rattle.ud_tree.proofs.walk.Walk.add_directory.Goals as goal

pub returns : goal.returns
returns c = record {
  directory = record { path = c.in_ok-path.path; root = c.args.root };
  has_path = c.in_ok-path.ensures;
  rooted = rooted_directory c.in_ok-path.ensures c.requires;
  gains = record {
    scope = refl;
    found = sym (append-nil c.args.self.now.found.items);
    waits = c.in_ok-push.ensures.items;
  };
  marks = refl;
}
