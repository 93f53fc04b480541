use Rattle.std.proofs.Common.{append-nil, refl, sym}
use Rattle.ud_tree.proofs.walk.Walk.push_file.Goals as goal

pub returns : goal.returns
returns c = record {
  file = record { path = c.in_ok-path.path; id = c.args.id };
  has_path = c.in_ok-path.ensures.ok;
  has_id = refl;
  gains = record {
    scope = refl;
    found = c.in_ok-push.ensures.items;
    waits = sym (append-nil c.args.self.now.directories.items);
  };
  marks = refl;
}
