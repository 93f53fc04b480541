use Rattle.std.proofs.Common.{[], refl}
use Rattle.ud_tree.specs.WalkSteps.{is_no_file, is_told}
use Rattle.ud_tree.proofs.LookLemmas.{gains_none}
use Rattle.ud_tree.proofs.walk.Walk.add_given.Goals as goal

pub returns-in-Other-clause-meets : goal.returns-in-Other-clause-meets
returns-in-Other-clause-meets g c = record {
  messages = _;
  meets = record {
    files = [];
    directories = [];
    gains = gains_none refl;
    looks = is_no_file c.args.node (λ in_it. in_it) c.in-Other.is refl;
  };
  told = is_told _ (rw c.as_bytes.ensures.value at c.fault.ensures);
}
