-- From the first line to the last.
use Rattle.std.proofs.Common.{ℕ, List, [], length, append-nil, sym, ap, arith}
use Rattle.ud_passes.proofs.UnlistedLemmas.{first_place}
use Rattle.ud_passes.proofs.names.texts.File.append_unlisted.Goals as goal

pub loop-walk-init : goal.loop-walk-init
loop-walk-init c = record {
  grows = ([], sym (append-nil c.args.out.now.items));
  numbers = let e = ap (λ (x : List ℕ). length x) c.new-walk.ensures.rest in omega (arith, e);
  counts = let e = ap (λ (x : List ℕ). length x) c.new-walk.ensures.rest in omega (arith, e);
  listed = first_place c.args.self c.args.text.now c.args.out.now.items c.new-walk.result (c.new-walk.ensures.walked c.args.self.mode);
}
