use Rattle.std.proofs.Common.{◌∙◌, sym, refl, arith}
use Rattle.std.proofs.lemmas.Iterator.Adapters.{YieldsList-from_vec}
use Rattle.std.proofs.lemmas.Iterator.Consumers.{YieldsList-turn, YieldsList-so_far, YieldsList-end}
use Rattle.std.proofs.lemmas.List.Sorted.{Contains-permutation, IsPermutation-sym}
use Rattle.ud_tree.specs.contracts.walk.FoundOrd.TheImpl.{cmp-value}
use Rattle.ud_tree.proofs.PickLemmas.{picked_next}
use Rattle.ud_tree.proofs.KeepLemmas.{sorted_files, kept_all}
use Rattle.ud_tree.proofs.walk.Walk.finish.Goals as goal

pub loop-found-init : goal.loop-found-init
loop-found-init c = grind (arith, c.new-seen.ensures.empty, c.new-files.ensures.items)

pub pick-requires : goal.pick-requires
pick-requires c = let b = c.into_iter-found-iterator.ensures.into_iter_gives in
    let from = YieldsList-from_vec c.sort.new.self.items b.0 (b.1 ∙ c.sort.new.self.ok.0) in
    let t = YieldsList-turn from c.loop-found.yielded c.loop-found.found-iterator c.loop-found.yielded_by c.next.result c.next.new.self c.in-Some.found c.in-Some.is c.next.ensures.steps in
    record {
      picked = c.loop-found.invariant.picked;
      sorted = sorted_files cmp-value.it c.sort.new.self.items c.loop-found.yielded c.loop-found.files.items (λ f g b. rw b refl) c.in_ok-sort.ensures.sorted c.in-Some.found t.0 t.1
          (YieldsList-so_far from c.loop-found.yielded c.loop-found.found-iterator c.loop-found.yielded_by) c.loop-found.invariant.within;
    }

pub loop-found-preserved : goal.loop-found-preserved
loop-found-preserved c = let b = c.into_iter-found-iterator.ensures.into_iter_gives in
    let t = YieldsList-turn (YieldsList-from_vec c.sort.new.self.items b.0 (b.1 ∙ c.sort.new.self.ok.0))
    c.loop-found.yielded c.loop-found.found-iterator c.loop-found.yielded_by c.next.result c.next.new.self
    c.in-Some.found c.in-Some.is c.next.ensures.steps in
    picked_next c.in-Some.found c.loop-found.invariant c.in_ok-pick.ensures.picked
    (Contains-permutation c.sort.new.self.items c.args.self.found.items c.in-Some.found (IsPermutation-sym _ _ c.sort.ensures.permutation) (_, t.0, sym t.1))
    c.pick.ensures.from c.in_ok-pick.ensures.others c.in_ok-pick.ensures.kept

pub returns : goal.returns
returns c = let b = c.into_iter-found-iterator.ensures.into_iter_gives in
    let ends = YieldsList-end (YieldsList-from_vec c.sort.new.self.items b.0 (b.1 ∙ c.sort.new.self.ok.0))
    c.loop-found.yielded c.loop-found.found-iterator c.loop-found.yielded_by c.next.result c.next.new.self c.in-None.is
    c.next.ensures.steps in
    record {
      from = c.loop-found.invariant.from;
      kept = kept_all c.loop-found.files.items c.loop-found.yielded c.sort.new.self.items c.args.self.found.items ends.0
          (λ f inside. Contains-permutation c.args.self.found.items c.sort.new.self.items f c.sort.ensures.permutation inside) c.loop-found.invariant.kept;
      ascend = c.loop-found.invariant.picked.ascend;
      once = c.loop-found.invariant.picked.once;
    }
