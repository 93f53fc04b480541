use Rattle.std.proofs.Common.{refl, subst, List}
use Rattle.std.specs.List.{All, Contains}
use Rattle.ud_tree.specs.declared.walk.Found.{Found}
use Rattle.ud_tree.specs.Walks.{IsBefore}
use Rattle.std.proofs.lemmas.List.Elements.{All-contains_itself}
use Rattle.ud_tree.proofs.PickLemmas.{picked_new, picked_same, others_kept}
use Rattle.ud_tree.proofs.KeepLemmas.{kept_by_path, kept_by_key, kept_itself}
use Rattle.ud_tree.proofs.walk.pick.Goals as goal

pub returns-in_ok-push-clause-picked : goal.returns-in_ok-push-clause-picked
returns-in_ok-push-clause-picked c =
    picked_new c.args.seen.now c.insert.new.self c.args.files.now.items c.push.new.self.items c.args.found c.in_ok-is_new.is_new c.in_ok-is_new.ensures.added c.if-is_new.true
    c.in_ok-is_new.ensures.updates
    (subst (λ (fs : List Found). All (λ f. IsBefore f c.args.found) fs) c.as_slice.ensures.value
    (c.if-not-comes_after.ensures.after refl)) c.in_ok-push.ensures.items c.requires.picked

pub returns-in_ok-push-clause-others : goal.returns-in_ok-push-clause-others
returns-in_ok-push-clause-others c = others_kept c.args.files.now.items c.push.new.self.items c.args.found c.in_ok-push.ensures.items

pub returns-in_ok-push-clause-kept : goal.returns-in_ok-push-clause-kept
returns-in_ok-push-clause-kept c = kept_itself c.args.files.now.items c.push.new.self.items c.args.found c.in_ok-push.ensures.items

pub returns-then-not-comes_after-clause-kept : goal.returns-then-not-comes_after-clause-kept
returns-then-not-comes_after-clause-kept c =
    kept_by_path c.args.files.now.items c.args.found c.requires.sorted
    (let h = c.if-not-comes_after.ensures.before refl in (h.0, subst (λ (fs : List Found). Contains fs h.0) c.as_slice.ensures.value h.1, h.2))

pub returns-then-not-comes_after-clause-others : goal.returns-then-not-comes_after-clause-others
returns-then-not-comes_after-clause-others c = All-contains_itself c.args.files.now.items

pub returns-else-is_new-clause-kept : goal.returns-else-is_new-clause-kept
returns-else-is_new-clause-kept c = kept_by_key c.args.seen.now c.args.files.now.items c.args.found c.in_ok-is_new.is_new c.requires.picked c.in_ok-is_new.ensures.added c.if-is_new.false

pub returns-else-is_new-clause-others : goal.returns-else-is_new-clause-others
returns-else-is_new-clause-others c = All-contains_itself c.args.files.now.items

pub returns-else-is_new-clause-picked : goal.returns-else-is_new-clause-picked
returns-else-is_new-clause-picked c =
    picked_same c.args.seen.now c.insert.new.self c.args.files.now.items _ c.in_ok-is_new.is_new c.in_ok-is_new.ensures.added c.if-is_new.false c.in_ok-is_new.ensures.updates c.requires.picked
