use Rattle.std.proofs.Common.{◌≡◌, [], ◌∷◌, ◌++◌, refl, string_bytes}
use Rattle.std.proofs.lemmas.Result.{on_ok_weaker}
use Rattle.ud_replace.specs.declared.node.Lookup.TheVariants.{Present}
use Rattle.ud_replace.specs.Calls.{met}
use Rattle.ud_tree.specs.WalkSteps.{inside, is_bytes, is_silent, is_told}
use Rattle.ud_tree.specs.WalkSteps.{Meets, scope_of}
use Rattle.ud_tree.proofs.CoverLemmas.{on_err_always}
use Rattle.ud_tree.proofs.LookLemmas.{look_still, loses}
use Rattle.ud_tree.proofs.LookLemmas.{look_at, look_gained}
use Rattle.ud_tree.proofs.walk.Walk.visit.Goals as goal

pub returns-in_err-path-clause-loses : goal.returns-in_err-path-clause-loses
returns-in_err-path-clause-loses g c = on_err_always c.from_residual.result (loses [] tt refl refl)

pub returns-in_err-name-clause-loses : goal.returns-in_err-name-clause-loses
returns-in_err-name-clause-loses g c =
    on_err_always c.from_residual-in_err-name.result (loses [] tt refl refl)

pub returns-in_err-push_str-clause-loses : goal.returns-in_err-push_str-clause-loses
returns-in_err-push_str-clause-loses g c =
    on_err_always c.from_residual-in_err-push_str.result (loses [] tt refl refl)

pub returns-in-Present-clause-loses : goal.returns-in-Present-clause-loses
returns-in-Present-clause-loses g c = on_err_always c.add_node.result
    (loses (met _ (Present c.in-Present.node) ∷ []) (refl, tt)
    c.in-Present.ensures refl)

pub returns-in_default-clause-look : goal.returns-in_default-clause-look
returns-in_default-clause-look g c = look_still refl refl (is_told _ c.fault_in.ensures)
    (is_bytes _ c.in_default.ensures.cases.0 refl)

pub returns-in-Present-clause-look : goal.returns-in-Present-clause-look
returns-in-Present-clause-look g c =
    let named : c.as_str-whole.result.now
    ≡ string_bytes c.args.directory.now.path ++ c.args.name.now =
    cc (
      c.as_str-whole.ensures.value,
      c.in_ok-push_str.ensures.bytes,
      c.in-Ok.ensures.cases.0,
      c.in_ok-path.ensures.ok,
    ) in
    on_ok_weaker c.add_node.result (λ (m : Meets (scope_of c.args.self.now)
    (inside c.as_str-whole.result.now c.args.name.now) c.in-Present.node [] c.args.self.now
    c.add_node.new.self). look_at named (look_gained m.gains c.in-Present.ensures
    (is_silent refl) m.looks refl refl)) c.add_node.ensures
