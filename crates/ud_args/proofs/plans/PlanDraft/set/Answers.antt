use Rattle.std.proofs.Common.{◌≡◌, refl}
use Rattle.ud_model.specs.answer.CommandLine.{flag, operand}
use Rattle.ud_args.proofs.PlanLemmas.{represents_flag, represents_mode, represents_operand}
use Rattle.ud_args.proofs.plans.PlanDraft.set.Goals as goal

pub returns-in-Flag-clause-ok : goal.returns-in-Flag-clause-ok
returns-in-Flag-clause-ok c = λ g free is gs p.
    let before = rw (← c.self.view_is) at p in
    let none = rw (← c.self.view_is) at free in
    let given : g ≡ flag c.in-Flag.letter = rw (c.in-Flag.is) at is in
    rw given (represents_flag _ _ gs c.in-Flag.letter before none c.with_flag-self-inside.ensures refl refl)

pub returns-in-Mode-clause-ok : goal.returns-in-Mode-clause-ok
returns-in-Mode-clause-ok c = λ g free is gs p.
    let before = rw (← c.self-in-Mode.view_is) at p in
    let none = rw (← c.self-in-Mode.view_is) at free in
    let given = rw (c.in-Mode.is) at is in
    rw (given.2) (represents_mode _ _ gs given.0 given.1 c.in-Mode.mode before none given.3 refl refl refl)

pub returns-in-Operand-clause-ok : goal.returns-in-Operand-clause-ok
returns-in-Operand-clause-ok c = λ g free is gs p.
    let before = rw (← c.self-in-Operand.view_is) at p in
    let none = rw (← c.self-in-Operand.view_is) at free in
    let given : g ≡ operand c.in-Operand.index c.in-Operand.name.now = rw (c.in-Operand.is) at is in
    rw given (represents_operand _ _ gs c.in-Operand.index c.in-Operand.name.now before none refl refl refl)
