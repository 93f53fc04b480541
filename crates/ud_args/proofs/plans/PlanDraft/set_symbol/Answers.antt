-- The symbol is added as the last one.
use Rattle.std.proofs.lemmas.Grind.{common_steps}
use Rattle.std.proofs.Common.{◌≡◌, ◌++◌, ◌∷◌, [], refl, option_map, arith}
use Rattle.std.specs.List.{filter_map}
use Rattle.ud_cond.specs.CondViews.{argument_for}
use Rattle.ud_cond.specs.symbols.SymbolTable.{TableRepresents}
use Rattle.ud_cond.proofs.lemmas.symbols.TableLemmas.{entry_from-push}
use Rattle.ud_model.specs.answer.CommandLine.{argument_in}
use Rattle.ud_args.proofs.PlanLemmas.{represents_symbol}
use Rattle.ud_args.proofs.plans.PlanDraft.set_symbol.Goals as goal

pub returns-clause-ok : goal.returns-clause-ok
returns-clause-ok c = λ g free sets gs p.
    let before = rw (← c.self.view_is) at p in
    let none = rw (← c.self.view_is) at free in
    let a = argument_for c.args.name.now (option_map (λ v. v.now) c.args.value) c.args.ignoring in
    let table : TableRepresents (c.self.inside.rows.items ++ a ∷ [])
    (filter_map argument_in gs ++ a ∷ []) = grind (arith, entry_from-push) in
    let pushed : c.push.new.self.items ≡ c.self.inside.rows.items ++ a ∷ [] =
    grind (arith, common_steps) in
    represents_symbol _ _ gs g a before none sets refl (rw pushed table) refl
