use Rattle.std.proofs.Common.{Some}
use Rattle.std.proofs.lemmas.Result.{on_ok_weaker}
use Rattle.ud_cond.specs.CondViews.{argument_for}
use Rattle.ud_cond.proofs.lemmas.symbols.TableLemmas.{represents-changes}
use Rattle.ud_cond.proofs.symbols.Symbols.define.Goals as goal

pub returns-clause-represents : goal.returns-clause-represents
returns-clause-represents c = on_ok_weaker c.update.result
    (λ changed. λ calls represents. represents-changes c.args.self.now c.update.new.self calls
    (argument_for c.args.name.now (Some c.args.value.now) c.args.ignoring) changed represents) c.update.ensures.ok
