use Rattle.std.proofs.Common.{arith}
use Rattle.ud_cond.proofs.lemmas.symbols.FilterLemmas.{slot-inserted, slot-kept}
use Rattle.ud_cond.proofs.symbols.name_filter.NameFilter.insert.Goals as goal

pub returns-clause-inserted : goal.returns-clause-inserted
returns-clause-inserted c = slot-inserted c.args.self.now.words c.slot_of-slot.result (omega arith) c.args.key c.slot_of-slot.ensures.value

pub returns-clause-others_kept : goal.returns-clause-others_kept
returns-clause-others_kept c = slot-kept c.args.self.now.words c.slot_of-slot.result (omega arith)
