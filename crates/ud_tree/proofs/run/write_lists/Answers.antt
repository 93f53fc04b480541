use Rattle.std.proofs.Common.{ℕ, List, ◌++◌, true, false, subst, ◌∙◌}
use Rattle.std.proofs.lemmas.Bool.{true≢false}
use Rattle.ud_passes.specs.names.NameTables.{names_in, Tabulates}
use Rattle.ud_tree.proofs.RunLemmas.{writes_list}
use Rattle.ud_tree.proofs.ReportLemmas.{tells_none}
use Rattle.ud_io.proofs.StreamLemmas.{sends_same}
use Rattle.ud_tree.proofs.run.write_lists.Goals as goal

pub returns-then-not-lacks_memory-clause-writes : goal.returns-then-not-lacks_memory-clause-writes
returns-then-not-lacks_memory-clause-writes g c =
    writes_list c.args.job.now.arguments.now c.args.names.now false _ _ (λ other. c.append_names-listed.ensures.other other ∙ c.new-list.ensures.items)
    (λ is whole. subst (λ (x : List ℕ). Tabulates (names_in c.args.names.now.list.items) (x ++ c.args.names.now.hidden_list.items) c.append_names-listed.new.list.items) c.new-list.ensures.items
    (c.append_names-listed.ensures.names c.if-listed.true is))
    (sends_same c.as_slice.ensures.value c.send.ensures) c.write_remaining.ensures

pub returns-clause-writes : goal.returns-clause-writes
returns-clause-writes g c =
    writes_list c.args.job.now.arguments.now c.args.names.now true _ _ (λ other. c.append_names-listed.ensures.other other ∙ c.new-list.ensures.items)
    (λ is whole. absurd (true≢false whole))
    (sends_same c.as_slice.ensures.value c.send.ensures) c.write_remaining.ensures

pub returns-then-not-lacks_memory-clause-told : goal.returns-then-not-lacks_memory-clause-told
returns-then-not-lacks_memory-clause-told g c = tells_none c.args.report.now
