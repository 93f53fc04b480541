use Rattle.std.proofs.Common.{◌∙◌}
use Rattle.ud_tree.specs.Runs.{replaces}
use Rattle.ud_tree.proofs.replace_file.replace_named.Goals as goal

pub returns-in-Ok-clause-replaces : goal.returns-in-Ok-clause-replaces
returns-in-Ok-clause-replaces g c =
    replaces c.replace_keeping.result c.args.file.id c.as_slice.result.now (c.as_slice.ensures.value ∙ c.in-Ok.ensures) (λ o h. c.replace_keeping.ensures.calls o h)

pub returns-in-Ok-clause-keeps : goal.returns-in-Ok-clause-keeps
returns-in-Ok-clause-keeps g c = λ ok o h.
    (c.args.file.id, rw (c.as_slice.ensures.value ∙ c.in-Ok.ensures) at (c.replace_keeping.ensures.output o h ok))
