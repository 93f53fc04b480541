use Rattle.ud_replace.proofs.replacement.replace.Goals as goal

pub returns : goal.returns
returns g c = record { calls = (c.replace_keeping.new.kept.text.items, λ o p. c.replace_keeping.ensures.calls o p) }
