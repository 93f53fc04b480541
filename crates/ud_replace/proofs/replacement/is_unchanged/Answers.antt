use Rattle.std.proofs.Common.{None}
use Rattle.ud_replace.specs.Filling.{seen_other}
use Rattle.ud_replace.proofs.VersionLemmas.{looks}
use Rattle.ud_replace.proofs.replacement.is_unchanged.Goals as goal

pub returns-in-Some : goal.returns-in-Some
returns-in-Some g c = looks c.args.name.now c.args.stat.now c.in-Some.seen _ _ c.eq.result c.eq.ensures c.in-Some.ensures

pub returns-in-None : goal.returns-in-None
returns-in-None g c = seen_other None (λ h. h) c.in-None.ensures
