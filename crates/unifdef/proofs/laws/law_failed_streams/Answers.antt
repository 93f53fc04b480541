use Rattle.unifdef.proofs.FailureLemmas.{failed_write_message}
use Rattle.unifdef.proofs.laws.law_failed_streams.Goals as goal

pub returns-clause-write_message : goal.returns-clause-write_message
returns-clause-write_message g c = failed_write_message
