use Rattle.std.proofs.Common.{◌∙◌, codes}
use Rattle.ud_io.proofs.StreamLemmas.{sent_as}
use Rattle.unifdef.proofs.MessageLemmas.{three_joined}
use Rattle.unifdef.proofs.diagnostics.usage_messages.report_number.Goals as goal

pub returns : goal.returns
returns g c = sent_as c.requires.not_failed (three_joined c.args.text.now (codes "\n") (c.as_bytes-number.ensures.value ∙ c.format.ensures.text)) c.send_parts.ensures
