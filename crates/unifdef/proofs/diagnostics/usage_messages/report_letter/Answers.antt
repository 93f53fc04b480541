use Rattle.std.proofs.Common.{◌∙◌}
use Rattle.ud_io.proofs.StreamLemmas.{sent_as}
use Rattle.unifdef.proofs.MessageLemmas.{three_joined}
use Rattle.unifdef.proofs.diagnostics.usage_messages.report_letter.Goals as goal

pub returns : goal.returns
returns g c = sent_as c.requires.not_failed (three_joined c.args.before.now c.args.after.now (c.as_bytes-bytes.ensures.value ∙ c.encode_utf8.ensures.value)) c.send_parts.ensures
