use Rattle.std.proofs.Common.{◌∙◌}
use Rattle.ud_io.proofs.StreamLemmas.{sent_as}
use Rattle.unifdef.proofs.MessageLemmas.{premature_joined}
use Rattle.unifdef.proofs.diagnostics.fault_messages.report_premature_eof.Goals as goal

pub returns : goal.returns
returns g c = sent_as c.requires.not_failed
    (premature_joined c.args.line c.args.if_line c.args.name.now c.as_bytes-number.result.now c.as_bytes-if_number.result.now
    (c.as_bytes-number.ensures.value ∙ c.format.ensures.text) (c.as_bytes-if_number.ensures.value ∙ c.format-2.ensures.text))
    c.send_parts.ensures
